-- Putting bytes into a sink, one part after the other.
use Rattle.std.proofs.Common.{◌≡◌, ℕ, ◌+◌, List, [], ◌++◌, length, arith, length-append, subst, Option, true, false, inl, inr, refl, sym, ap, ◌∙◌, append_assoc, append-nil}
use Rattle.std.proofs.lemmas.Bool.{cases_Bool, true≢false}
use Rattle.std.specs.Io.KnownBytes.{Appends}
use Rattle.std.proofs.KnownBytes.{Appends-trans, Appends-nil}
use Rattle.plist_base.specs.declared.sink.Sink.{Sink}
use Rattle.plist_base.specs.Prefixes.{AppendsPrefix}
use Rattle.plist_base.specs.Sinks.{Advances, HasPut, IsSameSink, Puts, is_open, pending}

-- ---- lists

-- two parts are written one after the other, and the rest of both remains
joined : (all xs ys one middle two rest : List ℕ) → all ++ xs ≡ one ++ middle
    → middle ++ ys ≡ two ++ rest → all ++ (xs ++ ys) ≡ (one ++ two) ++ rest
joined all xs ys one middle two rest e f = rw (← append_assoc, e, append_assoc, f, append_assoc) refl

-- if more bytes follow, they follow the rest
more_rest : (all ys one rest : List ℕ) → all ≡ one ++ rest → all ++ ys ≡ one ++ (rest ++ ys)
more_rest all ys one rest e = rw (e, append_assoc) refl

-- a prefix of some bytes is a prefix of more
pub prefix_more : (a b : Option (List ℕ)) (xs ys : List ℕ) → AppendsPrefix a b xs
    → AppendsPrefix a b (xs ++ ys)
prefix_more a b xs ys f = (f.0, f.1 ++ ys, f.2, more_rest xs ys f.0 f.1 f.3)

-- ---- sinks

pub same_itself : {W : Type 0} {a : Sink W} → IsSameSink a a
same_itself = record { writer = refl; buffer = refl }

pub same_then : {W : Type 0} {a b c : Sink W} → IsSameSink a b → IsSameSink b c → IsSameSink a c
same_then p q = record { writer = q.writer ∙ p.writer; buffer = q.buffer ∙ p.buffer }

module _ {W : Type 0} {contents : W → Option (List ℕ)} where
  -- no bytes are put
  pub puts_none : {a : Sink W} → Puts contents a [] a
  puts_none {a} = record {
    same = same_itself;
    sent = [];
    written = Appends-nil (contents a.writer.now);
    rest = pending a;
    all = append-nil (pending a);
    kept = λ works. refl;
    counted = λ works size put. subst (HasPut a) (omega arith) put;
    was_open = λ works. works;
    unasked = λ closed. refl;
  }

  -- bytes are put, and stay pending
  pub puts_pending : {a b : Sink W} {xs : List ℕ} → IsSameSink a b
      → b.writer.now ≡ a.writer.now → pending b ≡ pending a ++ xs → b.progress ≡ a.progress
      → Puts contents a xs b
  puts_pending {a} {b} {xs} same kept grown still = record {
    same = same;
    sent = [];
    written = rw kept (Appends-nil (contents a.writer.now));
    rest = pending b;
    all = sym grown;
    kept = λ works. refl;
    counted = λ works size put. record {
      sent = put.sent;
      counted = rw still put.counted;
      whole = omega (arith, put.whole, ap length grown, length-append (pending a) xs);
    };
    was_open = λ works. rw still at works;
    unasked = λ closed. kept;
  }

  pub puts_as : {a b : Sink W} {xs ys : List ℕ} → xs ≡ ys → Puts contents a xs b
      → Puts contents a ys b
  puts_as e p = rw (← e) p

  -- once a write has failed, any bytes may follow
  pub puts_closed : {a b c : Sink W} {xs : List ℕ} (zs : List ℕ) → is_open b ≡ false
      → Puts contents a xs b → IsSameSink b c → c.writer.now ≡ b.writer.now
      → (is_open c ≡ true → is_open b ≡ true) → Puts contents a (xs ++ zs) c
  puts_closed {a} {b} {c} {xs} zs closed p same kept before = record {
    same = same_then p.same same;
    sent = p.sent;
    written = rw kept p.written;
    rest = p.rest ++ zs;
    all = sym (append_assoc (pending a) xs zs) ∙ more_rest (pending a ++ xs) zs p.sent p.rest p.all;
    kept = λ works. absurd (true≢false (sym (before works) ∙ closed));
    counted = λ works. absurd (true≢false (sym (before works) ∙ closed));
    was_open = λ works. p.was_open (before works);
    unasked = λ fails. kept ∙ p.unasked fails;
  }

  -- bytes are put, and then more
  pub puts_then : {a b c : Sink W} {xs ys : List ℕ} → Puts contents a xs b
      → Puts contents b ys c → Puts contents a (xs ++ ys) c
  puts_then {a} {b} {c} {xs} {ys} p q = elim (cases_Bool (is_open b)) [
    | inl works ↦ record {
      same = same_then p.same q.same;
      sent = p.sent ++ q.sent;
      written = Appends-trans (contents a.writer.now) (contents b.writer.now)
          (contents c.writer.now) _ _ p.written q.written;
      rest = q.rest;
      all = joined (pending a) xs ys p.sent (pending b) q.sent q.rest (rw (p.kept works) p.all)
          q.all;
      kept = q.kept;
      counted = λ still size put. subst (HasPut c) (omega (arith, length-append xs ys))
          (q.counted still _ (p.counted works size put));
      was_open = λ still. p.was_open works;
      unasked = λ fails. absurd (true≢false (sym (p.was_open works) ∙ fails));
    }
    | inr closed ↦ puts_closed ys closed p q.same (q.unasked closed) q.was_open
  ]

  -- the pending bytes and these are written past the buffer
  pub puts_past : {a b : Sink W} {xs ys : List ℕ} → IsSameSink a b → pending a ++ xs ≡ ys
      → pending b ≡ []
      → Advances contents (a.progress, a.writer.now) ys (b.progress, b.writer.now)
      → Puts contents a xs b
  puts_past {a} {b} {xs} {ys} same is empty p = record {
    same = same;
    sent = p.sent;
    written = p.written;
    rest = p.rest;
    all = is ∙ p.all;
    kept = λ works. empty ∙ sym (p.whole works);
    counted = λ works size put. record {
      sent = put.sent + length ys;
      counted = p.counted works put.sent put.counted;
      whole = omega (arith, put.whole, ap length is, length-append (pending a) xs, ap length empty);
    };
    was_open = p.was_open;
    unasked = p.unasked;
  }

  -- what a call that puts nothing writes begins the pending bytes, and if the sink is open then, it
  -- is all of them
  pub none_prefix : {a b : Sink W} → Puts contents a [] b
      → AppendsPrefix (contents a.writer.now) (contents b.writer.now) (pending a)
  none_prefix {a} p = (p.sent, p.rest, p.written, sym (append-nil (pending a)) ∙ p.all)

  pub none_whole : {a b : Sink W} → Puts contents a [] b → is_open b ≡ true → pending b ≡ []
      → Appends (contents a.writer.now) (contents b.writer.now) (pending a)
  none_whole {a} p works empty =
      rw (sym (append-nil (pending a)) ∙ p.all
      ∙ ap (λ l. p.sent ++ l) (sym (p.kept works) ∙ empty) ∙ append-nil p.sent) p.written

  -- ---- all that was put since nothing was pending

  pub sent_whole : {a b : Sink W} {xs : List ℕ} (end : Option (List ℕ)) → pending a ≡ []
      → Puts contents a xs b → is_open b ≡ true → Appends (contents b.writer.now) end (pending b)
      → Appends (contents a.writer.now) end xs
  sent_whole {a} {b} end none p works more =
      rw (rw (none, ← p.kept works) at p.all) (Appends-trans (contents a.writer.now)
      (contents b.writer.now) end _ _ p.written more)

  pub sent_part : {a b : Sink W} {xs : List ℕ} (end : Option (List ℕ)) → pending a ≡ []
      → Puts contents a xs b → (is_open b ≡ false → end ≡ contents b.writer.now)
      → AppendsPrefix (contents b.writer.now) end (pending b)
      → AppendsPrefix (contents a.writer.now) end xs
  sent_part {a} {b} end none p unasked more = elim (cases_Bool (is_open b)) [
    | inl works ↦ (
      p.sent ++ more.0,
      more.1,
      Appends-trans (contents a.writer.now) (contents b.writer.now) end _ _ p.written more.2,
      (rw none at p.all) ∙ ap (λ l. p.sent ++ l) (sym (p.kept works) ∙ more.3)
          ∙ sym (append_assoc p.sent more.0 more.1),
    )
    | inr closed ↦ (p.sent, p.rest, rw (unasked closed) p.written, rw none at p.all)
  ]
