-- Items, token by token.
use Rattle.std.proofs.Common.{◌≡◌, ℕ, zero, suc, ◌+◌, ◌-◌, ◌<◌, ◌≤◌, Bool, true, List, [], ◌∷◌, length, drop, map, Option, None, Some, Result, Ok, Err, refl, sym, ap, subst, ◌∙◌, arith, rules, length-drop}
use Rattle.std.specs.Prelude.{not}
use Rattle.std.specs.Option.{option_map}
use Rattle.std.proofs.lemmas.Bool.{not-false}
use Rattle.std.proofs.lemmas.List.{drop-drop}
use Rattle.plist_base.specs.declared.event.Event.{Event}
use Rattle.plist_base.specs.Events.{PlainEvent, Item, event_of}
use Rattle.plist_base.specs.Faults.{FaultKind, fault_at}
use Rattle.plist_ascii.specs.declared.fault.TokenFault.{TokenFault}
use Rattle.plist_ascii.specs.declared.input.Input.{Input}
use Rattle.plist_ascii.specs.declared.reader.AsciiReader.{AsciiReader}
use Rattle.plist_ascii.specs.declared.stop.Stop.TheVariants as stop
use Rattle.plist_ascii.specs.declared.token.Lead.{Lead}
use Rattle.plist_ascii.specs.declared.token.Lead.TheVariants as lead
use Rattle.plist_ascii.specs.TokenPrefixes.{run, taken}
use Rattle.plist_ascii.specs.Texts.{Token, ends_bare}
use Rattle.plist_ascii.specs.Ascii.{PlacedItem, is_blank, item_then, items_in, items_of_ascii, placed_items, token, token_by, lead_of, IsTextToken, BeginsWithText, FirstIsQuoted}
use Rattle.plist_ascii.specs.AsciiReader.{BeginsWithItem}
use Rattle.plist_ascii.specs.Unread.{IfKnown, stops, unread}
use Rattle.plist_ascii.specs.inner.Inputs.{GivesBy, TakesPast, kind_in_bytes}
use Rattle.plist_ascii.proofs.Runs.{run_elim}

items_nil : (stops : ℕ → Bool) (r p : ℕ) → items_in stops r [] p ≡ []
unfolding items_in
items_nil stops zero p = refl
items_nil stops (suc r) p = refl

-- no bytes have no items
pub no_items : (stops : ℕ → Bool) (p : ℕ) → items_of_ascii stops [] p ≡ []
no_items stops p = ap (map (λ i. i.item)) (items_nil stops 0 p)

items_fuel : (stops : ℕ → Bool) (r s : ℕ) (xs : List ℕ) (p : ℕ) → length xs ≤ r → length xs ≤ s
    → items_in stops r xs p ≡ items_in stops s xs p
unfolding items_in token
items_fuel stops r s [] p l m = items_nil _ r p ∙ sym (items_nil _ s p)
items_fuel stops zero s (c ∷ cs) p l m = absurd (let none : ⊥ = omega arith in none)
items_fuel stops (suc r) zero (c ∷ cs) p l m = absurd (let none : ⊥ = omega arith in none)
items_fuel stops (suc r) (suc s) (c ∷ cs) p l m =
    let b = token_by stops (lead_of c) c cs in
    let short : length (drop b.bytes cs) ≤ length cs = rw length-drop (omega arith) in
    rw (items_fuel stops r s (drop b.bytes cs) (p + suc b.bytes) (omega arith) (omega arith)) refl

items_cons : (stops : ℕ → Bool) (c : ℕ) (cs : List ℕ) (p q : ℕ) → let b =
    token_by stops (lead_of c) c cs in q ≡ p + suc b.bytes
    → placed_items stops (c ∷ cs) p
    ≡ item_then (lead_of c) q b.gives (placed_items stops (drop b.bytes cs) q)
unfolding items_in token
items_cons stops c cs p q e =
    let b = token_by stops (lead_of c) c cs in
    let short : length (drop b.bytes cs) ≤ length cs = rw length-drop (omega arith) in
    let fuel = items_fuel stops (length cs) (length (drop b.bytes cs)) (drop b.bytes cs)
    (p + suc b.bytes) short (omega arith) in
    rw (e, fuel) refl

-- the items of `xs` from offset `p` on are those of `ys` from offset `q` on
pub record Going (stops : ℕ → Bool) (xs : List ℕ) (p : ℕ) (ys : List ℕ) (q : ℕ) : Type 0 where
  pub rises : p ≤ q
  pub all : placed_items stops xs p ≡ placed_items stops ys q
  pub rest : ys ≡ drop (q - p) xs

pub going_start : (stops : ℕ → Bool) (xs : List ℕ) (p : ℕ) → Going stops xs p xs p
going_start stops xs p = record {
  rises = omega arith;
  all = refl;
  rest = let none : 0 ≡ p - p = omega arith in ap (λ n. drop n xs) none;
}

-- the item is the first, the others remain after it, and it ends at offset `q`
abbrev pub IsFirst : (stops : ℕ → Bool) (xs : List ℕ) (p : ℕ) (x : Item) (ys : List ℕ) (q : ℕ)
    → Type 0
IsFirst stops xs p x ys q =
    (items_of_ascii stops xs p ≡ x ∷ items_of_ascii stops ys q) × BeginsWithItem stops xs p x ys q

text_first : (l : Lead) (q : ℕ) (g : Result (Option PlainEvent) FaultKind) (more : List PlacedItem)
    → IsTextToken g → BeginsWithText (map (λ i. i.item) (item_then l q g more))
text_first l q g more h = search rules

module _ {stops : ℕ → Bool} {xs : List ℕ} {p m c : ℕ} {cs : List ℕ}
    (h : Going stops xs p (c ∷ cs) m) where
  abbrev token_here : Token
  token_here = token_by stops (lead_of c) c cs

  abbrev left : List ℕ
  left = drop token_here.bytes cs

  -- if the token is a string, the first item is a string
  pub going_text : IsTextToken token_here.gives → BeginsWithText (items_of_ascii stops xs p)
  going_text w = rw (h.all, items_cons stops c cs m _ refl) (text_first _ _ token_here.gives _ w)

  module _ {q : ℕ} (s : q ≡ m + suc token_here.bytes) where
    going_by : {g : Result (Option PlainEvent) FaultKind} → token_here.gives ≡ g
        → placed_items stops xs p ≡ item_then (lead_of c) q g (placed_items stops left q)
    going_by is = h.all ∙ rw (← is) (items_cons stops c cs m q s)

    going_rest : left ≡ drop (q - p) xs
    going_rest =
        let le = h.rises in
        let sum : m - p + suc token_here.bytes ≡ q - p = omega arith in
        ap (drop (suc token_here.bytes)) h.rest ∙ drop-drop (suc token_here.bytes) (m - p) xs
        ∙ ap (λ k. drop k xs) sum

    pub going_skip : token_here.gives ≡ Ok None → Going stops xs p left q
    going_skip g = record {
      rises = let le = h.rises in omega arith;
      all = going_by g;
      rest = going_rest;
    }

    pub going_event : {x : PlainEvent} → token_here.gives ≡ Ok (Some x)
        → IsFirst stops xs p (Ok x) left q
    going_event g = (
      ap (map (λ i. i.item)) (going_by g),
      record { lead = lead_of c; ends = going_by g; rest = going_rest },
    )

    pub going_fault : {k : FaultKind} → token_here.gives ≡ Err k
        → IsFirst stops xs p (Err (fault_at k q)) left q
    going_fault g = (
      ap (map (λ i. i.item)) (going_by g),
      record { lead = lead_of c; ends = going_by g; rest = going_rest },
    )

    -- if the first item is a quoted string, the token begins with a quote
    pub going_quoted : {x : PlainEvent} → token_here.gives ≡ Ok (Some x)
        → FirstIsQuoted (placed_items stops xs p) → lead_of c ≡ lead.Quote
    going_quoted g first = subst FirstIsQuoted (going_by g) first

-- white space and separators have no items
blank_skips : {stops : ℕ → Bool} {xs : List ℕ} {p m c : ℕ} {cs : List ℕ} → is_blank c ≡ true
    → Going stops xs p (c ∷ cs) m → Going stops xs p cs (m + 1)
blank_skips {stops} {m} {c} {cs} e h =
    let blank : token_by stops (lead_of c) c cs ≡ taken 0 (Ok None) = rw e refl in
    let next = going_skip h {q = m + 1} (rw blank (omega arith)) (ap (λ t. t.gives) blank) in
    rw blank at next

pub going_blanks : {stops : ℕ → Bool} {xs : List ℕ} {p : ℕ} {ys : List ℕ} {m : ℕ}
    → Going stops xs p ys m → let n = run (λ c. not (is_blank c)) ys in
    Going stops xs p (drop n ys) (m + n)
going_blanks {stops} {xs} {p} {ys} {m} h = run_elim (λ c. not (is_blank c))
    (λ ys n. (m : ℕ) → Going stops xs p ys m → Going stops xs p (drop n ys) (m + n))
    (λ m. none m) (λ c cs e m. none m) (λ c cs e on m h.
    let sum : m + 1 + n cs ≡ m + suc (n cs) = omega arith in
    rw (← sum) (on (m + 1) (blank_skips (not-false _ e) h))) ys m h
  where
    n : List ℕ → ℕ
    n ys = run (λ c. not (is_blank c)) ys

    none : {ys : List ℕ} (m : ℕ) → Going stops xs p ys m → Going stops xs p ys (m + 0)
    none m h = let same : m + 0 ≡ m = omega arith in rw same h

-- ---- what calls of an input take

-- the items that a reader had not yielded are those of the bytes that remain now
pub record Since {R : Type 0} (known : R → Option (List ℕ)) (old : AsciiReader R) (now : Input R)
    : Type 0 where
  pub rises : old.input.taken ≤ now.taken
  pub goes : IfKnown (unread known old.input) (λ xs. (ys : List ℕ) × (unread known now ≡ Some ys)
      × Going (stops (stop.Bare old.dialect)) xs old.input.taken ys now.taken)

-- they are those of the byte `c`, which was taken, and the bytes that remain now
pub record Led {R : Type 0} (known : R → Option (List ℕ)) (old : AsciiReader R) (c : ℕ)
    (now : Input R) : Type 0 where
  pub rises : old.input.taken < now.taken
  pub goes : IfKnown (unread known old.input) (λ xs. (m : ℕ) × (cs : List ℕ)
      × (unread known now ≡ Some cs)
      × Going (stops (stop.Bare old.dialect)) xs old.input.taken (c ∷ cs) m × (now.taken ≡ m + 1))

-- the token that begins with the byte `c`
abbrev pub token_led : {R : Type 0} → AsciiReader R → (c : ℕ) → List ℕ → Token
token_led reader c = token_by (stops (stop.Bare reader.dialect)) (lead_of c) c

-- the first item, and what was taken for it
abbrev pub TakesFirst : {R : Type 0} → (R → Option (List ℕ)) → AsciiReader R → Item → Input R
    → Type 0
TakesFirst known old item new = IfKnown (unread known old.input) (λ xs. (rest : List ℕ)
    × (unread known new ≡ Some rest)
    × IsFirst (ends_bare old.dialect) xs old.input.taken item rest new.taken)

module _ {R : Type 0} {known : R → Option (List ℕ)} {old : AsciiReader R} {now : Input R} where
  module _ (s : Since known old now) where
    -- no item remains
    pub since_ends : (new : Input R) → TakesPast known stop.Lead now None new
        → IfKnown (unread known old.input)
        (λ xs. items_of_ascii (ends_bare old.dialect) xs old.input.taken ≡ [])
    since_ends new past = λ xs e.
        let i = s.goes xs e in
        let none = past i.0 i.1 in
        let on = rw none.0 at (going_blanks i.2) in
        ap (map (λ i. i.item)) (on.all ∙ items_nil _ 0 _)

    -- blanks and the first byte of a token were taken
    pub since_leads : {c : ℕ} {new : Input R} → TakesPast known stop.Lead now (Some c) new
        → now.taken < new.taken → Led known old c new
    since_leads past rises = record {
      rises = omega (arith, s.rises, rises);
      goes = λ xs e.
          let i = s.goes xs e in
          let t = past i.0 i.1 in (_, t.0, t.2, rw t.1 at (going_blanks i.2), t.3);
    }

  module _ {c : ℕ} (l : Led known old c now) where
    pub led_skips : {new : Input R}
        → GivesBy known (option_map event_of) (token_led old c) now (Ok None) new
        → Since known old new
    led_skips a = record {
      rises = omega (arith, l.rises, a.rises);
      goes = λ xs e.
          let i = l.goes xs e in
          let k = a.gives i.1 i.2 in (_, k.1, going_skip i.3 (omega (arith, k.2, i.4)) k.0);
    }

    module _ {new : Input R} {event : Event}
        (a : GivesBy known (option_map event_of) (token_led old c) now (Ok (Some event)) new) where
      pub led_gives : TakesFirst known old (Ok (event_of event)) new
      led_gives = λ xs e.
          let i = l.goes xs e in
          let k = a.gives i.1 i.2 in (_, k.1, going_event i.3 (omega (arith, k.2, i.4)) k.0)

      -- if the first item is a quoted string, the token begins with a quote
      pub led_quoted : IfKnown (unread known old.input)
          (λ xs. FirstIsQuoted (placed_items (ends_bare old.dialect) xs old.input.taken)
          → lead_of c ≡ lead.Quote)
      led_quoted = λ xs e.
          let i = l.goes xs e in
          let k = a.gives i.1 i.2 in going_quoted i.3 {q = new.taken} (omega (arith, k.2, i.4)) k.0

    pub led_fails : {new : Input R} {f : TokenFault} {kind : FaultKind}
        → GivesBy known (option_map event_of) (token_led old c) now (Err f) new
        → kind_in_bytes f ≡ Some kind → TakesFirst known old (Err (fault_at kind new.taken)) new
    led_fails a is = λ xs e.
        let i = l.goes xs e in
        let k = (rw is at a.gives) i.1 i.2 in
        (_, k.1, going_fault i.3 (omega (arith, k.2, i.4)) k.0)

    -- if the token is a string, the first item is a string
    pub led_text : IfKnown (unread known now) (λ cs. IsTextToken (token_led old c cs).gives)
        → IfKnown (unread known old.input)
        (λ xs. BeginsWithText (items_of_ascii (ends_bare old.dialect) xs old.input.taken))
    led_text h = λ xs e. let i = l.goes xs e in going_text i.3 (h i.1 i.2)
