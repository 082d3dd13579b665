-- Putting objects, one after the other, and storing their offsets.
use Rattle.std.proofs.Common.{◌≡◌, ◌≢◌, ◌⊎◌, inl, inr, ℕ, ◌<◌, List, [], ◌∷◌, ◌++◌, ◌^◌, length, get_or, set, ap, sym, ◌∙◌, arith, append_assoc, append-nil, Option, None, Some, true, false, refl, replicate, subst, unwrap_or}
use Rattle.std.specs.List.{Contains, IsDistinct}
use Rattle.std.proofs.lemmas.Bool.{cases_Bool, cases_eq, true≢false}
use Rattle.std.proofs.lemmas.Map.Made.{Contains-tail}
use Rattle.std.proofs.lemmas.List.{length-replicate, length-set}
use Rattle.plist_base.specs.Container.{magic}
use Rattle.plist_base.specs.Object.{Object}
use Rattle.plist_binwrite.specs.Written.{file_with, object_table, laid_out, table_and_trailer}
use Rattle.plist_base.specs.Outcomes.{IsSizeOrNone}
use Rattle.plist_base.specs.Sinks.{HasPut, Puts, is_open}
use Rattle.plist_base.specs.declared.sink.Sink.{Sink}
use Rattle.plist_base.proofs.SinkSteps.{puts_as, puts_closed, puts_then}
use Rattle.plist_binwrite.proofs.ClassObjects.{numbered}
use Rattle.plist_binwrite.proofs.NumberingSteps.{known_number, numbers_below}
use Rattle.plist_buffer.proofs.TreeStarts.{begins, occurs_in}
use Rattle.plist_binwrite.specs.Classes.{events_in}
use Rattle.plist_binwrite.specs.declared.plan.FilePlan.{FilePlan}
use Rattle.plist_binwrite.specs.inner.Layout.{ArePut, HasStoredOffset, IsFilePlan, PutsObject, PutsObjects, number_of_event}
use Rattle.plist_buffer.specs.EventTable.{HasItem}
use Rattle.plist_buffer.proofs.CollectionNumbers.{occurs_at}
use Rattle.plist_binwrite.proofs.ObjectOffsets.{all_zero, continued, laid_below, laid_more, laid_one, length-magic, next_layout, placed, still_placed}
use Rattle.plist_binwrite.proofs.PlannedFiles.{PutsFile, file_made}

module _ {plan : FilePlan} (r : IsFilePlan plan) {W : Type 0} {contents : W → Option (List ℕ)}
    {start : Sink W} where
  -- nothing but the magic is put
  pub start_put : {offsets : List ℕ} {sink : Sink W} → offsets ≡ replicate plan.numbering.count 0
      → Puts contents start magic sink → ArePut plan contents start offsets sink
  unfolding IsDistinct
  start_put {offsets} zeros put =
      let of = numbered r.numbered in
      let count = plan.numbering.count in
      record {
        objects = of.objects;
        order = [];
        layout = record {
          described = of.describes;
          long = ap length zeros ∙ length-replicate count 0;
          distinct = tt;
          marked = λ k. (
            λ any. cc,
            λ n. absurd (n (ap (λ l. get_or l k 0) zeros ∙ all_zero count k)),
          );
          laid = tt;
        };
        put = puts_as (sym (append-nil magic)) put;
      }

  module _ {offsets : List ℕ} {sink : Sink W} (a : ArePut plan contents start offsets sink) where
    -- a file goes on with objects that weren't put before a write failed
    pub part_put : is_open sink ≡ false → {new : Sink W} {more : List ℕ}
        → Puts contents sink more new → PutsFile plan contents start new
    part_put closed put =
        let c = continued r a.layout plan.numbering.count (omega arith) in (
          _,
          file_made r c.layout c.all,
          puts_as (sym (goes_on plan.width a.objects c.offsets a.order c.more))
              (puts_closed _ closed a.put put.same (put.unasked closed) put.was_open),
        )
      where
        goes_on : (w : ℕ) (objects : ℕ → Object) (offsets order more : List ℕ)
            → file_with w objects offsets (order ++ more) ≡ laid_out w objects order
            ++ (object_table w objects more
            ++ table_and_trailer offsets (length (laid_out w objects (order ++ more))))
        goes_on w objects offsets order more =
            let rest = table_and_trailer offsets (length (laid_out w objects (order ++ more))) in
            ap (λ l. l ++ rest) (laid_more w objects order more)
            ∙ append_assoc (laid_out w objects order) (object_table w objects more) rest

    module _ (none : HasPut start 0) (works : is_open sink ≡ true) where
      -- this number of bytes was put
      pub position_is : (v : ℕ) → ((n : ℕ) → HasPut sink n → n < 2 ^ 64 → v ≡ n)
          → v ≡ length (laid_out plan.width a.objects a.order)
      position_is v is =
          is _ (subst (HasPut sink) (omega arith) (a.put.counted works 0 none))
          (laid_below r a.layout)

      -- the offset table and the trailer follow all objects
      whole_put : ((p : ℕ) → HasItem (events_in plan.given) p → HasStoredOffset plan offsets p)
          → (v : ℕ) → ((n : ℕ) → HasPut sink n → n < 2 ^ 64 → v ≡ n) → {new : Sink W}
          → Puts contents sink (table_and_trailer offsets v) new → PutsFile plan contents start new
      whole_put all v is put = (
        _,
        file_made r a.layout (λ k h.
            let known = (r.numbered.so_far.known k h).0 in
            subst (λ n. get_or offsets n 0 ≢ 0) (known_number r.numbered k h)
            (all _ (occurs_in known, begins _ _ known))),
        puts_then a.put (rw (position_is v is) at put),
      )

    -- the offset table and the trailer follow the objects, unless a write has failed
    pub all_put : HasPut start 0
        → (is_open sink ≡ true → (p : ℕ) → HasItem (events_in plan.given) p → HasStoredOffset plan offsets p)
        → (v : ℕ) → ((n : ℕ) → HasPut sink n → n < 2 ^ 64 → v ≡ n) → {new : Sink W}
        → Puts contents sink (table_and_trailer offsets v) new → PutsFile plan contents start new
    all_put none all v is put = elim (cases_Bool (is_open sink)) [
      | inl works ↦ whole_put none works (all works) v is put
      | inr closed ↦ part_put closed put
    ]

-- a known number is that of the option
pub number_told : (known : Option ℕ) (default v : ℕ) → v ≡ unwrap_or known default → (n : ℕ)
    → IsSizeOrNone known n → n < 2 ^ 64 → v ≡ n
number_told None default v is n large small = absurd (omega (arith, large, small))
number_told (Some m) default v is n same small = is ∙ same

-- the offset of an event's object is stored, and the object is put
module _ {plan : FilePlan} (r : IsFilePlan plan) {W : Type 0}
    {contents : W → Option (List ℕ)} {offsets : List ℕ} {sink : Sink W} (p : ℕ)
    (item : HasItem (events_in plan.given) p) (free : get_or offsets (number_of_event plan p) 0 ≡ 0)
    (works : is_open sink ≡ true) (v : ℕ)
    (is : (n : ℕ) → HasPut sink n → n < 2 ^ 64 → v ≡ n) where
  pub puts_first : {new : Sink W} → PutsObject plan contents p sink new
      → PutsObjects plan contents (λ q. p ≡ q) (offsets, sink)
      (set offsets (number_of_event plan p) v, new)
  puts_first put = record {
    long = length-set offsets _ v;
    was_open = λ more. works;
    step = λ start none a.
        let k = number_of_event plan p in
        let below = numbers_below r.numbered p item in
        let at = position_is r a none works v is in
        let low : k < length offsets = omega (arith, below, a.layout.long) in
        let positive : 0 < v =
        omega (arith, at, length-magic (object_table plan.width a.objects a.order)) in
        let u = occurs_at (events_in plan.given) r.numbered.so_far.whole p item in (
          record {
            objects = a.objects;
            order = a.order ++ k ∷ [];
            layout = next_layout a.layout r k v below free at;
            put = puts_as (sym (laid_one plan.width a.objects a.order k))
                (puts_then a.put (rw (← a.layout.described u.0 p u.1) at (put u.0 u.1)));
          },
          still_placed offsets k v low positive,
          λ more q e. subst (HasStoredOffset plan (set offsets k v)) e (placed offsets k v low positive),
        );
  }

module _ {plan : FilePlan} {W : Type 0} {contents : W → Option (List ℕ)} {asked : ℕ → Type 0}
    {a b : List ℕ × Sink W} where
  -- objects are put in two steps
  pub puts_both : {more all : ℕ → Type 0} {c : List ℕ × Sink W}
      → ((p : ℕ) → all p → asked p ⊎ more p) → PutsObjects plan contents asked a b
      → PutsObjects plan contents more b c → PutsObjects plan contents all a c
  puts_both split p q = record {
    long = q.long ∙ p.long;
    was_open = λ works. p.was_open (q.was_open works);
    step = λ start none put.
        let first = p.step start none put in
        let second = q.step start none first.0 in (
          second.0,
          λ k some. second.1 k (first.1 k some),
          λ works r is. elim (split r is) [
            | inl x ↦ second.1 _ (first.2 (q.was_open works) r x)
            | inr x ↦ second.2 works r x
          ],
        );
  }

module _ {plan : FilePlan} {W : Type 0} {contents : W → Option (List ℕ)} {asked : ℕ → Type 0}
    {a : List ℕ × Sink W} where
  -- the objects of these events were put before, or a write has failed
  pub puts_before : (is_open a.1 ≡ true → (p : ℕ) → asked p → HasStoredOffset plan a.0 p)
      → PutsObjects plan contents asked a a
  puts_before all = record {
    long = refl;
    was_open = λ works. works;
    step = λ start none put. (put, λ k some. some, all);
  }

  pub puts_nothing : is_open a.1 ≡ false → PutsObjects plan contents asked a a
  puts_nothing closed = puts_before (λ works. absurd (true≢false (sym works ∙ closed)))

-- the next child, or one of those that are left
pub next_or_left : {left : List ℕ} (child : ℕ) (rest : List ℕ) → left ≡ child ∷ rest → (p : ℕ)
    → Contains left p → (child ≡ p) ⊎ Contains rest p
next_or_left child rest is p has = elim (cases_eq child p) [
  | inl e ↦ inl e
  | inr d ↦ inr (Contains-tail child rest p d (subst (λ l. Contains l p) is has))
]
