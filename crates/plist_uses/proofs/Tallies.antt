-- The events that were counted, and the items that remain.
use Rattle.std.proofs.Common.{◌≡◌, ℕ, ◌+◌, ◌-◌, ◌^◌, min, Bool, true, false, cond, List, [], ◌∷◌, ◌++◌, Option, None, Some, Result, Ok, Err, IfSome, length, map, filter, refl, ap, sym, ◌∙◌, append-nil, arith}
use Rattle.std.specs.Option.{option_map}
use Rattle.std.proofs.lemmas.List.{length-append}
use Rattle.std.proofs.lemmas.List.Elements.{filter-append}
use Rattle.plist_base.specs.declared.error.Error.{Error}
use Rattle.plist_base.specs.declared.event.Event.{Event}
use Rattle.plist_base.specs.Events.{PlainEvent, Item, event_of, item_of}
use Rattle.plist.proofs.PredictedItems.{event-more}
use Rattle.plist_reader.proofs.ReaderItems.{FirstIfKnown}
use Rattle.plist_reader.specs.Reader.{items_of_input}
use Rattle.plist_uses.specs.declared.counting.Counts.{Counts}
use Rattle.plist_base.specs.Faults.{MatchFault, error_kind_of, fault_of, kind_of}
use Rattle.plist_base.proofs.Refusals.{MatchFault-weaker}
use Rattle.std.specs.Prelude.{⊤}
use Rattle.plist_uses.specs.Counting.{StopAt, count_passing, one_more, AreCounts, AreCountsOf, CountsItem, CountsOne, nothing}

stopped-more : (n old new : ℕ) → old ≡ min n (2 ^ 64 - 1) → new ≡ min (old + 1) (2 ^ 64 - 1)
    → new ≡ min (n + 1) (2 ^ 64 - 1)
stopped-more n old new is more = omega arith

-- a count is correct after one more event
number-more : (passes : PlainEvent → Bool) (taken : List PlainEvent) (event : PlainEvent)
    (old new : ℕ) → old ≡ count_passing passes taken → new ≡ one_more (passes event) old
    → new ≡ count_passing passes (taken ++ event ∷ [])
number-more passes taken event old new is more =
    elim (passes event) as (λ b. new ≡ one_more b old → new ≡ min (length (filter passes taken
    ++ cond b (event ∷ []) [])) (2 ^ 64 - 1)) [
      | true ↦ λ m. stopped-more (length (filter passes taken)) old new is m
          ∙ ap (λ n. min n (2 ^ 64 - 1)) (sym (length-append (filter passes taken) (event ∷ [])))
      | false ↦ λ m. m ∙ is ∙ ap (λ xs. min (length xs) (2 ^ 64 - 1))
          (sym (append-nil (filter passes taken)))
    ] more
    ∙ ap (λ xs. min (length xs) (2 ^ 64 - 1)) (sym (filter-append passes taken (event ∷ [])))

-- the events so far were counted, and these items remain
abbrev pub CountedSoFar : (all coming : Option (List Item)) → Counts → Type 0
CountedSoFar all coming counts =
    IfSome all (λ items. (taken : List PlainEvent) × (left : List Item) × (coming ≡ Some left)
    × (items ≡ map Ok taken ++ left) × AreCounts taken counts)

tells-none : (counts : Counts) → counts ≡ nothing → AreCounts [] counts
tells-none counts is =
    rw is (record { arrays = refl; dictionaries = refl; texts = refl; others = refl })

pub begun : (all : Option (List Item)) (counts : Counts) → counts ≡ nothing
    → CountedSoFar all all counts
begun None counts is = tt
begun (Some items) counts is = ([], items, refl, refl, tells-none counts is)

tells-more : (taken : List PlainEvent) (event : PlainEvent) (old new : Counts) → AreCounts taken old
    → CountsOne event old new → AreCounts (taken ++ event ∷ []) new
tells-more taken event old new tell one = record {
  arrays = number-more _ taken event old.arrays new.arrays tell.arrays one.arrays;
  dictionaries =
      number-more _ taken event old.dictionaries new.dictionaries tell.dictionaries
      one.dictionaries;
  texts = number-more _ taken event old.texts new.texts tell.texts one.texts;
  others = number-more _ taken event old.others new.others tell.others one.others;
}

-- an item was yielded and counted
pub counted : (all before after : Option (List Item)) (item : Result Event Error)
    (old new : Counts) → CountedSoFar all before old → FirstIfKnown before (Some item) after
    → CountsItem (item_of item) old new → CountedSoFar all after new
counted None before after item old new so_far gives one = tt
counted (Some items) before after (Err error) old new so_far gives one = absurd one
counted (Some items) before after (Ok event) old new (taken, left, is, split, tell) gives one =
    let goes = rw is at gives in (
      taken ++ event_of event ∷ [],
      goes.0,
      goes.1,
      split ∙ ap (λ xs. map Ok taken ++ xs) goes.2
          ∙ event-more taken (event_of event) goes.0,
      tells-more taken (event_of event) old new tell one,
    )

-- nothing more was yielded
pub all-counted : (known : Option (List ℕ)) (all before after : Option (List Item))
    (counts : Counts) → all ≡ option_map items_of_input known → CountedSoFar all before counts
    → FirstIfKnown before None after → IfSome known
    (λ bytes. AreCountsOf (items_of_input bytes) counts)
all-counted None all before after counts from so_far gives = tt
all-counted (Some bytes) all before after counts from so_far gives =
    let (taken, left, is, split, tell) = rw from at so_far in
    let goes = rw is at gives in (
      taken,
      split ∙ ap (λ xs. map Ok taken ++ xs) goes.2.0 ∙ append-nil (map Ok taken),
      tell,
    )

-- the error is the first fault of the items, or doesn't come from the bytes
pub stopped : (known : Option (List ℕ)) (all before after : Option (List Item))
    (item : Result Event Error) (error : Error) (counts : Counts)
    → all ≡ option_map items_of_input known → CountedSoFar all before counts
    → FirstIfKnown before (Some item) after → item ≡ Err error → IfSome known (λ bytes.
    MatchFault (kind_of (error_kind_of error)) ⊤ ⊤
    (StopAt (items_of_input bytes) (fault_of error)))
stopped None all before after item error counts from so_far gives failed = tt
stopped (Some bytes) all before after item error counts from so_far gives failed =
    let (taken, left, is, split, tell) = rw from at so_far in
    let goes = rw (is, failed) at gives in
    MatchFault-weaker (kind_of (error_kind_of error)) (λ _. tt) (λ _. tt)
    (λ first. (taken, goes.0, split ∙ ap (λ xs. map Ok taken ++ xs) first)) goes.2
