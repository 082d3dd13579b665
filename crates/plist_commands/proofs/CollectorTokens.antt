-- The tokens of a collector, which are the indices of buffered events.
use Rattle.std.proofs.Common.{◌≡◌, ℕ, ◌+◌, ◌-◌, true, List, [], ◌∷◌, ◌++◌, length, Some, arith, ap, sym, subst, ◌∙◌}
use Rattle.std.proofs.Math.ListN.{get_or-append}
use Rattle.std.proofs.Math.Seq.{get_or-append_seam}
use Rattle.std.proofs.lemmas.List.{length-append}
use Rattle.std.proofs.lemmas.Option.{get_or_from_slice_get, slice_get-get_or, slice_get_within}
use Rattle.plist_base.specs.Bracketing.{without_length}
use Rattle.plist_base.specs.Events.{EndCollection, IsScalarEvent, PlainEvent, ScalarEvent}
use Rattle.plist_base.specs.VisitedItems.{HasNamed}
use Rattle.plist_base.specs.VisitedItems.{WantsAll}
use Rattle.plist_buffer.specs.EventTable.{event_at}
use Rattle.plist_buffer.specs.inner.Entries.{is_leaf}
use Rattle.plist_commands.specs.CollectorSteps.{CollectsEvent, IsBufferedAt, collected}
use Rattle.plist_commands.specs.declared.collector.Collector.{Collector}

-- an event keeps its index if others are appended
still_at : (events more : List PlainEvent) (token : ℕ) (event : PlainEvent)
    → IsBufferedAt events token event → IsBufferedAt (events ++ more) token event
still_at events more token event (some, is) =
    let within = slice_get_within events (token - 1) _ is in
    let long : length (events ++ more) ≡ length events + length more = length-append events more in (
      some,
      slice_get-get_or (events ++ more) (token - 1) EndCollection (omega (arith, within, long))
          ∙ ap Some (get_or-append events more EndCollection (token - 1) within
          ∙ get_or_from_slice_get events (token - 1) _ EndCollection is),
    )

buffered_since : (past now : Collector) (taken : List PlainEvent) (token : ℕ) (event : PlainEvent)
    → IsBufferedAt (collected past) token event → WantsAll CollectsEvent past taken now
    → IsBufferedAt (collected now) token event
buffered_since past now [] token event is same =
    subst (λ c. IsBufferedAt (collected c) token event) (sym same) is
buffered_since past now (first ∷ taken) token event is (next, one, others) =
    buffered_since next now taken token event
    (subst (λ events. IsBufferedAt events token event) (sym one.1.1.0)
    (still_at (collected past) _ token event is)) others

-- what a token named is still buffered at its index
pub still_buffered : (token : ℕ) (event : PlainEvent) (now : Collector)
    → HasNamed CollectsEvent (λ collector. IsBufferedAt (collected collector)) token event now
    → IsBufferedAt (collected now) token event
still_buffered token event now has =
    buffered_since has.past now has.events token event has.named has.since

-- the last event is the one before this index
pub last_buffered : (before after : List PlainEvent) (event : PlainEvent) (token : ℕ)
    → after ≡ before ++ without_length event ∷ [] → token ≡ length after
    → IsBufferedAt after token event
last_buffered before after event token is count =
    let e = without_length event in
    let long : length (before ++ e ∷ []) ≡ length before + 1 = length-append before (e ∷ []) in
    let at : token - 1 ≡ length before = rw (count, is) (omega (arith, long)) in (
      rw (count, is) (omega (arith, long)),
      rw (at, is) (slice_get-get_or (before ++ e ∷ []) (length before) EndCollection
          (omega (arith, long)) ∙ ap Some (get_or-append_seam before e [] EndCollection)),
    )

scalar_without : (event at : PlainEvent) → at ≡ without_length event → is_leaf at ≡ true
    → IsScalarEvent event × (at ≡ event)
scalar_without (ScalarEvent scalar) at is leaf = (tt, is)
scalar_without event at is leaf = let never = ap is_leaf (sym is) ∙ leaf in absurd (cc)

-- if the event at the index of a token is a scalar, it is the one that the token names
pub named_scalar : (events : List PlainEvent) (token : ℕ) (event : PlainEvent)
    → IsBufferedAt events token event → is_leaf (event_at events (token - 1)) ≡ true
    → IsScalarEvent event × (event_at events (token - 1) ≡ event)
named_scalar events token event (some, is) leaf = scalar_without event _
    (get_or_from_slice_get events (token - 1) _ EndCollection is) leaf
