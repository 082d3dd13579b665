-- The items that a builder has taken, and the value that they are collected to.
use Rattle.std.proofs.Common.{◌≡◌, inl, inr, false, true≢false, List, [], ◌∷◌, ◌++◌, Option, Some, None, Result, Ok, Err, option_map, map, refl, sym, ap, ◌∙◌, IfOk, IfErr}
use Rattle.plist_base.specs.declared.error.Error.{Error}
use Rattle.plist_base.specs.Events.{PlainEvent, Item}
use Rattle.plist_base.specs.Faults as faults
use Rattle.plist_base.specs.Faults.{FaultKind, Fault, UnexpectedEndOfEventStream, fault_of}
use Rattle.plist_base.specs.Trees.{Tree}
use Rattle.plist_base.specs.Bracketing.{without_length, AreAlike}
use Rattle.std.proofs.lemmas.List.{map-append}
use Rattle.plist_base.proofs.Lengths.{alike_with}
use Rattle.plist.specs.LastWins.{with_pair, last_wins}
use Rattle.plist.specs.Building.{Unfinished, NotBegun, Complete, Built, IsNested, nothing_built, complete_tree, events_so_far, last_wins_so_far, refusal_at, IsUnfinishedFor, IsUnfinished}
use Rattle.plist.specs.inner.BuilderSteps.{and_event}
use Rattle.plist.proofs.Following.{complete, refusal-last, extended}
use Rattle.std.proofs.lemmas.Option.{none-some, same_Some}
use Rattle.plist.specs.declared.value.Value.{Value}
use Rattle.plist.specs.ValueTrees.{tree_of}
use Rattle.plist.specs.Collecting.{IsBuiltFrom, TakesOne, RefusesOne, built_tree}
use Rattle.plist.proofs.BuilderLaws.{and_pair, extended-last}

-- these events were taken, with the last value of each key
abbrev pub Holds : List PlainEvent → Built → Type 0
Holds events built =
    (unfinished : Unfinished) × IsNested unfinished × AreAlike (events_so_far unfinished) events
    × (built.unfinished ≡ last_wins_so_far unfinished)

-- the events of the items were taken
abbrev pub TookAll : List Item → Built → Type 0
TookAll items built =
    (events : List PlainEvent) × (items ≡ map Ok events) × (built.failed ≡ false)
    × Holds events built

pub took-none : (built : Built) → built ≡ nothing_built → TookAll [] built
took-none built p = (
  [],
  refl,
  ap (λ (b : Built). b.failed) p,
  (NotBegun, tt, refl, ap (λ (b : Built). b.unfinished) p),
)

pub from_last : (o : Option Unfinished) (w : Unfinished) → option_map last_wins_so_far o ≡ Some w
    → (v : Unfinished) × (o ≡ Some v) × (w ≡ last_wins_so_far v)
from_last None w p = absurd (none-some w p)
from_last (Some v) w p = (v, refl, sym (same_Some _ w p))

-- one more event is taken
pub holds-more : (events : List PlainEvent) (e : PlainEvent) (before after : Built)
    → Holds events before → TakesOne before (Ok e) after → Holds (events ++ e ∷ []) after
holds-more events e before after (unfinished, ok, alike, last) k =
    let w = from_last (and_event and_pair unfinished e) after.unfinished
    (extended-last unfinished e ∙ sym (ap (λ u. and_event with_pair u e) last) ∙ k.0) in
    let c = extended unfinished e w.0 ok w.1 in
    (w.0, c.0, c.1 ∙ alike_with (events_so_far unfinished) events (e ∷ []) alike, w.2)

pub took-more : (items : List Item) (item : Item) (before after : Built) → TookAll items before
    → TakesOne before item after → TookAll (items ++ item ∷ []) after
took-more items (Err fault) before after t k = absurd k
took-more items (Ok e) before after (events, is, fine, h) k = (
  events ++ e ∷ [],
  ap (λ l. l ++ Ok e ∷ []) is ∙ sym (map-append Ok events (e ∷ [])),
  k.1,
  holds-more events e before after h k,
)

pub refused-last : (stops ends : Type 0) (items : List Item) (item : Item) (built : Built)
    (fault : Fault) → stops → TookAll items built → RefusesOne built.unfinished item fault
    → IsBuiltFrom stops ends (items ++ item ∷ []) (Err fault)
refused-last stops ends items (Err error) built fault stop (
  events,
  is,
  fine,
  (unfinished, ok, alike, last),
) r = (
  events,
  unfinished,
  ok,
  alike,
  inl (cc, stop),
)
refused-last stops ends items (Ok e) built fault stop (
  events,
  is,
  fine,
  (unfinished, ok, alike, last),
) r = (
  events,
  unfinished,
  ok,
  alike,
  inr (inl (
    e,
    ap (λ l. l ++ Ok e ∷ []) is,
    stop,
    rw (← (ap (λ u. refusal_at u e) last ∙ refusal-last _ e)) r,
  )),
)

pub complete_last : (u : Unfinished) (t : Tree) → complete_tree (last_wins_so_far u) ≡ Some t
    → (w : Tree) × (u ≡ Complete w) × (t ≡ last_wins w)
complete_last (Complete w) t p = (w, refl, sym (same_Some _ t p))
complete_last u t p = absurd (none-some t p)

ended : (stops ends : Type 0) (items : List Item) (built : Built) (fault : Fault) (kind : FaultKind)
    → fault.kind ≡ kind → ends → TookAll items built → fault.offset ≡ None
    → IsUnfinishedFor kind built → IsBuiltFrom stops ends items (Err fault)
ended stops ends items built fault UnexpectedEndOfEventStream q end
    (events, is, fine, (unfinished, ok, alike, last)) o k = (
      events,
      unfinished,
      ok,
      alike,
      inr (inr (
        is,
        end,
        (λ i. record { kind = q i; offset = o i }),
        λ t a. k.1 _ (ap (λ u. map without_length (events_so_far u))
            (last ∙ ap last_wins_so_far (complete _ t ok (alike ∙ a)))),
      )),
    )
ended stops ends items built fault faults.WriterFailed q end (events, is, fine, (unfinished, ok, alike, last)) o
    k = absurd (true≢false (cc))
ended stops ends items built fault kind q end t o k = absurd k

-- the result of `finish` is as `IsBuiltFrom` says
pub finished : (stops ends : Type 0) (items : List Item) (built : Built)
    (result : Result Value Error) → ends → TookAll items built → IfOk result
    (λ value. complete_tree built.unfinished ≡ Some (tree_of value))
    → IfErr result (λ error. IsUnfinished built (fault_of error))
    → IsBuiltFrom stops ends items (built_tree result)
finished stops ends items built (Ok value) end (events, is, fine, (unfinished, nested, alike, last)) ok err =
    let w = complete_last unfinished _ (sym (ap complete_tree last) ∙ ok) in
    (events, w.0, is, end, sym alike ∙ ap (λ u. map without_length (events_so_far u)) w.1, w.2)
finished stops ends items built (Err error) end t ok err =
    ended stops ends items built (fault_of error) (fault_of error).kind refl end t err.0 err.1

-- one more item was taken
pub seen-more : {E : Type 0} (see : E → Item) (seen : List E) (item : E) (P : List Item → Type 0)
    → P (map see seen ++ see item ∷ []) → P (map see (seen ++ item ∷ []))
seen-more see seen item P h = rw (map-append see _ _) h
