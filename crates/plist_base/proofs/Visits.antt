-- Events that are handed over to a visitor one by one.
use Rattle.std.proofs.Common.{List, [], ◌∷◌, ◌++◌, Some, Result, Ok, Err, ap, refl, subst, sym}
use Rattle.std.specs.declared.ops.ControlFlow.TheVariants.{Break, Continue}
use Rattle.plist_base.specs.declared.error.Error.{Error}
use Rattle.plist_base.specs.declared.visitor.Visited.{Visited}
use Rattle.plist_base.specs.declared.visitor.Visited.TheVariants.{Ended, Stopped}
use Rattle.plist_base.specs.Events.{PlainEvent}
use Rattle.plist_base.specs.Visits.{Flow, YieldsAll, HandsOver, HandsOverAll, PlainItem, TakesTurn, Visits, last_turn}

module _ {I V : Type 0} (yields : I → PlainItem → I → Type 0)
    (step : V → PlainEvent → Flow → V → Type 0) where
  -- one more event is handed over
  pub hands_more : (old now new : I × V) (events : List PlainEvent) (event : PlainEvent)
      → HandsOverAll yields step old events now → HandsOver yields step now event (Continue tt) new
      → HandsOverAll yields step old (events ++ event ∷ []) new
  hands_more old now new [] event is more =
      (new, subst (λ now. HandsOver yields step now event (Continue tt) new) is more, refl)
  hands_more old now new (first ∷ events) event (next, one, others) more =
      (next, one, hands_more next now new events event others more)

  -- the source yields the events that are handed over
  pub given_all : (old new : I × V) (events : List PlainEvent)
      → HandsOverAll yields step old events new → YieldsAll yields old.0 events new.0
  given_all old new [] is = ap (λ (now : I × V). now.0) is
  given_all old new (event ∷ events) (next, one, others) =
      (next.0, one.given, given_all next new events others)

  -- a fact that each event preserves is preserved by all events
  pub kept_all : (P : I × V → Type 0) → ((now new : I × V) (event : PlainEvent) → P now
      → HandsOver yields step now event (Continue tt) new → P new)
      → (old new : I × V) (events : List PlainEvent) → P old
      → HandsOverAll yields step old events new → P new
  kept_all P keeps old new [] here is = subst P (sym is) here
  kept_all P keeps old new (event ∷ events) here (next, one, others) =
      kept_all P keeps next new events (keeps old next event here one) others

  module _ (P : V → Type 0) (keeps : (now new : V) (event : PlainEvent) (flow : Flow) → P now
      → step now event flow new → P new) where
    kept_last : (answer : Result Visited Error) (now new : I × V) → P now.1
        → TakesTurn yields step now (last_turn answer) new → P new.1
    kept_last (Ok Ended) now new here (none, same) = subst P (sym same) here
    kept_last (Ok Stopped) now new here (event, one) =
        keeps now.1 new.1 event (Break tt) here one.taken
    kept_last (Err error) now new here (fault, same) = subst P (sym same) here

    -- a fact about a visitor that each event preserves is preserved by a visit
    pub kept_by_visit : (answer : Result Visited Error) (old new : I × V) → P old.1
        → Visits yields step old answer new → P new.1
    kept_by_visit answer old new here visit = kept_last answer visit.left new
        (kept_all (λ now. P now.1)
        (λ now next event before one. keeps now.1 next.1 event (Continue tt) before one.taken)
        old visit.left visit.events here visit.handed) visit.ended

-- one more event is yielded
pub given_more : {I : Type 0} (yields : I → PlainItem → I → Type 0) (old now new : I)
    (events : List PlainEvent) (event : PlainEvent) → YieldsAll yields old events now
    → yields now (Some (Ok event)) new → YieldsAll yields old (events ++ event ∷ []) new
given_more yields old now new [] event is more =
    (new, subst (λ now. yields now (Some (Ok event)) new) is more, refl)
given_more yields old now new (first ∷ events) event (next, one, others) more =
    (next, one, given_more yields next now new events event others more)
