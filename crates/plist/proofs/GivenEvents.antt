-- What an iterator over a value's events yields: an event, `OutOfMemory`, or nothing.
use Rattle.std.proofs.Common.{◌≡◌, List, [], ◌∷◌, None, Some, Ok, Err, map, refl, ap, subst}
use Rattle.plist_base.specs.declared.error.Error.{Error}
use Rattle.plist_base.specs.declared.event.Event.{Event}
use Rattle.plist_base.specs.Events.{Item, PlainEvent, event_of}
use Rattle.plist_base.specs.Faults.{Fault, MatchFault, OutOfMemory, fault_of, fault_without_offset}
use Rattle.plist_base.specs.FirstItems.{StopsIf}
use Rattle.plist.specs.declared.stream.events.Events.{Events}
use Rattle.plist.specs.Events.{BeginsWithStart, GivesEventOf, IsBorrowed, remaining_events}

-- events are equal if their items are
same_events : (xs ys : List PlainEvent) → ◌≡◌ {A = List Item} (map Ok xs) (map Ok ys) → xs ≡ ys
same_events [] [] e = refl
same_events (x ∷ xs) (y ∷ ys) e = let rest = same_events xs ys (cc e) in cc (e, rest)
same_events xs ys e = absurd (cc e)

module _ {events : List PlainEvent} {after : Events} where
  pub gives_event : (event : Event) → events ≡ event_of event ∷ remaining_events after
      → IsBorrowed event → GivesEventOf events (Some (Ok event)) after
  gives_event event is borrowed =
      record { items = ap (map Ok) is; borrowed = borrowed; memory = tt }

  pub event_comes : {event : Event} → GivesEventOf events (Some (Ok event)) after
      → events ≡ event_of event ∷ remaining_events after
  event_comes {event} gives =
      same_events events (event_of event ∷ remaining_events after) gives.items

  pub memory_comes : {error : Error} → GivesEventOf events (Some (Err error)) after
      → (fault_of error ≡ fault_without_offset OutOfMemory) × BeginsWithStart events
      × (remaining_events after ≡ [])
  memory_comes {error} gives =
      let stops : StopsIf (λ _. BeginsWithStart events) (map Ok events)
      (map Ok (remaining_events after)) =
      subst (λ k. MatchFault k ⊥ (StopsIf (λ _. BeginsWithStart events) (map Ok events)
      (map Ok (remaining_events after)))
      (map Ok events ≡ Err (fault_of error) ∷ map Ok (remaining_events after)))
      (ap (λ (f : Fault). f.kind) gives.memory) gives.items in
      (gives.memory, stops.0, same_events (remaining_events after) [] stops.1)

  pub none_comes : GivesEventOf events None after → events ≡ []
  none_comes gives = same_events events [] gives.items.0
