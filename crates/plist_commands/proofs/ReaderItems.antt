-- The items of a reader and of a value, which are yielded one by one.
use Rattle.std.proofs.Common.{◌≡◌, ℕ, true, List, Option, None, Some, Result, Ok, Err, map, refl}
use Rattle.std.specs.Prelude.{is_some}
use Rattle.std.specs.Option.{option_map_or}
use Rattle.plist_base.specs.declared.error.Error.{Error}
use Rattle.plist_base.specs.declared.event.Event.{Event}
use Rattle.plist_base.specs.declared.source.Source.{Ghosts}
use Rattle.plist_base.specs.Events.{Item}
use Rattle.plist_base.specs.Sources.{CountsIo}
use Rattle.plist_base.specs.Visits.{YieldsPlain, PlainItem, plain_item}
use Rattle.plist_reader.specs.Reader.{Gives, source_in}
use Rattle.plist_reader.proofs.ReaderItems.{HoldsSource}
use Rattle.plist_reader.specs.declared.reader.Reader.{Reader}
use Rattle.plist.specs.Events.{BeginsWithStart, GivesEvent, remaining_events}
use Rattle.plist.specs.declared.stream.events.Events.{Events}
use Rattle.plist_base.specs.FirstItems.{StopsIf}
use Rattle.plist_base.proofs.FirstItems.{first_weaker_if_known, plain_first}
use Rattle.plist_base.specs.VisitedItems.{NoneLeft}
use Rattle.plist_base.proofs.VisitedItems.{Comes}
use Rattle.plist_commands.specs.Converting.{failures_in}

-- ---- a reader of either format

-- the reader has a source
abbrev pub IsOpen : {S : Type 0} {g : Ghosts S} → Reader S g → Type 0
IsOpen reader = is_some (source_in reader.state) ≡ true

source_counts : {S : Type 0} (failures : S → ℕ) (old new : Option S)
    (given : Option (Result Event Error)) → is_some old ≡ true → HoldsSource failures old given new
    → CountsIo (plain_item given) (option_map_or failures old 0)
    (option_map_or failures new 0) × (is_some new ≡ true)
source_counts failures None new given some h = absurd (cc)
source_counts failures (Some source) None given some h = absurd h
source_counts failures (Some source) (Some kept) None some h = (h, refl)
source_counts failures (Some source) (Some kept) (Some (Ok event)) some h = (h, refl)
source_counts failures (Some source) (Some kept) (Some (Err error)) some h = (h, refl)

pub reader_counts : {S : Type 0} {g : Ghosts S} (known : S → Option (List ℕ)) (failed : S → ℕ)
    (old : Reader S g) (item : PlainItem) (new : Reader S g) → IsOpen old
    → YieldsPlain (Gives known failed) old item new
    → CountsIo item (failures_in failed old) (failures_in failed new) × IsOpen new
reader_counts known failed old item new some (given, yields, is) =
    rw is (source_counts failed (source_in old.state) (source_in new.state) given some yields.failures)

-- ---- the events of a value

-- the remaining events of a value, as items
abbrev pub items_of_events : Events → Option (List Item)
items_of_events events = Some (map Ok (remaining_events events))

pub events_come : (old : Events) (item : PlainItem) (new : Events)
    → YieldsPlain GivesEvent old item new
    → Comes (items_of_events old) item (items_of_events new)
events_come old item new (given, yields, is) =
    rw is (first_weaker_if_known (λ event. event) (λ _ _. ⊥)
    (StopsIf (λ _. BeginsWithStart (remaining_events old))) NoneLeft NoneLeft (λ _ _ io. absurd io)
    (λ _ _ stops. stops.1) (items_of_events old) (items_of_events new) (plain_item given)
    (plain_first (λ _ _. ⊥) (StopsIf (λ _. BeginsWithStart (remaining_events old)))
    (items_of_events old) (items_of_events new) given
    (map Ok (remaining_events new), refl, yields.items)))
