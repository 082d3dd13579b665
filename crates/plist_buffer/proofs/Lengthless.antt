-- Buffered events are those of a tree without their lengths.
use Rattle.std.proofs.Common.{◌≡◌, List, [], ◌∷◌, map, refl, sym, ◌∙◌, arith}
use Rattle.plist_base.specs.Bracketing.{bracketing, lengthless, without_length, AreAlike, AreTreeEvents}
use Rattle.plist_base.specs.Trees.{Tree}
use Rattle.plist_base.proofs.Lengths.{lengthless-is, without_length-twice}
use Rattle.plist_buffer.specs.declared.entries.EventEntry.{EventEntry}
use Rattle.plist_buffer.specs.declared.event_table.EventTable.{EventTable}
use Rattle.plist_buffer.specs.EventTable.{plain_events, IsBracketed}
use Rattle.plist_buffer.specs.inner.Entries.{ScalarLists, event_of_entry, events_of_entries}

shown_twice : (scalars : ScalarLists) (e : EventEntry)
    → without_length (event_of_entry scalars e) ≡ event_of_entry scalars e
shown_twice scalars e = grind (arith, without_length-twice)

all_twice : (scalars : ScalarLists) (es : List EventEntry)
    → map without_length (events_of_entries scalars es) ≡ events_of_entries scalars es
all_twice scalars [] = refl
all_twice scalars (e ∷ es) =
    cc (shown_twice scalars e, all_twice scalars es)

-- no lengths are left to remove
pub plain_twice : (held : EventTable) → map without_length (plain_events held) ≡ plain_events held
plain_twice held = all_twice _ _

pub plain_lengthless : (held : EventTable) (t : Tree) → AreAlike (plain_events held) (bracketing t)
    → plain_events held ≡ lengthless t
plain_lengthless held t h = sym (plain_twice held) ∙ h ∙ lengthless-is t

pub whole_bracketed : (held : EventTable) → AreTreeEvents (plain_events held)
    → IsBracketed (plain_events held)
whole_bracketed held whole = (whole.0, plain_lengthless held _ whole.1)
