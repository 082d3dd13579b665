-- Which starts among events are open, and where the others end.
use Rattle.std.specs.Prelude.{ℕ, ◌+◌, ◌==◌, if◌then◌else◌, List, [], ◌∷◌, drop}
use Rattle.plist_base.specs.Events.{PlainEvent, EndCollection, ScalarEvent}

-- the indices of the open starts after the event at an index, innermost first
abbrev pub unclosed_after_event : PlainEvent → (index : ℕ) → (unclosed : List ℕ) → List ℕ
unclosed_after_event EndCollection index unclosed = drop 1 unclosed
unclosed_after_event (ScalarEvent x) index unclosed = unclosed
unclosed_after_event start index unclosed = index ∷ unclosed

-- the indices of the open starts after these events, the first of which is at `index`
abbrev pub unclosed_from : List PlainEvent → (index : ℕ) → (unclosed : List ℕ) → List ℕ
unclosed_from [] index unclosed = unclosed
unclosed_from (event ∷ events) index unclosed =
    unclosed_from events (index + 1) (unclosed_after_event event index unclosed)

-- the open starts among these events
abbrev pub unclosed_after : List PlainEvent → List ℕ
unclosed_after events = unclosed_from events 0 []

-- the index after the tree that begins at q, as it is known after the event at `index`, given what
-- was known before that event
abbrev pub skip_after_event : PlainEvent → (index : ℕ) → (unclosed : List ℕ) → (q given : ℕ) → ℕ
skip_after_event EndCollection index (innermost ∷ outer) q given =
    if q == innermost then index + 1 else given
skip_after_event event index unclosed q given = given

-- the index after the tree that begins at q, as it is known after these events, the first of which
-- is at `index`
abbrev pub skip_from : List PlainEvent → (index : ℕ) → (unclosed : List ℕ) → (q given : ℕ) → ℕ
skip_from [] index unclosed q given = given
skip_from (event ∷ events) index unclosed q given =
    skip_from events (index + 1) (unclosed_after_event event index unclosed) q
    (skip_after_event event index unclosed q given)

-- the index after the tree that begins at q among these events, or after its first event while it
-- is open
abbrev pub skip_after : List PlainEvent → (q : ℕ) → ℕ
skip_after events q = skip_from events 0 [] q (q + 1)
