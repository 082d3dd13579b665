-- The indices of a collection's children among buffered events.
use Rattle.std.specs.Prelude.{ℕ, zero, suc, ◌+◌, if◌then◌else◌, List, [], ◌∷◌, length}
use Rattle.plist_base.specs.Events.{PlainEvent, StartArray, StartDictionary}
use Rattle.plist_buffer.specs.EventTable.{plain_events, is_end, event_at}
use Rattle.plist_buffer.specs.declared.children.Child.{Child}
use Rattle.plist_buffer.specs.declared.children.Child.TheVariants.{Item, Key, Value}
use Rattle.plist_buffer.specs.declared.children.Children.{Children}
use Rattle.plist_buffer.specs.declared.children.Half.{Half}
use Rattle.plist_buffer.specs.declared.children.Half.TheVariants.{Keys, Values}
use Rattle.plist_buffer.specs.inner.UnclosedStarts.{skip_after}

-- the index of a child whose item or pair begins at index `first`
abbrev pub child_at : Child → ℕ → ℕ
child_at Value first = first + 1
child_at child first = first

-- the index of the last tree of an item or pair that begins at index `first`
abbrev pub last_at : Child → ℕ → ℕ
last_at Item first = first
last_at child first = first + 1

-- the indices of the children from an index on, for at most `most` items or pairs
abbrev pub children_within : (most : ℕ) → Child → List PlainEvent → (from : ℕ) → List ℕ
children_within zero child es q = []
children_within (suc most) child es q =
    if is_end (event_at es q) then [] else (if is_end (event_at es (last_at child q)) then [] else
    child_at child q ∷ children_within most child es (skip_after es (last_at child q)))

-- the indices of all children from an index on
abbrev pub children_from : Child → List PlainEvent → (from : ℕ) → List ℕ
children_from child es from = children_within (length es) child es from

-- the indices of one half of a collection's children, given its start and the index after that
abbrev pub children_after : PlainEvent → Half → List PlainEvent → (from : ℕ) → List ℕ
children_after (StartArray hint) Values es from = children_from Item es from
children_after (StartDictionary hint) Keys es from = children_from Key es from
children_after (StartDictionary hint) Values es from = children_from Value es from
children_after event half es from = []

-- the indices of one half of the children of the collection that begins at an index
abbrev pub half_of : List PlainEvent → Half → (index : ℕ) → List ℕ
half_of es half index = children_after (event_at es index) half es (index + 1)

-- the indices that an iterator still has to yield
abbrev pub indices_left : Children → List ℕ
indices_left children =
    children_from children.child (plain_events children.events.now) children.next
