-- The value of a list of items, and of an iterator if the items that it will yield are known.
use Rattle.std.specs.Prelude.{◌≡◌, ℕ, List, [], ◌∷◌, ◌++◌, Option, None, Some, Result, Ok, Err, IfSome, map, ⊤}
use Rattle.plist_base.specs.declared.error.Error.{Error}
use Rattle.plist_base.specs.Events.{PlainEvent, Item}
use Rattle.plist_base.specs.FirstItems.{GivesFirstIfKnown}
use Rattle.plist_base.specs.Faults.{Fault, fault_without_offset, UnexpectedEndOfEventStream, MatchFault, IsIoOrMemory}
use Rattle.plist_base.specs.Trees.{Tree}
use Rattle.plist_base.specs.Bracketing.{bracketing, AreAlike}
use Rattle.plist_binwrite.specs.Written.{IsWrittenAs}
use Rattle.plist.specs.Building.{Unfinished, IsNested, events_so_far, refusal_at}
use Rattle.plist.specs.Collecting.{Collects, IsRefusal, built_tree}
use Rattle.plist.specs.declared.value.Value.{Value}
use Rattle.plist.specs.LastWins.{last_wins}
use Rattle.plist.specs.ValueTrees.{tree_of}

-- Why events that can follow one another have no value: the next item is this fault, or an event
-- that is rejected with it, or there is no next item, and the events aren't those of a tree.
abbrev pub IsFaultOfNext : (unfinished : Unfinished) (events : List PlainEvent) → (next : List Item) → Fault
    → Type 0
IsFaultOfNext unfinished events [] fault =
    (fault ≡ fault_without_offset UnexpectedEndOfEventStream)
    × ((tree : Tree) → AreAlike events (bracketing tree) → ⊥)
IsFaultOfNext unfinished events (Ok event ∷ more) fault = IsRefusal (refusal_at unfinished event) fault
IsFaultOfNext unfinished events (Err error ∷ more) fault = fault ≡ error

-- the items are a tree's events, apart from lengths
abbrev pub AreItemsOfTree : List Item → Tree → Type 0
AreItemsOfTree items tree =
    (events : List PlainEvent) × (items ≡ map Ok events) × AreAlike events (bracketing tree)

-- the fault is the first one or that of the first rejected event, and the items aren't those of a
-- tree
abbrev pub IsFirstFault : List Item → Fault → Type 0
IsFirstFault items fault =
    ((events : List PlainEvent) × (next : List Item) × (unfinished : Unfinished)
    × (items ≡ map Ok events ++ next) × IsNested unfinished × AreAlike (events_so_far unfinished) events
    × IsFaultOfNext unfinished events next fault)
    × ((tree : Tree) → AreItemsOfTree items tree → ⊥)

-- The result is the tree whose events the items are, with the last value of each key; or the first
-- fault, or that of the first rejected event. `Io` and `OutOfMemory` are always possible.
abbrev pub IsValueOf : List Item → Result Tree Fault → Type 0
IsValueOf items (Ok tree) = (whole : Tree) × AreItemsOfTree items whole × (tree ≡ last_wins whole)
IsValueOf items (Err fault) = MatchFault fault.kind ⊤ ⊤ (IsFirstFault items fault)

-- the result is the value of the items, if they are known
abbrev pub IsReadIfKnown : Option (List Item) → Result Tree Fault → Type 0
IsReadIfKnown items answer = IfSome items (λ all. IsValueOf all answer)

-- the result is the value of the items of known bytes
abbrev pub ReadsItems : (List ℕ → List Item) → (known : Option (List ℕ)) → Result Value Error
    → Type 0
ReadsItems items_of known answer =
    IfSome known (λ bytes. IsValueOf (items_of bytes) (built_tree answer))

-- The item is the first of those that remained, if they are known, and the others remain. After `None`
-- nothing is said about what remains, and after `Io` and `OutOfMemory` only that it is known.
abbrev pub IsPredicted : {E : Type 0} → (plain : E → PlainEvent) → (before : Option (List Item))
    → Option (Result E Error) → (after : Option (List Item)) → Type 0
IsPredicted plain before None after = IfSome before (λ all. all ≡ [])
IsPredicted plain before (Some answer) after =
    GivesFirstIfKnown plain (λ _ _. ⊤) (λ _ _. ⊤) before (Some answer) after

-- `coming` predicts the items of an iterator: each call returns the first item of its list
abbrev pub PredictsItems : {E I : Type 0} → (plain : E → PlainEvent)
    → (I → Option (Result E Error) → I → Type 0) → (coming : I → Option (List Item)) → Type 0
PredictsItems {E} {I} plain next_gives coming =
    (old : I) (item : Option (Result E Error)) (new : I) → next_gives old item new
    → IsPredicted plain (coming old) item (coming new)

-- if any function predicts the iterator's items, the result is their value
abbrev pub AnswersAsPredicted : {E I : Type 0} → (plain : E → PlainEvent)
    → (I → Option (Result E Error) → I → Type 0) → I → Result Tree Fault → Type 0
AnswersAsPredicted {E} {I} plain next_gives iter answer =
    (coming : I → Option (List Item)) → PredictsItems plain next_gives coming → IsReadIfKnown
    (coming iter) answer

-- the result is built from the items of an iterator that `into_iter` of the value returns
abbrev pub CollectsIterable : {E I J : Type 0} → (becomes : J → I → Type 0) → (plain : E → PlainEvent)
    → (I → Option (Result E Error) → I → Type 0) → J → Result Value Error → Type 0
CollectsIterable {E} {I} {J} becomes plain next_gives made answer =
    (iter : I) × becomes made iter × Collects plain next_gives iter (built_tree answer)

-- if any function predicts the items of an iterator that `into_iter` of the value returns, the
-- result is their value
abbrev pub AnswersIterable : {E I J : Type 0} → (becomes : J → I → Type 0) → (plain : E → PlainEvent)
    → (I → Option (Result E Error) → I → Type 0) → J → Result Value Error → Type 0
AnswersIterable {E} {I} {J} becomes plain next_gives made answer =
    (iter : I) × becomes made iter × AnswersAsPredicted plain next_gives iter (built_tree answer)

-- the result is this tree, unless it is `Io` or `OutOfMemory`
abbrev pub IsReadBack : Tree → Result Tree Fault → Type 0
IsReadBack tree (Ok read) = read ≡ tree
IsReadBack tree (Err fault) = IsIoOrMemory fault.kind

-- if the bytes are known and are a file of a value, they are read back as that value
abbrev pub ReadsBackIn : (known : Option (List ℕ)) → Result Tree Fault → Type 0
ReadsBackIn known answer = IfSome known (λ file.
    (value : Value) → IsWrittenAs (tree_of value) file → IsReadBack (tree_of value) answer)

-- a tree's events, apart from lengths, are those of no other tree
abbrev pub DetermineTrees : Type 0
DetermineTrees = (left right : Tree) → AreAlike (bracketing left) (bracketing right) → left ≡ right
