-- What an iterator yields: the first of the items that remain.
use Rattle.std.specs.Prelude.{◌≡◌, List, [], ◌∷◌, Option, Some, Result, Ok, Err, IfSome, MatchOption, MatchResult}
use Rattle.plist_base.specs.declared.error.Error.{Error}
use Rattle.plist_base.specs.Faults.{Fault, MatchFault, kind_of, error_kind_of, fault_of}
use Rattle.plist_base.specs.Events.{PlainEvent, Item}

-- a fact for each kind of item: none, an event, `Io`, `OutOfMemory`, and any other fault
abbrev pub MatchItem : {E : Type 0} → Option (Result E Error) → (none : Type 0)
    → (event : E → Type 0) → (io memory : Type 0) → (fault : Fault → Type 0) → Type 0
MatchItem item none event io memory fault =
    MatchOption item none (λ answer. MatchResult answer event
    (λ error. MatchFault (kind_of (error_kind_of error)) io memory (fault (fault_of error))))

-- `P` is true of the items that remained, and no item remains
abbrev pub StopsIf : (P : List Item → Type 0) → (before after : List Item) → Type 0
StopsIf P before after = P before × (after ≡ [])

-- The item is the first of those that remained, and the others remain after it. There is no item only
-- if none remained, and then none remains. `io` and `memory` say when `Io` and `OutOfMemory` are
-- possible, and what they leave.
abbrev pub GivesFirst : {E : Type 0} → (shown : E → PlainEvent)
    → (io memory : (before after : List Item) → Type 0) → (before : List Item)
    → Option (Result E Error) → (after : List Item) → Type 0
GivesFirst shown io memory before item after =
    MatchItem item ((before ≡ []) × (after ≡ [])) (λ event. before ≡ Ok (shown event) ∷ after)
    (io before after) (memory before after) (λ fault. before ≡ Err fault ∷ after)

-- if the remaining items are known, this one is the first of them, and the others remain and are
-- known
abbrev pub GivesFirstIfKnown : {E : Type 0} → (shown : E → PlainEvent)
    → (io memory : (before after : List Item) → Type 0) → (before : Option (List Item))
    → Option (Result E Error) → (after : Option (List Item)) → Type 0
GivesFirstIfKnown shown io memory before item after = IfSome before
    (λ all. (left : List Item) × (after ≡ Some left) × GivesFirst shown io memory all item left)
