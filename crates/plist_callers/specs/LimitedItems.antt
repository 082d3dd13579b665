-- What an item of a reader under limits is.
use Rattle.std.specs.Prelude.{◌≡◌, true, Option, Result, IsErrAnd, IsOkAnd, IsSomeAnd, ⊤}
use Rattle.plist_base.specs.declared.error.Error.{Error}
use Rattle.plist_base.specs.declared.event.Event.{Event}
use Rattle.plist_base.specs.Events.{event_of, shape_of}
use Rattle.plist_base.specs.declared.limits.Limit.{Limit}
use Rattle.plist_base.specs.Faults.{LimitReached, fault_of}
use Rattle.plist_base.specs.Limits.{opens}

-- the item is an event
abbrev pub IsEvent : Option (Result Event Error) → Type 0
IsEvent item = IsSomeAnd item (λ answer. IsOkAnd answer (λ _. ⊤))

-- the item is the start of a collection
abbrev pub IsStart : Option (Result Event Error) → Type 0
IsStart item = IsSomeAnd item (λ answer. IsOkAnd answer (λ event. opens (shape_of (event_of event)) ≡ true))

-- the item is the error of a limit
abbrev pub IsLimit : Option (Result Event Error) → Type 0
IsLimit item = IsSomeAnd item (λ answer. IsErrAnd answer (λ error. (limit : Limit)
    × ((fault_of error).kind ≡ LimitReached limit)))
