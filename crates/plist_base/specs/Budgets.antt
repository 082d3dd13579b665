-- Items within a budget of bytes, which all strings and data share.
use Rattle.std.specs.Prelude.{◌≡◌, ℕ, ◌+◌, ◌-◌, nat_lt, if◌then◌else◌, length, List, [], ◌∷◌, Option, Result, Ok, Err}
use Rattle.plist_base.specs.declared.limits.ByteBudget.{ByteBudget}
use Rattle.plist_base.specs.declared.error.Error.{Error}
use Rattle.plist_base.specs.declared.event.Event.{Event}
use Rattle.plist_base.specs.declared.limited_items.LimitedItems.{LimitedItems}
use Rattle.plist_base.specs.Allowances.{GivesAllowed, items_allowed}
use Rattle.plist_base.specs.Faults.{Fault, OutOfMemory, fault_without_offset}
use Rattle.plist_base.specs.Events.{PlainEvent, Item, text_or_data}

-- the number of bytes in an event's string or data
abbrev pub bytes_in : PlainEvent → ℕ
bytes_in event = length (text_or_data event)

-- the number of bytes in the strings and data of these events
abbrev pub total_bytes : List PlainEvent → ℕ
total_bytes [] = 0
total_bytes (event ∷ events) = bytes_in event + total_bytes events

-- the items up to the first fault; an event with more bytes than are left becomes `OutOfMemory`
abbrev pub within_bytes : (left : ℕ) → List Item → List Item
within_bytes left [] = []
within_bytes left (Ok event ∷ items) =
    if nat_lt left (bytes_in event) then Err (fault_without_offset OutOfMemory) ∷ []
    else Ok event ∷ within_bytes (left - bytes_in event) items
within_bytes left (Err fault ∷ items) = Err fault ∷ []

-- ---- the items that a budget admits

-- the items of a list that the budget admits
abbrev pub within_budget : ByteBudget → List Item → List Item
within_budget budget = within_bytes budget.left

-- the fault is the one that replaces an event
abbrev pub IsBudgetUsedUp : Fault → Type 0
IsBudgetUsedUp fault = fault ≡ fault_without_offset OutOfMemory

-- the inner iterator's items that remain within the budget
abbrev pub items_within_budget : {I : Type 0} → LimitedItems I ByteBudget → List Item → List Item
items_within_budget = items_allowed within_budget

-- one call of `next` within a budget of bytes
abbrev pub GivesWithinBudget : {I : Type 0} → (I → Option (Result Event Error) → I → Type 0)
    → LimitedItems I ByteBudget → Option (Result Event Error) → LimitedItems I ByteBudget → Type 0
GivesWithinBudget = GivesAllowed within_budget IsBudgetUsedUp
