-- The stack of what is expected next in a value, if the order of events is asked for.
use Rattle.std.specs.Prelude.{◌≡◌, Bool, true, false, if◌then◌else◌, List, [], ◌∷◌, Option, None, Some, reverse, ⊤}
use Rattle.plist_base.specs.Events.{PlainEvent}
use Rattle.plist_buffer.specs.declared.expects.Expect.{Expect}
use Rattle.plist_buffer.specs.Expects.{step}
use Rattle.plist_c.specs.declared.order.Order.{Order}
use Rattle.plist_c.specs.declared.stop.Halt.{Halt}
use Rattle.plist_c.specs.inner.Stops.{IsOrderStop}

-- the stack with this top, given what is below it
abbrev pub stack_with : Option Expect → (below : List Expect) → List Expect
stack_with None below = []
stack_with (Some top) below = top ∷ reverse below

-- the part of the stack below its top
abbrev pub rest_of : Order → List Expect
rest_of order = reverse order.below.items

-- the stack of an order, topmost first
abbrev pub stack_in : Order → List Expect
stack_in order = stack_with order.top order.below.items

-- the stack, if the order of events is asked for
abbrev pub asked_in : Order → Option (List Expect)
asked_in order = if order.is_asked then Some (stack_in order) else None

-- is nothing more expected?
abbrev pub is_over : List Expect → Bool
is_over [] = true
is_over (top ∷ rest) = false

-- may the events end, as far as their order is asked for?
abbrev pub may_end : Option (List Expect) → Bool
may_end None = true
may_end (Some stack) = is_over stack

-- the stack after an event, or the order isn't asked for
abbrev pub OrdersEvent : Option (List Expect) → PlainEvent → Option (List Expect) → Type 0
OrdersEvent None event new = new ≡ None
OrdersEvent (Some old) event None = ⊥
OrdersEvent (Some old) event (Some new) = step old event ≡ Some new

-- the event can come next, if the order is asked for
abbrev pub CanComeNext : Option (List Expect) → PlainEvent → Type 0
CanComeNext None event = ⊤
CanComeNext (Some stack) event = (rest : List Expect) × (step stack event ≡ Some rest)

-- this says why the event can't come next, if the order is asked for
abbrev pub IsStopOfOrder : Option (List Expect) → PlainEvent → Halt → Type 0
IsStopOfOrder None event reason = ⊥
IsStopOfOrder (Some stack) event reason = IsOrderStop stack event reason
