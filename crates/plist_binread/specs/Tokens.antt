-- The tokens that a visitor gave for objects during a visit.
use Rattle.std.specs.Prelude.{◌≡◌, ◌⊎◌, ℕ, ◌<◌, true, false, List, length, slice_index, Option, Some, IfSome, option_and_then}
use Rattle.std.specs.List.{slice_get}
use Rattle.plist_base.specs.Events.{PlainEvent}
use Rattle.plist_base.specs.VisitedItems.{HasNamed}
use Rattle.plist_base.specs.Unfolding.{TableEntry}
use Rattle.plist_base.specs.Visits.{Flow}
use Rattle.plist_decode.specs.Packed.{is_marked, is_small_event, unmarked}
use Rattle.plist_decode.specs.declared.head.Bounds.{Bounds}
use Rattle.plist_binread.specs.ObjectEvents.{event_of_object}
use Rattle.plist_binread.specs.Remaining.{entries_of}
use Rattle.plist_binread.specs.declared.tokens.Tokens.{Tokens}
use Rattle.plist_binread.specs.declared.walk.Walk.{Walk}

-- the token of an object, or 0 if it has none
abbrev pub stored_token : Tokens → (number : ℕ) → ℕ
stored_token tokens number = slice_index tokens.list.items number

-- no object has a token
abbrev pub HasNoTokens : Tokens → Type 0
HasNoTokens tokens = (number : ℕ) → stored_token tokens number ≡ 0

-- if the token isn't 0, it is that of an object which isn't open
abbrev pub IsTokenOf : Tokens → Walk → (number token : ℕ) → Type 0
IsTokenOf tokens walk number token = 0 < token → (token ≡ stored_token tokens number)
    × (number < length walk.tags.items)
    × (is_marked (slice_index walk.tags.items number) ≡ false)

-- the first event of an entry's object, or `None` if there is none
abbrev pub first_event : Option TableEntry → Option PlainEvent
first_event entry = option_and_then (λ (e : TableEntry). event_of_object e.object) entry

-- over known bytes, this is the first event of the object, which is cached if this is the event of a
-- small scalar
abbrev pub IsEventOf : (known : Option (List ℕ)) → Bounds → Walk → (number : ℕ) → PlainEvent
    → Type 0
IsEventOf known bounds walk number event = IfSome known (λ bytes.
    (first_event (slice_get (entries_of bytes bounds) number) ≡ Some event)
    × (is_small_event event ≡ true → 0 < unmarked (slice_index walk.tags.items number)))

-- each token names an event that the visitor has taken, which is that of the token's object
abbrev pub HoldsTokens : {V : Type 0} → (step : V → PlainEvent → Flow → V → Type 0)
    → (names : V → (token : ℕ) → PlainEvent → Type 0) → Tokens
    → (of_object : (number : ℕ) → PlainEvent → Type 0) → V → Type 0
HoldsTokens step names tokens of_object visitor = (number : ℕ) → 0 < stored_token tokens number
    → (event : PlainEvent) × HasNamed step names (stored_token tokens number) event visitor
    × of_object number event

-- what was cached still is
abbrev pub KeepsCached : (old new : Walk) → Type 0
KeepsCached old new = (number : ℕ) → 0 < unmarked (slice_index old.tags.items number)
    → 0 < unmarked (slice_index new.tags.items number)

-- each token was stored before, or was stored for this object now and names the event which the
-- visitor took last
abbrev pub StoresTokenOf : {V : Type 0} → (names_last : (token : ℕ) → V → Type 0) → (old : Tokens)
    → (number : ℕ) → V → (new : Tokens) → Type 0
StoresTokenOf names_last old number visitor new = (token : ℕ) × names_last token visitor
    × ((other : ℕ) → 0 < stored_token new other
    → (stored_token new other ≡ stored_token old other)
    ⊎ ((other ≡ number) × (stored_token new other ≡ token)))
