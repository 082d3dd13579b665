-- The tokens of an old-style ASCII property list, their items, and the events and faults there are.
use Rattle.std.specs.Prelude.{◌≡◌, ◌⊎◌, ℕ, zero, suc, ◌+◌, Bool, ◌==◌, if◌then◌else◌, List, [], ◌∷◌, length, drop, map, slice_get, Option, None, Some, Result, Ok, Err, IsSomeAnd, MatchResult, ⊤}
use Rattle.plist_base.specs.Events.{PlainEvent, StartArray, StartDictionary, EndCollection, Item, ScalarEvent}
use Rattle.plist_base.specs.Faults.{FaultKind, IncompleteComment, InvalidOctalString, InvalidUtf16String, InvalidUtf8AsciiStream, UnclosedString, fault_at}
use Rattle.plist_base.specs.Trees.{Integer, String}
use Rattle.plist_ascii.specs.declared.token.Lead.{Lead}
use Rattle.plist_ascii.specs.declared.token.Lead.TheVariants as lead
use Rattle.plist_ascii.specs.TokenPrefixes.{code_of, is_one_of, taken, past_one}
use Rattle.plist_ascii.specs.Texts.{Token, bare, lax_stops, quoted_token, slash}

-- ---- tokens

-- is the byte a separator or white space?
abbrev pub is_blank : ℕ → Bool
is_blank c = is_one_of ",;= \r\t\n" c

-- what a byte begins: nothing, a start, an end, a quoted string, a comment or a bare string
abbrev pub lead_of : ℕ → Lead
lead_of c =
    if is_blank c then lead.Blank else if c == code_of "(" then lead.ArrayStart
    else if c == code_of "{" then lead.DictionaryStart else if is_one_of ")}" c then lead.End
    else if is_one_of "'\"" c then lead.Quote else if c == code_of "/" then lead.Slash else lead.Bare

-- the token that c begins, without c itself
abbrev pub token_by : (stops : ℕ → Bool) → Lead → ℕ → List ℕ → Token
token_by stops lead.ArrayStart c rest = taken 0 (Ok (Some (StartArray None)))
token_by stops lead.DictionaryStart c rest = taken 0 (Ok (Some (StartDictionary None)))
token_by stops lead.End c rest = taken 0 (Ok (Some EndCollection))
token_by stops lead.Blank c rest = taken 0 (Ok None)
token_by stops lead.Quote c rest = quoted_token c rest
token_by stops lead.Slash c rest = slash stops rest
token_by stops lead.Bare c rest = bare stops c rest

-- the first token of the bytes `c` and `rest`
unfoldable pub token : (stops : ℕ → Bool) → ℕ → List ℕ → Token
token stops c rest = past_one (token_by stops (lead_of c) c rest)

-- each token is independent of the stops, or is a bare string
abbrev pub OnlyBareTextsDiffer : Type 0
OnlyBareTextsDiffer =
    (c : ℕ) (rest : List ℕ) → ((stops : ℕ → Bool) → token stops c rest ≡ token lax_stops c rest)
    ⊎ ((stops : ℕ → Bool) → token stops c rest ≡ past_one (bare stops c rest))

-- ---- items

-- an item, what its first byte begins, and the offset of its end
pub record PlacedItem : Type 0 where
  pub lead : Lead
  pub end : ℕ
  pub item : Item

-- an item with what its first byte begins and the offset of its end
abbrev pub placed : Lead → ℕ → Item → PlacedItem
placed lead end item = record { lead = lead; end = end; item = item }

-- a token's item, if it has one, and then the others; the offset of a fault is the token's end
abbrev pub item_then : Lead → ℕ → Result (Option PlainEvent) FaultKind → List PlacedItem
    → List PlacedItem
item_then lead end (Ok None) more = more
item_then lead end (Ok (Some event)) more = placed lead end (Ok event) ∷ more
item_then lead end (Err kind) more = placed lead end (Err (fault_at kind end)) ∷ more

-- the items of some bytes, token by token; `fuel` is at least the number of bytes
unfoldable pub items_in : (stops : ℕ → Bool) → (fuel : ℕ) → List ℕ → ℕ → List PlacedItem
items_in stops zero bytes place = []
items_in stops (suc fuel) [] place = []
items_in stops (suc fuel) (c ∷ rest) place =
    let t = token stops c rest in
    item_then (lead_of c) (place + t.bytes) t.gives
    (items_in stops fuel (drop t.bytes (c ∷ rest)) (place + t.bytes))

-- the items of some bytes, with their leads and ends, if the first byte is at this offset
abbrev pub placed_items : (stops : ℕ → Bool) → List ℕ → (place : ℕ) → List PlacedItem
placed_items stops bytes place = items_in stops (length bytes) bytes place

-- the items of some bytes, if the first byte is at this offset
abbrev pub items_of_ascii : (stops : ℕ → Bool) → List ℕ → (place : ℕ) → List Item
items_of_ascii stops bytes place = map (λ p. p.item) (placed_items stops bytes place)

-- ---- which events and faults there are

-- a fault of a string
abbrev pub IsTextFault : FaultKind → Type 0
IsTextFault UnclosedString = ⊤
IsTextFault InvalidUtf8AsciiStream = ⊤
IsTextFault InvalidOctalString = ⊤
IsTextFault InvalidUtf16String = ⊤
IsTextFault kind = ⊥

-- bytes can have a fault of this kind
abbrev pub IsFaultOfBytes : FaultKind → Type 0
IsFaultOfBytes IncompleteComment = ⊤
IsFaultOfBytes kind = IsTextFault kind

-- the event is a string or an integer
abbrev pub IsTextEvent : PlainEvent → Type 0
IsTextEvent (ScalarEvent (String text)) = ⊤
IsTextEvent (ScalarEvent (Integer number)) = ⊤
IsTextEvent event = ⊥

-- the event is a string, an integer, an end, or a start without a length
abbrev pub IsAsciiEvent : PlainEvent → Type 0
IsAsciiEvent (StartArray None) = ⊤
IsAsciiEvent (StartDictionary None) = ⊤
IsAsciiEvent EndCollection = ⊤
IsAsciiEvent event = IsTextEvent event

-- if the event is a start or an end, the fact is true
abbrev pub IfBracket : PlainEvent → (fact : Type 0) → Type 0
IfBracket (ScalarEvent scalar) fact = ⊤
IfBracket other fact = fact

-- ---- where memory may run out

-- the token is a string, an integer or a string's fault
abbrev pub IsTextToken : Result (Option PlainEvent) FaultKind → Type 0
IsTextToken token = MatchResult token (λ event. IsSomeAnd event IsTextEvent) IsTextFault

-- the first item is a string, an integer or a string's fault
abbrev pub BeginsWithText : List Item → Type 0
BeginsWithText items = IsSomeAnd (slice_get items 0)
    (λ item. MatchResult item IsTextEvent (λ fault. IsTextFault fault.kind))

-- ---- what follows an item

-- the first item is a quoted string
abbrev pub FirstIsQuoted : List PlacedItem → Type 0
FirstIsQuoted [] = ⊥
FirstIsQuoted (p ∷ items) = p.lead ≡ lead.Quote
