-- What calls of an input do to the bytes that remain, to the number of bytes taken, and to the
-- count of failures, which errors they return, what escapes denote, and strings at hand.
use Rattle.std.specs.Prelude.{◌≡◌, ℕ, ◌+◌, ◌-◌, ◌^◌, ◌<◌, ◌≤◌, Bool, true, false, List, [], ◌∷◌, ◌++◌, length, take, drop, Option, None, Some, Result, Ok, Err, IfErr, IfOk, IfSome, IsSome, MatchOption, MatchResult, encode_utf8, not}
use Rattle.std.specs.Option.{option_map, option_map_or}
use Rattle.plist_base.specs.declared.event.Event.{Event}
use Rattle.plist_base.specs.Events.{PlainEvent, ScalarEvent, event_of}
use Rattle.plist_base.specs.Faults.{Fault, FaultKind, Io, OutOfMemory, UnclosedString, IncompleteComment, InvalidUtf8AsciiStream, InvalidOctalString, InvalidUtf16String, fault_at, fault_without_offset}
use Rattle.plist_base.specs.Trees.{String}
use Rattle.plist_ascii.specs.declared.fault.TokenFault.{TokenFault}
use Rattle.plist_ascii.specs.declared.fault.TokenFault.TheVariants as fault
use Rattle.plist_ascii.specs.declared.input.Input.{Input}
use Rattle.plist_ascii.specs.declared.stop.Stop.{Stop}
use Rattle.plist_ascii.specs.declared.unescape.Escaped.{Escaped}
use Rattle.plist_ascii.specs.declared.unescape.Escaped.TheVariants as piece
use Rattle.plist_ascii.specs.TokenPrefixes.{Taken, past_one, run, taken}
use Rattle.plist_ascii.specs.Texts.{Token, begins_with}
use Rattle.plist_ascii.specs.Ascii.{IsTextEvent, IsTextToken, is_blank, lead_of, token_by}
use Rattle.plist_ascii.specs.Unread.{IfKnown, RisesIfCounted, stops, unread}

-- ---- errors and failures

-- the kind of a fault in the bytes, or `None` if a read or an allocation failed
abbrev pub kind_in_bytes : TokenFault → Option FaultKind
kind_in_bytes fault.Io = None
kind_in_bytes fault.OutOfMemory = None
kind_in_bytes fault.UnclosedString = Some UnclosedString
kind_in_bytes fault.IncompleteComment = Some IncompleteComment
kind_in_bytes fault.InvalidUtf8 = Some InvalidUtf8AsciiStream
kind_in_bytes fault.InvalidOctal = Some InvalidOctalString
kind_in_bytes fault.InvalidUtf16 = Some InvalidUtf16String

-- the error that a fault becomes, if `place` bytes were taken
abbrev pub fault_after : TokenFault → ℕ → Fault
fault_after fault.Io place = fault_at Io place
fault_after f place =
    option_map_or (λ kind. fault_at kind place) (kind_in_bytes f) (fault_without_offset OutOfMemory)

-- the meaning of the bytes, which is the value of the result mapped by `view`, or their fault;
-- `None` if a read or an allocation failed
abbrev pub said : {X A : Type 0} → (view : X → A) → Result X TokenFault
    → Option (Result A FaultKind)
said view (Ok x) = Some (Ok (view x))
said view (Err f) = option_map (λ kind. Err kind) (kind_in_bytes f)

-- the result has the meaning of this string: an event, or the fault that the string isn't UTF-8
abbrev pub Means : Result Event TokenFault → Result (Option PlainEvent) FaultKind → Type 0
Means answer outcome = MatchResult answer
    (λ event. (outcome ≡ Ok (Some (event_of event))) × IsTextEvent (event_of event))
    (λ f. (f ≡ fault.InvalidUtf8) × (outcome ≡ Err InvalidUtf8AsciiStream))

-- if the fault is `Io`, the inner reader's count of failures rose, and the error of the read that
-- failed is stored; otherwise the count is unchanged
abbrev pub CountsFailed : {R A : Type 0} → (failures : R → Option ℕ) → (old : Input R)
    → Result A TokenFault → (new : Input R) → Type 0
CountsFailed failures old (Err fault.Io) new =
    RisesIfCounted (failures old.inner) (failures new.inner) × IsSome new.failure
CountsFailed failures old other new = failures new.inner ≡ failures old.inner

-- ---- escapes

-- the bytes that an escape denotes
abbrev pub escaped_bytes : Escaped → List ℕ
escaped_bytes (piece.Byte byte) = byte ∷ []
escaped_bytes (piece.Char c) = encode_utf8 c

-- the outcome is the character's bytes or, without a character, this fault
abbrev pub IsCharOr : FaultKind → Result (List ℕ) FaultKind → Option ℕ → Type 0
IsCharOr fault outcome char =
    MatchOption char (outcome ≡ Err fault) (λ c. outcome ≡ Ok (encode_utf8 c))

-- ---- the bytes at hand, and the number of bytes taken

-- the byte that was looked at, or else the buffered bytes, up to a total of 2^64 - 1 bytes taken;
-- no bytes after the input has ended
unfoldable pub hand_of : (window : List ℕ) → (ended : Bool) → (peeked : Option ℕ) → (taken : ℕ)
    → List ℕ
hand_of window true peeked taken = []
hand_of window false None taken = take (2 ^ 64 - 1 - taken) window
hand_of window false (Some byte) taken = take (2 ^ 64 - 1 - taken) (byte ∷ [])

-- the bytes that an input can take without a read
abbrev pub hand : {R : Type 0} → (R → List ℕ) → Input R → List ℕ
hand window input = hand_of (window input.inner) input.ended input.peeked input.taken

-- all bytes at hand were taken
abbrev pub TakesHand : {R : Type 0} → (R → List ℕ) → Input R → Input R → Type 0
TakesHand window old new =
    (new.taken ≡ old.taken + length (hand window old)) × (new.taken < 2 ^ 64)

-- if the call returned `Ok(Some(..))`, `P` is true of the value
abbrev pub IfCame : {A : Type 0} → Result (Option A) TokenFault → (A → Type 0) → Type 0
IfCame answer P = IfOk answer (λ came. IfSome came P)

-- one more byte was taken
abbrev pub TakesOneMore : {R : Type 0} → Input R → Input R → Type 0
TakesOneMore old new = (new.taken ≡ old.taken + 1) × (new.taken < 2 ^ 64)

-- one more byte was taken if one was returned, and otherwise none
abbrev pub CountsByte : {R : Type 0} → Input R → Result (Option ℕ) TokenFault → Input R → Type 0
CountsByte old (Ok (Some byte)) new = TakesOneMore old new
CountsByte old other new = new.taken ≡ old.taken

-- ---- what is at the front

module _ {R : Type 0} (known : R → Option (List ℕ)) where
  -- after a fault in the bytes the remaining bytes are unchanged, and after any other fault the
  -- input has ended
  abbrev pub EndsInput : TokenFault → Input R → Input R → Type 0
  EndsInput f old new = MatchOption (kind_in_bytes f)
      ((new.ended ≡ true) × (unread known new ≡ Some []))
      (λ _. unread known new ≡ unread known old)

  -- the byte is the first of those that remain, or `None` if no byte remains, and it wasn't taken
  abbrev pub Looks : Input R → Option ℕ → Input R → Type 0
  Looks old (Some byte) new = IfKnown (unread known old) (λ xs. (rest : List ℕ)
      × (xs ≡ byte ∷ rest) × (drop 1 xs ≡ rest) × (unread known new ≡ Some xs))
  Looks old None new =
      IfKnown (unread known old) (λ xs. (unread known new ≡ Some xs) × (xs ≡ []))

  -- the first byte was taken, or none remains and none was taken
  abbrev pub TakesNext : Input R → Option ℕ → Input R → Type 0
  TakesNext old (Some byte) new = IfKnown (unread known old) (λ xs. (rest : List ℕ)
      × (xs ≡ byte ∷ rest) × (unread known new ≡ Some rest))
  TakesNext old None new = Looks old None new

  -- this byte was taken, or the next byte isn't this one
  abbrev pub TakesIf : ℕ → Input R → (is : Bool) → Input R → Type 0
  TakesIf byte old true new = TakesNext old (Some byte) new
  TakesIf byte old false new = IfKnown (unread known old)
      (λ xs. (unread known new ≡ Some xs) × (begins_with byte xs ≡ false))

  -- bytes without a stop, of which `P` is true, were taken; if there are no more of them, they are
  -- the whole run
  pub record TakesPart (stop : Stop) (P : (part : List ℕ) → Type 0) (old : Input R) (more : Bool)
      (new : Input R) : Type 0 where
    pub bytes : IfKnown (unread known old) (λ xs. (n : ℕ) × P (take n xs)
        × (unread known new ≡ Some (drop n xs)) × (new.taken ≡ old.taken + n)
        × (n ≤ run (stops stop) xs) × (more ≡ false → n ≡ run (stops stop) xs))

  -- the whole run was taken, and `P` is true of it
  pub record TakesRun (stop : Stop) (P : (run : List ℕ) → Type 0) (old new : Input R) : Type 0 where
    pub bytes : IfKnown (unread known old) (λ xs. P (take (run (stops stop) xs) xs)
        × (unread known new ≡ Some (drop (run (stops stop) xs) xs))
        × (new.taken ≡ old.taken + run (stops stop) xs))

  -- the whole run was taken, and the byte after it, if there is one
  abbrev pub TakesPast : Stop → Input R → Option ℕ → Input R → Type 0
  TakesPast stop old (Some byte) new = IfKnown (unread known old) (λ xs.
      let n = run (stops stop) xs in (ys : List ℕ) × (drop n xs ≡ byte ∷ ys)
      × (unread known new ≡ Some ys) × (new.taken ≡ old.taken + n + 1))
  TakesPast stop old None new = IfKnown (unread known old) (λ xs.
      let n = run (stops stop) xs in (drop n xs ≡ []) × (unread known new ≡ Some (drop n xs))
      × (new.taken ≡ old.taken + n))

  -- what is at the front was taken, and its meaning is the value of the result, mapped by `view`,
  -- or its fault is the error; if a read or an allocation failed, nothing is said about the bytes
  pub record GivesBy {X A : Type 0} (view : X → A) (front : List ℕ → Taken A) (old : Input R)
      (answer : Result X TokenFault) (new : Input R) : Type 0 where
    pub rises : old.taken ≤ new.taken
    pub gives : IfSome (said view answer) (λ outcome. IfKnown (unread known old)
        (λ bytes. let t = front bytes in (t.gives ≡ outcome)
        × (unread known new ≡ Some (drop t.bytes bytes)) × (new.taken ≡ old.taken + t.bytes)))

  -- `OutOfMemory` is returned only for a token that is a string, an integer or a string's fault
  abbrev pub AllocatesForText : (List ℕ → Token) → Input R → TokenFault → Type 0
  AllocatesForText front old f =
      f ≡ fault.OutOfMemory → IfKnown (unread known old) (λ xs. IsTextToken (front xs).gives)

  -- what a call does that looks at the next byte without taking it
  pub record LooksAhead (window : R → List ℕ) (failed : R → Option ℕ) (old : Input R)
      (answer : Result (Option ℕ) TokenFault) (new : Input R) : Type 0 where
    pub next : IfOk answer (λ byte. Looks old byte new)
    pub fault : IfErr answer (λ f. f ≡ fault.Io)
    -- if a byte is returned, it is at hand
    pub hand : IfCame answer (λ _. 0 < length (hand window new))
    pub place : new.taken ≡ old.taken
    pub failures : CountsFailed failed old answer new

-- ---- strings at hand

-- the first n bytes are a token, which is this string, whatever follows them
abbrev pub BeginWithText : (stops : ℕ → Bool) → List ℕ → (n : ℕ) → (text : List ℕ) → Type 0
BeginWithText stops [] n text = ⊥
BeginWithText stops (c ∷ bytes) n text =
    (more : List ℕ) → past_one (token_by stops (lead_of c) c (bytes ++ more))
    ≡ taken n (Ok (Some (ScalarEvent (String text))))

-- the first `count` bytes are blanks, if any, and then a token, which is this string
pub record LeadsToText (stops : ℕ → Bool) (bytes : List ℕ) (count : ℕ) (text : List ℕ) : Type 0 where
  pub byte : ℕ
  pub rest : List ℕ
  pub next : drop (run (λ c. not (is_blank c)) bytes) bytes ≡ byte ∷ rest
  pub means : (token_by stops (lead_of byte) byte rest).gives ≡ Ok (Some (ScalarEvent (String text)))
  pub ends : count ≡ run (λ c. not (is_blank c)) bytes + 1
      + (token_by stops (lead_of byte) byte rest).bytes
