-- The events of records that the caller wrote.
use Rattle.std.specs.Prelude.{◌≡◌, ℕ, ◌+◌, ◌^◌, ◌≤◌, ◌==◌, ◌&&◌, ◌||◌, nat_le, nat_lt, Bool, true, false, if◌then◌else◌, List, None, length, take, drop}
use Rattle.std.specs.Int.{to_be_bytes, w64}
use Rattle.std.specs.Str.{IsUtf8}
use Rattle.plist_base.specs.Date.{date_of_bytes}
use Rattle.plist_base.specs.Events.{PlainEvent, text_or_data}
use Rattle.plist_base.specs.Sources.{LiesAt}
use Rattle.plist_c.specs.declared.flat.FlatEvent.{FlatEvent}
use Rattle.plist_c.specs.declared.record.Flaw.{Flaw}
use Rattle.plist_c.specs.declared.record.Flaw.TheVariants as flaw
use Rattle.plist_c.specs.Flat.{IsUtf8Event, flat_of}

-- the record is that of the event, as a reader stores it: its string or data lies where the record
-- says, and a string is UTF-8
pub record IsRecordOf (bytes : List ℕ) (flat : FlatEvent) (event : PlainEvent) : Type 0 where
  pub numbers : flat ≡ flat_of flat.number event
  pub content : LiesAt bytes flat.number (text_or_data event)
  pub utf8 : IsUtf8Event event

-- is this the number of a kind of event?
abbrev pub is_kind : ℕ → Bool
is_kind kind = nat_lt 0 kind && nat_le kind 10

-- can a start have this number and this size?
abbrev pub is_start_sound : (number size : ℕ) → Bool
is_start_sound number size = (size == 1) || ((size == 0) && (number == 0))

-- can a Boolean have this number and this size?
abbrev pub is_boolean_sound : (number size : ℕ) → Bool
is_boolean_sound number size = (size == 0) && nat_lt number 2

-- can a date have this number and this size?
abbrev pub is_date_sound : (number size : ℕ) → Bool
is_date_sound number size = if number == 2 ^ 63 then false else size == 0

-- can an integer have this number and this size?
abbrev pub is_integer_sound : (number size : ℕ) → Bool
is_integer_sound number size = (size == 0) || ((size == 1) && nat_le (2 ^ 63) number)

-- can a real have this number and this size?
abbrev pub is_real_sound : (number size : ℕ) → Bool
is_real_sound number size = (size == 8) || ((size == 4) && nat_lt number (2 ^ 32))

-- Can a record of this kind have this number and this size, as far as they alone tell? A date can't
-- have the number of a negative zero.
abbrev pub has_sound_number : FlatEvent → Bool
has_sound_number flat =
    if flat.kind == 1 then is_start_sound flat.number flat.size
    else (if flat.kind == 2 then is_start_sound flat.number flat.size
    else (if flat.kind == 3 then (flat.size == 0) && (flat.number == 0)
    else (if flat.kind == 4 then is_boolean_sound flat.number flat.size
    else (if flat.kind == 5 then true
    else (if flat.kind == 6 then is_date_sound flat.number flat.size
    else (if flat.kind == 7 then is_integer_sound flat.number flat.size
    else (if flat.kind == 8 then is_real_sound flat.number flat.size
    else (if flat.kind == 9 then true
    else flat.size == 0))))))))

-- the string or data of the record lies within the bytes
abbrev pub IsWithin : (bytes : List ℕ) → FlatEvent → Type 0
IsWithin bytes flat = flat.number + flat.size ≤ length bytes

-- the record is that of no event, for this reason
abbrev pub HasFlaw : (bytes : List ℕ) → FlatEvent → Flaw → Type 0
HasFlaw bytes flat flaw.Kind = is_kind flat.kind ≡ false
HasFlaw bytes flat flaw.Number =
    (is_kind flat.kind ≡ true) × (has_sound_number flat ≡ false)
HasFlaw bytes flat flaw.Range =
    (((flat.kind == 5) || (flat.kind == 9)) ≡ true) × (IsWithin bytes flat → ⊥)
HasFlaw bytes flat flaw.Text =
    (flat.kind ≡ 9) × IsWithin bytes flat
    × (IsUtf8 (take flat.size (drop flat.number bytes)) → ⊥)
HasFlaw bytes flat flaw.Date =
    (flat.kind ≡ 6) × (date_of_bytes (to_be_bytes w64 flat.number) ≡ None)

-- the number of a flaw
abbrev pub flaw_number : Flaw → ℕ
flaw_number flaw.Kind = 32
flaw_number flaw.Number = 33
flaw_number flaw.Range = 34
flaw_number flaw.Text = 35
flaw_number flaw.Date = 12
