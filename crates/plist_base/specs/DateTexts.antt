-- The text forms of dates.
use Rattle.std.specs.Prelude.{◌≡◌, ℕ, List, ℤ, ◌+ℤ◌, ◌-ℤ◌, Option, None, Some, Result, Ok, Err, MatchResult, String, slice_index, string_bytes}
use Rattle.std.specs.declared.alloc.Global.{Global}
use Rattle.plist_base.specs.declared.error.Error.{Error}
use Rattle.plist_base.specs.Date.{IsDate, IsWhole, if_second_of_date, plist_epoch, second_of_bytes}
use Rattle.plist_base.specs.Faults.{FaultKind, OutOfMemory, fault_without_offset, fault_of}
use Rattle.plist_base.specs.UnixSeconds.{HasFourDigitYear, IsTextOfSecond, unix_second_of_text}

-- converts a Unix second to one that is counted from the start of 2001, or to `None` if it is
-- outside the range of dates
abbrev pub second_at : Option ℤ → Option ℤ
second_at None = None
second_at (Some unix) = if_second_of_date (unix -ℤ plist_epoch)

-- the second of the date that a text spells, or `None` if it spells no date
abbrev pub second_of_text : List ℕ → Option ℤ
second_of_text text = second_at (unix_second_of_text text)

-- the year of the date is one from 0 to 9999
abbrev pub HasTextYear : List ℕ → Type 0
HasTextYear date =
    (second : ℤ) → second_of_bytes date ≡ Some second → HasFourDigitYear (second +ℤ plist_epoch)

-- the date has no fraction, and this is the text of its second
abbrev pub IsDateText : (date text : List ℕ) → Type 0
IsDateText date text =
    IsDate date × IsWhole date × ((second : ℤ) → second_of_bytes date ≡ Some second
    → IsTextOfSecond (second +ℤ plist_epoch) text)

-- the text has `T` before the time, and `Z` as its zone
abbrev pub IsInUtc : List ℕ → Type 0
IsInUtc text = (slice_index text 10 ≡ 84) × (slice_index text 19 ≡ 90)

-- the call returned an error of this kind, without an offset
abbrev pub IsRefused : {A : Type 0} → FaultKind → Result A Error → Type 0
IsRefused kind (Ok value) = ⊥
IsRefused kind (Err error) = fault_of error ≡ fault_without_offset kind

-- the call returned this text or `OutOfMemory`, without an offset
abbrev pub PrintsOnly : List ℕ → Result (String Global) Error → Type 0
PrintsOnly text answer = MatchResult answer (λ printed. string_bytes printed ≡ text)
    (λ error. fault_of error ≡ fault_without_offset OutOfMemory)
