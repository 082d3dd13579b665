-- What an outcome says of a fault.
use Rattle.std.specs.Prelude.{◌≡◌, ℕ, Option, MatchOption}
use Rattle.plist_base.specs.Faults.{Fault}
use Rattle.plist_c.specs.declared.flat.Outcome.{Outcome}
use Rattle.plist_c.specs.Numbers.{fault_detail, fault_expected, fault_number}

-- the outcome with these numbers, and 0 in all other fields
abbrev pub plain_outcome : (events bytes fault : ℕ) → Outcome
plain_outcome events bytes fault = record {
  events = events;
  bytes = bytes;
  fault = fault;
  detail = 0;
  expected = 0;
  has_offset = 0;
  offset = 0;
}

-- the outcome has this offset, or none
abbrev pub StatesOffset : Option ℕ → Outcome → Type 0
StatesOffset place outcome = MatchOption place ((outcome.has_offset ≡ 0) × (outcome.offset ≡ 0))
    (λ offset. (outcome.has_offset ≡ 1) × (outcome.offset ≡ offset))

-- the outcome names this fault
pub record Names (fault : Fault) (outcome : Outcome) : Type 0 where
  pub number : outcome.fault ≡ fault_number fault.kind
  pub detail : outcome.detail ≡ fault_detail fault.kind
  pub expected : outcome.expected ≡ fault_expected fault.kind
  pub offset : StatesOffset fault.offset outcome
