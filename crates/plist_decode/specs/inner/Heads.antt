-- What contracts say about the trailer and the head that the code has read.
use Rattle.std.specs.Prelude.{◌≡◌, ℕ, ◌+◌, ◌*◌, ◌<◌, ◌≤◌, Bool, List, length, drop, nat_eq, Ok, Err, ⊤}
use Rattle.std.specs.List.{starts_with}
use Rattle.plist_base.specs.Faults.{Fault, MatchFault}
use Rattle.plist_decode.specs.declared.trailer.Trailer as code
use Rattle.plist_decode.specs.declared.head.Head as held
use Rattle.plist_base.specs.Container.{Trailer, Head, head_with, magic, trailer_in}

-- what contracts see of a trailer that the code has read
abbrev pub trailer_seen : code.Trailer → Trailer
trailer_seen t = record {
  offset_width = t.offset_width;
  reference_width = t.reference_width;
  count = t.count;
  root = t.root;
  table = t.table;
}

-- what contracts see of a head that the code has read
abbrev pub head_seen : held.Head → Head
head_seen head = record {
  trailer = head.trailer;
  reference_width = head.reference_width;
  root = head.root;
  places = head.places.items;
}

-- whether the bytes begin with the magic
abbrev pub has_magic : List ℕ → Bool
has_magic bytes = starts_with nat_eq bytes magic

-- ---- what is read from a trailer

-- the offset at which the offset table ends
abbrev pub end_of_table : code.Trailer → ℕ
end_of_table t = t.table + t.count * t.offset_width

-- the width is one to eight bytes
abbrev pub IsNumberWidth : ℕ → Type 0
IsNumberWidth width = (0 < width) × (width ≤ 8)

-- ---- what is read from a head

-- if the bytes end with a trailer at this offset, this is their head
abbrev pub IsHeadBefore : (trailer : ℕ) → List ℕ → held.Head → Type 0
IsHeadBefore trailer bytes head =
    length bytes ≡ trailer + 32
    → head_with bytes trailer (trailer_in (drop trailer bytes)) ≡ Ok (head_seen head)

-- if the bytes end with a trailer at this offset, the error is that of their head, unless a read or
-- an allocation failed
abbrev pub IsFaultBefore : (trailer : ℕ) → List ℕ → Fault → Type 0
IsFaultBefore trailer bytes fault =
    length bytes ≡ trailer + 32 → MatchFault fault.kind ⊤ ⊤
    (head_with bytes trailer (trailer_in (drop trailer bytes)) ≡ Err fault)
