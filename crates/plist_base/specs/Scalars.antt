-- The number that a real encodes, equality of scalars, and what a scalar writes to a hasher.
use Rattle.std.specs.Prelude.{ℕ, ◌==◌, Bool, false, not, if◌then◌else◌, List, [], ◌∷◌, from_bits, to_bits}
use Rattle.std.specs.Hash as fed
use Rattle.std.specs.Int.{w32, w64, from_be_bytes, to_be_bytes}
use Rattle.std.specs.Ordering.{int_eq}
use Rattle.std.specs.Str.{bytes_eq}
use lib.Ieee.{Float, binary32, binary64}
use Rattle.plist_base.specs.declared.real.RealBits.{RealBits}
use Rattle.plist_base.specs.declared.real.RealBits.TheVariants.{Four, Eight}
use Rattle.plist_base.specs.Trees.{Scalar, Boolean, Data, Date, Integer, Real, String, Uid}

-- the number that the bytes encode in their width
abbrev pub number_of_real : RealBits → Float
number_of_real (Four bytes) = from_bits binary32 (from_be_bytes w32 bytes)
number_of_real (Eight bytes) = from_bits binary64 (from_be_bytes w64 bytes)

-- the eight bytes that encode a number
abbrev pub real_of : Float → RealBits
real_of number = Eight (to_be_bytes w64 (to_bits binary64 number))

-- are the reals of one width, with the same bytes?
abbrev pub real_eq : RealBits → RealBits → Bool
real_eq (Four a) (Four b) = bytes_eq a b
real_eq (Eight a) (Eight b) = bytes_eq a b
real_eq _ _ = false

-- are the scalars of one kind, with the same content?
abbrev pub scalar_eq : Scalar → Scalar → Bool
scalar_eq (Boolean a) (Boolean b) = if a then b else not b
scalar_eq (Data a) (Data b) = bytes_eq a b
scalar_eq (Date a) (Date b) = bytes_eq a b
scalar_eq (Integer a) (Integer b) = int_eq a b
scalar_eq (Real a) (Real b) = real_eq a b
scalar_eq (String a) (String b) = bytes_eq a b
scalar_eq (Uid a) (Uid b) = a == b
scalar_eq _ _ = false

-- what a scalar writes to a hasher: its content, in one write
abbrev pub writes_of_scalar : Scalar → List (List ℕ)
writes_of_scalar (Boolean value) = fed.u8 (if value then 1 else 0)
writes_of_scalar (Data bytes) = bytes ∷ []
writes_of_scalar (Date bytes) = bytes ∷ []
writes_of_scalar (Integer number) = fed.i128 number
writes_of_scalar (Real (Four bytes)) = bytes ∷ []
writes_of_scalar (Real (Eight bytes)) = bytes ∷ []
writes_of_scalar (String text) = text ∷ []
writes_of_scalar (Uid number) = fed.u64 number
