-- What a marker says, and what is decoded from the bytes after it.
use Rattle.std.proofs.Common.{◌≡◌, ℕ, Bool, true, false, ◌%◌, ◌<◌, ◌≤◌, List, length, take, drop, refl, ap, sym, ◌∙◌, arith}
use Rattle.std.proofs.lemmas.Bool.{le-leb}
use Rattle.std.proofs.lemmas.List.{drop_all, length-take-le}
use Rattle.plist_base.specs.Faults.{ObjectOffsetTooLarge}
use Rattle.plist_decode.specs.Reading.{object_counted, object_with}
use Rattle.plist_base.specs.Object.{byte_of, Faulty, Scalar, counted_layout, layout_of, object_after_marker, object_in}
use Rattle.plist_base.specs.Trees.{Boolean}
use Rattle.plist_base.specs.declared.marker.CountedKind.{CountedKind}
use Rattle.plist_base.specs.declared.marker.Marker.TheVariants as marker
use Rattle.plist_base.proofs.Layouts.{behind_by_half, layout-counted}

-- ---- the markers

pub object_in-beyond : (bytes : List ℕ) (w t p : ℕ) → t ≤ length bytes → t ≤ p
    → object_in w (drop p (take t bytes)) ≡ Faulty ObjectOffsetTooLarge
unfolding object_in
object_in-beyond bytes w t p fits h =
    let before = length-take-le t _ fits in
    rw (drop_all p (take t bytes) (omega arith)) refl

pub object_is_boolean : (w b : ℕ) (value : Bool) (xs : List ℕ) → byte_of (marker.Boolean value) ≡ b
    → object_with w b xs ≡ Scalar (Boolean value)
object_is_boolean w b true xs byte =
    rw (← byte) (rw (le-leb 0 (length xs) (omega arith)) refl)
object_is_boolean w b false xs byte =
    rw (← byte) (rw (le-leb 0 (length xs) (omega arith)) refl)

-- ---- objects that have a length

-- an object that has a length is determined by its kind, the low half of its marker, and the bytes
-- after the marker
pub object_by_half : (w b : ℕ) (kind : CountedKind) (low : ℕ) (xs : List ℕ) → low < 16
    → byte_of (marker.Counted kind low) ≡ b → object_with w b xs ≡ object_counted w kind low xs
object_by_half w b kind low xs small byte =
    let half : b % 16 ≡ low % 16 = omega arith in
    ap (λ l. object_after_marker b l xs)
    (ap (layout_of w) (sym byte) ∙ layout-counted w kind low small)
    ∙ behind_by_half b low (counted_layout w kind) xs half
