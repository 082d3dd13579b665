-- The length of an object, and the bytes that follow it.
use Rattle.std.proofs.Common.{false, ◌≡◌, ℕ, suc, ◌-◌, ◌*◌, ◌%◌, ◌^◌, ◌<◌, ◌≤◌, List, ◌∷◌, ◌++◌, length, take, drop, None, Some, refl, ap, ◌∙◌, arith}
use Rattle.std.proofs.lemmas.Bool.{le-leb, lt-leb}
use Rattle.std.proofs.lemmas.List.{length-append, length-drop, take_all, take-append-le, drop-append-le}
use Rattle.plist_base.specs.Container.{number_of}
use Rattle.plist_base.specs.Object.{Object, length_in, length_that_follows, meaning_counted}
use Rattle.std.specs.Prelude.{nat_lt}
use Rattle.std.proofs.lemmas.Bool.Decides.{nat_tests}

-- ---- the length

-- a length for which the marker has no room follows the marker
length_beyond : (m : ℕ) (xs : List ℕ) → 15 ≤ m % 16 → length_in m xs ≡ length_that_follows xs
length_beyond m xs h = let beyond : nat_lt (m % 16) 15 ≡ false = grind (arith, nat_tests) in
    rw beyond refl

-- the first `length xs - w` bytes from offset `w` on are all bytes from there
pub tail_whole : (w : ℕ) (xs : List ℕ) → take (length xs - w) (drop w xs) ≡ drop w xs
tail_whole w xs = take_all (length xs - w) (drop w xs) (omega (arith, length-drop w xs))

module _ (m byte w : ℕ) (rest following : List ℕ) (beyond : 15 ≤ m % 16) (is : rest ≡ byte ∷ following)
    (width : w ≡ 2 ^ (byte % 4)) where
  pub length_front : (tail more : List ℕ) → w ≤ length following → tail ≡ drop w following
      → length_in m (rest ++ more) ≡ Some (number_of (take w following), tail ++ more)
  length_front tail more h cut =
      let enough : w ≤ length (following ++ more) = omega (arith, length-append following more) in
      length_beyond m (rest ++ more) beyond
      ∙ rw (
        is,
        ← width,
        le-leb w (length (following ++ more)) enough,
        take-append-le w following more h,
        drop-append-le w following more h,
        cut,
      ) refl

  -- if the number of the length is cut off, the object has no length
  pub length_cut : w ≤ 8 → length following < w → (length rest < 9) × (length_in m rest ≡ None)
  length_cut small short = (
    omega (arith, ap length is),
    length_beyond m rest beyond ∙ rw (is, ← width, lt-leb w (length following) short) refl,
  )

pub lies_behind : (byte w : ℕ) (rest following tail : List ℕ) → rest ≡ byte ∷ following
    → w ≤ length following → tail ≡ drop w following → drop (length rest - length tail) rest ≡ tail
lies_behind byte w rest following tail is h cut =
    let n : length rest - length (drop w following) ≡ suc w = omega
    (arith, ap length is, length-drop w following) in
    rw (cut, n, is) refl

-- ---- what follows the length

-- if all bytes of the content are among these, the object is what the content means
pub content_seen : (m size count : ℕ) (rest following more : List ℕ)
    → length_in m (rest ++ more) ≡ Some (count, following ++ more) → count * size ≤ length following
    → (meaning : List ℕ → Object) → meaning_counted size (λ _. meaning) (length_in m (rest ++ more))
    ≡ meaning (take (count * size) following)
content_seen m size count rest following more is h meaning =
    let enough : count * size ≤ length (following ++ more) = omega (arith, length-append following more)
    in
    rw (is, le-leb (count * size) (length (following ++ more)) enough)
    (ap meaning (take-append-le (count * size) following more h))
