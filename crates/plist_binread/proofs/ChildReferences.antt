-- Copies of bytes, and the references to children that lie in them.
use Rattle.std.proofs.Common.{◌≡◌, ℕ, ◌+◌, ◌-◌, ◌*◌, ◌^◌, ◌<◌, ◌≤◌, List, length, take, drop, get_or, Option, Some, Result, Ok, Err, IfOk, IfErr, IfSome, ap, sym, ◌∙◌, arith}
use Rattle.std.proofs.lemmas.List.{length-take-le, length-drop, drop-drop, take-take, drop-take}
use Rattle.plist_base.specs.declared.error.Error.{Error}
use Rattle.plist_base.specs.Faults.{IsIo, kind_of, error_kind_of}
use Rattle.plist_base.specs.Container.{number_of, number_at}
use Rattle.plist_decode.specs.Reading.{object_at}
use Rattle.plist_binread.specs.References.{AreReferencesOf, IsNumberAt, ReadsChildAt, reference_place}
use Rattle.plist_decode.specs.Decoding.{children_in, reference_index}
use Rattle.plist_binread.specs.declared.references.References.{References}
use Rattle.plist_decode.specs.declared.head.Bounds.{Bounds}
use Rattle.std.proofs.lemmas.Option.{IfSome_then}
use Rattle.plist_decode.proofs.UnknownBytes.{IfSome-both}
use Rattle.plist_base.specs.Sources.{LiesAt}
use Rattle.plist_decode.proofs.NumberRuns.{take-drop-take}

-- ---- bytes that lie at an offset

-- a front of bytes that lie at an offset lies there, too
pub known_prefix : (known : Option (List ℕ)) (p k : ℕ) (buffered : List ℕ) → k ≤ length buffered
    → IfSome known (λ bytes. LiesAt bytes p buffered)
    → IfSome known (λ bytes. LiesAt bytes p (take k buffered))
known_prefix known p k buffered h is = IfSome_then known is (λ bytes is.
    let n = length-take-le k buffered h in
    rw n (ap (take k) is ∙ take-take k (length buffered) (drop p bytes) h))

-- if bytes lie at an offset, those after the first `k` of them lie `k` bytes after the offset
pub known_suffix : (known : Option (List ℕ)) (p k place : ℕ) (found : List ℕ) → place ≡ p + k
    → k ≤ length found
    → IfSome known (λ bytes. LiesAt bytes p found)
    → IfSome known (λ bytes. LiesAt bytes place (drop k found))
known_suffix known p k place found at within lies = IfSome_then known lies (λ bytes lies.
    let n = length found in
    let whole : n ≡ k + (n - k) = omega (arith, within) in
    let rest : length (drop k found) ≡ n - k = length-drop k found in
    rw (rest, at) (ap (drop k) lies ∙ ap (λ m. drop k (take m (drop p bytes))) whole
    ∙ drop-take k (n - k) (drop p bytes) ∙ ap (take (n - k)) (drop-drop k p bytes)))

-- the number in bytes of a run is that of the source
pub number_in_run : (known : Option (List ℕ)) (p k width place number : ℕ) (found : List ℕ)
    → place ≡ p + k → k + width ≤ length found
    → number ≡ number_of (take (k + width - k) (drop k found))
    → IfSome known (λ bytes. LiesAt bytes p found)
    → IsNumberAt (Some number) known place width
number_in_run known p k width place number found at within value lies =
    let rest = known_suffix known p k place found at (omega (arith, within)) lies in
    let short : width ≤ length (drop k found) = omega (arith, within, length-drop k found) in
    IfSome_then known (known_prefix known place width (drop k found) short rest)
    (λ bytes lies.
    let long : length (take width (drop k found)) ≡ width
    = length-take-le width (drop k found) short in
    value ∙ ap (λ m. number_of (take m (drop k found))) (omega arith)
    ∙ ap number_of (lies ∙ ap (λ m. take m (drop place bytes)) long))

-- ---- the reference to a child

module _ (known : Option (List ℕ)) (bounds : Bounds) (references : References) (index at : ℕ)
    (answer : Result ℕ Error) (asks : AreReferencesOf known bounds references)
    (exact : reference_place references index bounds.reference_width < 2 ^ 64
    → at ≡ reference_place references index bounds.reference_width) where
  -- the reference to a child lies before the trailer, and encodes the child's number
  at_slot : IfSome known (λ bytes. bounds.trailer ≤ length bytes
      → index < length (children_in (object_at bounds references.place bytes))
      → (at + bounds.reference_width ≤ bounds.trailer)
      × (number_at bytes at bounds.reference_width
      ≡ get_or (children_in (object_at bounds references.place bytes)) index 0))
  at_slot = IfSome_then known asks (λ bytes asks fits there.
      let w = bounds.reference_width in
      let p = references.place in
      let q = references.start + reference_index references.kind references.count index * w in
      let slot = rw asks.0 at (asks.1 index there) in
      let before : length (take bounds.trailer bytes)
      ≡ bounds.trailer = length-take-le bounds.trailer bytes fits in
      let following : length (drop p (take bounds.trailer bytes))
      ≡ length (take bounds.trailer bytes) - p = length-drop p (take bounds.trailer bytes) in
      let small = bounds.small in
      let whole : p + q + w ≤ bounds.trailer = omega
      (arith, slot.0, before, following, bounds.width.0) in
      let same : at ≡ p + q = exact (omega arith) ∙ omega arith in (
        omega arith,
        ap (λ place. number_at bytes place w) same
            ∙ sym (ap number_of (take-drop-take (p + q) w bounds.trailer bytes whole))
            ∙ ap (λ ys. number_of (take w ys)) (sym (drop-drop q p (take bounds.trailer bytes)))
            ∙ slot.1,
      ))

  -- a read of the reference to a child reads the child's number, or fails
  pub known_slot : IfOk answer (λ n. IfSome known (λ bytes. n ≡ number_at bytes at
      bounds.reference_width))
      → IfErr answer (λ e. IfSome known (λ bytes.
      at + bounds.reference_width ≤ length bytes → IsIo (kind_of (error_kind_of e))))
      → ReadsChildAt answer known bounds references.place index
  known_slot number refused = by answer number refused
    where
      by : (answer : Result ℕ Error) → IfOk answer (λ n. IfSome known (λ bytes.
          n ≡ number_at bytes at bounds.reference_width))
          → IfErr answer (λ e. IfSome known (λ bytes.
          at + bounds.reference_width ≤ length bytes → IsIo (kind_of (error_kind_of e))))
          → ReadsChildAt answer known bounds references.place index
      by (Ok n) number refused = IfSome-both known at_slot number (λ bytes slot number fits there.
          number ∙ (slot fits there).1)
      by (Err e) number refused = IfSome-both known at_slot refused (λ bytes slot refused fits there.
          refused (omega (arith, fits, (slot fits there).0)))
