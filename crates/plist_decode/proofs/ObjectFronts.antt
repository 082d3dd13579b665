-- What the bytes at an object's front say, whatever follows them.
use Rattle.std.proofs.Common.{◌≡◌, ℕ, ◌+◌, ◌≤◌, List, ◌∷◌, ◌++◌, length, take, drop, Option, IfSome, refl, ap, sym, ◌∙◌}
use Rattle.std.proofs.lemmas.List.{take-take, take-append-drop}
use Rattle.plist_base.specs.Sources.{LiesAt}
use Rattle.plist_base.specs.Object.{layout_of, object_after_marker, object_in}
use Rattle.plist_decode.proofs.NumberRuns.{take-drop-take}
use Rattle.std.proofs.lemmas.Option.{IfSome_then}

-- an object means what its marker and the bytes after that mean
pub object_front : (w m : ℕ) (xs ys : List ℕ) → xs ≡ m ∷ ys
    → object_in w xs ≡ object_after_marker m (layout_of w m) ys
unfolding object_in
object_front w m xs ys is = rw is refl

-- the bytes before the trailer begin with those that were read
front_lies : (bytes outcome : List ℕ) (t p w : ℕ) → p + w ≤ t
    → outcome ≡ take (length outcome) (drop p bytes) → w ≤ length outcome
    → drop p (take t bytes) ≡ take w outcome ++ drop w (drop p (take t bytes))
front_lies bytes outcome t p w buffered is h =
    sym (take-append-drop w _)
    ∙ ap (λ ys. ys ++ drop w (drop p (take t bytes)))
    (cc (take-drop-take p w t bytes buffered, take-take w (length outcome) (drop p bytes) h))

pub known_front : (known : Option (List ℕ)) (outcome found : List ℕ) (t p w : ℕ) → p + w ≤ t
    → w ≤ length outcome → found ≡ take w outcome → IfSome known (λ bytes. LiesAt bytes p outcome)
    → IfSome known (λ bytes. t ≤ length bytes → (more : List ℕ)
    × (drop p (take t bytes) ≡ found ++ more))
known_front known outcome found t p w buffered h cut is = IfSome_then known is (λ bytes is fits. (
  drop w _,
  front_lies _ _ t p w buffered is h
      ∙ ap (λ ys. ys ++ drop w (drop p (take t bytes))) (sym cut),
))
