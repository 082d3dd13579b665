-- The first bytes of a source.
use Rattle.std.proofs.Common.{◌≡◌, inl, inr, ℕ, ◌+◌, ◌<◌, ◌≤◌, Bool, true, false, cond, ◌==◌, nat_eq, List, length, take, get_or, Option, None, Some, IfSome, refl, ap, ◌∙◌, arith}
use Rattle.std.specs.Bool.{then_some}
use Rattle.std.specs.Option.{option_map_or}
use Rattle.std.specs.List.{starts_with, slice_get}
use Rattle.std.proofs.lemmas.Bool.{cases_lt}
use Rattle.std.proofs.lemmas.List.{length-take, get_or-take, get_or_past}
use Rattle.std.proofs.lemmas.List.Sums.{prefix_len-drop_all, prefix_len-drop_no, prefix_len-drop_yes}
use Rattle.std.proofs.lemmas.Option.{slice_get_within, slice_get-get_or, get_or_from_slice_get}
use Rattle.plist_base.specs.Sources.{IsOffsetWithin}
use Rattle.plist_base.specs.Container.{magic}
use Rattle.plist_decode.proofs.UnknownBytes.{IfSome-both}
use Rattle.plist_decode.specs.FaultOffsets.{HasOffset}
use Rattle.plist_decode.specs.declared.format.Format.TheVariants.{Binary, Xml, Ascii}
use Rattle.plist_decode.specs.Formats.{input_front, is_white, byte_order_mark_length, past_white, xml_place, format_of}

-- an offset that lies within bounds isn't `None`
pub within-placed : (start end : ℕ) (offset : Option ℕ) → IsOffsetWithin start end offset
    → HasOffset offset
within-placed start end None h = h
within-placed start end (Some place) h = tt

module _ (m : ℕ) (bytes : List ℕ) where
  abbrev cut : List ℕ
  cut = take m bytes

  pub inside : (place b : ℕ) → place < m → slice_get bytes place ≡ Some b → (place < length cut)
      × (get_or cut place 0 ≡ b)
  inside place b h e =
      let l : place < length bytes = slice_get_within _ _ b e in (
        omega (arith, length-take {A = ℕ}, l),
        get_or-take m _ _ 0 h
            ∙ get_or_from_slice_get bytes place b 0 e,
      )

  -- a byte of white space is skipped
  pub white-on : (place b : ℕ) → place < m → slice_get bytes place ≡ Some b → is_white b ≡ true
      → past_white place cut ≡ past_white (place + 1) cut
  white-on place b h e w =
      let i = inside _ b h e in
      let p = prefix_len-drop_yes is_white cut place 0 i.0 (ap is_white i.1 ∙ w) in
      omega (arith, p)

  -- at any other byte the search ends
  pub xml-here : (place b : ℕ) → place < m → slice_get bytes place ≡ Some b → is_white b ≡ false
      → xml_place place cut ≡ cond (b == 60) (Some place) None
  xml-here place b h e w =
      let i = inside _ b h e in
      let p : past_white place cut ≡ place = let z = prefix_len-drop_no is_white cut place 0 i.0
      (ap is_white i.1 ∙ w) in omega (arith, z) in
      ap (λ q. cond (get_or cut q 0 == 60) (Some q) None) p
      ∙ ap (λ c. cond (c == 60) (Some place) None) i.1

  -- if no byte is left, the search fails
  pub xml-past : (place : ℕ) → length cut ≤ place → xml_place place cut ≡ None
  xml-past place h =
      let p : past_white place cut ≡ place = let z = prefix_len-drop_all is_white cut place h in
      omega (arith, z) in
      ap (λ q. cond (get_or cut q 0 == 60) (Some q) None) p
      ∙ ap (λ c. cond (c == 60) (Some place) None) (get_or_past _ _ 0 h)

  pub none_left : (place : ℕ) → None ≡ slice_get bytes place → length bytes ≤ place
  none_left place e =
      elim (cases_lt place (length bytes)) [
        | inl l ↦ let no : None ≡ Some (get_or bytes place 0) → length bytes ≤ place =
            λ p. cc in no (e ∙ slice_get-get_or _ _ 0 l)
        | inr l ↦ l
      ]

  pub xml-none : (place : ℕ) → None ≡ slice_get bytes place → xml_place place cut ≡ None
  xml-none place e =
      let l = none_left _ e in xml-past _ (omega (arith, length-take {A = ℕ}, l))

  pub xml-end : (place : ℕ) → m ≤ place → xml_place place cut ≡ None
  xml-end place h = xml-past _ (omega (arith, length-take {A = ℕ}))

-- if searches from two offsets stop at the same offset, their results are equal
pub moved : (start place : ℕ) (bytes : List ℕ) → past_white start bytes ≡ past_white place bytes
    → xml_place start bytes ≡ xml_place place bytes
moved start place bytes e = ap (λ q. cond (get_or bytes q 0 == 60) (Some q) None) e

pub then_some-cond : (test : Bool) (place : ℕ) → then_some test place ≡ cond test (Some place) None
then_some-cond true place = refl
then_some-cond false place = refl

-- ---- the format

pub binary-is : (bytes : List ℕ) → true ≡ starts_with nat_eq bytes magic → Binary ≡ format_of bytes
unfolding format_of
binary-is bytes h =
    ap (λ b. cond b Binary (option_map_or Xml (xml_place (byte_order_mark_length bytes) (input_front bytes)) Ascii)) h

pub text-is : (k a b : Option (List ℕ)) (start : ℕ) (place : Option ℕ) → a ≡ k → b ≡ a
    → IfSome k (λ bytes. false ≡ starts_with nat_eq bytes magic)
    → IfSome a (λ bytes. start ≡ byte_order_mark_length bytes)
    → IfSome b (λ bytes. place ≡ xml_place start (input_front bytes))
    → IfSome k (λ bytes. option_map_or Xml place Ascii ≡ format_of bytes)
unfolding format_of
text-is k a b start place p q h m x =
    IfSome-both k (IfSome-both k (rw p at m) (rw (q ∙ p) at x)
    (λ bytes m x. x ∙ ap (λ s. xml_place s (input_front bytes)) m)) h (λ bytes x h. ap (λ p. option_map_or Xml p Ascii) x
    ∙ ap (λ b. cond b Binary (option_map_or Xml (xml_place (byte_order_mark_length bytes) (input_front bytes)) Ascii)) h)
