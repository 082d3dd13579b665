-- Scalars that are packed into a tag and a content.
use Rattle.std.proofs.lemmas.Bool.Decides.{nat_tests, eqb_tells}
use Rattle.std.proofs.Common.{◌≡◌, ◌+◌, ◌-◌, ◌^◌, ◌<◌, ◌≤◌, ℕ, true, Some, List, length, take, replicate, refl, ap, sym, subst, ◌∙◌, arith, inl, inr, rules}
use Rattle.std.specs.Str.{is_utf8}
use Rattle.std.proofs.Math.Seq.{take-append_seam}
use Rattle.std.proofs.lemmas.Bool.{false≢true}
use Rattle.std.specs.Cmp.Rules.{comparing}
use Rattle.plist_base.specs.PackedScalars.{packed_eq, scalar_of_packed}
use Rattle.plist_base.specs.declared.packed_scalar.PackedScalar.{PackedScalar}
use Rattle.std.proofs.lemmas.Nat.{from_be_bytes-to_be_bytes_8}
use Rattle.plist_base.specs.Packing.{IsPackable, IsPacked, content_bytes, content_of, kind_of_tag, number_of_padded, padded, scalar_of_kind, tag_of, unpacked}
use Rattle.plist_base.specs.Date.{date_of_bytes}
use Rattle.plist_base.specs.Trees.{Scalar, Real, String}
use Rattle.plist_base.specs.declared.real.RealBits.TheVariants.{Four}
use Rattle.plist_base.specs.declared.packed_scalar.PackedKind.TheVariants as kind

-- a scalar has this tag and this content if unpacking them gives it
pub packed_as : (tag content : ℕ) (scalar : Scalar) → unpacked tag content ≡ scalar
    → IsPackable scalar → tag_of scalar ≡ tag → content_of scalar ≡ content → IsPacked tag content
packed_as tag content scalar is packable tagged contained = record {
  packable = subst IsPackable (sym is) packable;
  tagged = ap tag_of is ∙ tagged;
  contained = ap content_of is ∙ contained;
}

-- ---- equality

-- packed scalars that pass the test are equal
pub packed_is : (a b : PackedScalar) → packed_eq a b ≡ true → scalar_of_packed a ≡ scalar_of_packed b
packed_is a b h =
    elim (eqb_tells a.tag b.tag) [
      | inl tags ↦ elim (eqb_tells a.content b.content) [
        | inl contents ↦ λ i. unpacked (tags.1 i) (contents.1 i)
        | inr apart ↦ absurd (false≢true (rw (tags.0, apart.0) at h))
      ]
      | inr apart ↦ absurd (false≢true (rw apart.0 at h))
    ]

-- equal packed scalars pass the test
pub is_packed_eq : (a b : PackedScalar) → scalar_of_packed a ≡ scalar_of_packed b
    → packed_eq a b ≡ true
is_packed_eq a b h =
    let tags : a.tag ≡ b.tag = sym a.packed.tagged ∙ ap tag_of h ∙ b.packed.tagged in
    let contents : a.content ≡ b.content = sym a.packed.contained ∙ ap content_of h ∙ b.packed.contained in
    search (comparing, rules, tags, contents)

-- ---- padded bytes

-- the content that consists of padded bytes is their number
pub number_back : (bytes : List ℕ) (content : ℕ) → content < 2 ^ 64
    → content_bytes content ≡ padded bytes → number_of_padded bytes ≡ content
number_back bytes content small is = cc (from_be_bytes-to_be_bytes_8 content small)

-- the content that consists of padded bytes begins with the bytes
pub take_padded : (bytes : List ℕ) (content : ℕ) → content_bytes content ≡ padded bytes
    → take (length bytes) (content_bytes content) ≡ bytes
take_padded bytes content is =
    ap (take (length bytes)) is ∙ take-append_seam bytes (replicate (8 - length bytes) 0)

-- ---- what is packed

-- the tag of a string
kind_of_text : (size : ℕ) → size ≤ 8 → kind_of_tag (17 + size) ≡ kind.String size
kind_of_text size h = grind (arith, nat_tests)

-- eight bytes are the content of a real
pub packed_eight : (content : ℕ) → content < 2 ^ 64 → IsPacked 5 content
packed_eight content small = search rules

-- a content begins with the four bytes of a real
pub first_four : (bytes : List ℕ) (content : ℕ) → length bytes ≡ 4
    → content_bytes content ≡ padded bytes → take 4 (content_bytes content) ≡ bytes
first_four bytes content four is =
    ap (λ size. take size (content_bytes content)) (sym four) ∙ take_padded bytes content is

-- four bytes are the content of a real
pub packed_four : (bytes : List ℕ) (content : ℕ) → length bytes ≡ 4 → content < 2 ^ 64
    → content_bytes content ≡ padded bytes → IsPacked 6 content
packed_four bytes content four small is =
    packed_as 6 content (Real (Four bytes))
    (ap (λ found. Real (Four found)) (first_four bytes content four is)) tt refl
    (number_back bytes content small is)

-- the bytes of a date are a content
pub packed_date : (date : List ℕ) (content : ℕ) → date_of_bytes date ≡ Some date → content < 2 ^ 64
    → content_bytes content ≡ date → IsPacked 26 content
packed_date date content valid small is = record {
  packable = subst (λ bytes. date_of_bytes bytes ≡ Some bytes) (sym is) valid;
  tagged = refl;
  contained = from_be_bytes-to_be_bytes_8 content small;
}

-- the bytes of a string are the content of one
pub packed_text : (text : List ℕ) (content : ℕ) → length text ≤ 8 → is_utf8 text ≡ true
    → content < 2 ^ 64 → content_bytes content ≡ padded text → IsPacked (17 + length text) content
packed_text text content short utf8 small is =
    packed_as (17 + length text) content (String text)
    (ap (λ found. scalar_of_kind found content) (kind_of_text (length text) short)
    ∙ ap String (take_padded text content is)) (short, utf8) refl
    (number_back text content small is)

-- rules for reals
pub ruleset reals = (packed_four, packed_eight, first_four)
