-- What the bytes after a marker mean.
use Rattle.std.proofs.Common.{◌≡◌, ℕ, zero, suc, get_or, replicate, ◌+◌, ◌-◌, ◌*◌, ◌/◌, ◌^◌, ◌<◌, ◌≤◌, inl, inr, pos, negsuc, ◌-ℤ◌, Bool, true, false, List, [], ◌∷◌, ◌++◌, length, take, drop, Option, IfSome, refl, ap, sym, ◌∙◌, arith, add_assoc}
use Rattle.std.specs.Int.{cast_signed, w64}
use Rattle.std.specs.Int.Digits.{number_from_digits, number_from_digits_after}
use Rattle.std.specs.Char.Utf16.{has_unpaired_surrogate}
use Rattle.std.specs.Str.{IsUtf8, is_utf8}
use Rattle.std.proofs.lemmas.Bool.{lt-leb, lt-ltb, le-ltb, le-leb, cases_lt}
use Rattle.std.proofs.lemmas.Int.{ints}
use Rattle.std.proofs.lemmas.Int.Digits.{number_after_append}
use Rattle.std.proofs.lemmas.List.{length-append, length-take-le, length-drop, take-append-le}
use Rattle.std.proofs.lemmas.Nat.{be_bytes_8}
use Rattle.std.proofs.lemmas.Option.{IfSome_then}
use Rattle.std.proofs.lemmas.Str.{is_utf8-from_IsUtf8, IsUtf8-from_is_utf8}
use Rattle.std.proofs.Math.Nat.{pow-zero, pow-succ', add-mul, mul_assoc}
use Rattle.std.proofs.Math.ListN.{length-replicate}
use Rattle.std.proofs.Math.Seq.{take-add}
use Rattle.std.specs.Prelude.{if◌then◌else◌}
use Rattle.plist_base.specs.Packing.{content_bytes, number_of_padded, padded}
use Rattle.plist_base.specs.declared.error.Error.{Error}
use Rattle.plist_base.specs.Faults.{IntegerOutOfRange, InvalidUtf8String, kind_of, error_kind_of, fault_of}
use Rattle.plist_base.specs.Trees.{Integer, String}
use Rattle.plist_base.proofs.Refusals.{MatchFault-weaker}
use Rattle.plist_base.specs.Container.{number_of, numbers_spelled}
use Rattle.plist_base.proofs.Utf16Forms.{no_fewer_bytes}
use Rattle.plist_decode.specs.Decoding.{Allocates, IsRefusedAs, is_small_object}
use Rattle.plist_decode.specs.CountedContent.{content_means, unit_size}
use Rattle.plist_decode.specs.Reading.{IsIoOrMemoryAt}
use Rattle.plist_decode.specs.declared.decoded.ContentKind.{ContentKind}
use Rattle.plist_decode.specs.declared.decoded.ContentKind.TheVariants as kind
use Rattle.plist_base.specs.Object.{Object, Scalar, Faulty, signed, integer_in_range, wide_integer, text, wide_text, meaning_of_front}

one_digit : (n b d power rest all : ℕ) → all ≡ b * power
    → (n * b + d) * power + rest ≡ n * all + ((0 * b + d) * power + rest)
one_digit n b d power rest all e =
    let zero_first : 0 * b + d ≡ d = omega arith in
    rw (e, zero_first, add-mul _ d _, mul_assoc n b _)
    (add_assoc _ _ _)

number_after : (b n : ℕ) (ds : List ℕ)
    → number_from_digits_after b n ds ≡ n * b ^ length ds + number_from_digits b ds
number_after b n [] = rw (pow-zero b) (omega arith)
number_after b n (d ∷ ds) =
    cc (
      number_after b (n * b + d) ds,
      one_digit n b d (b ^ length ds) (number_from_digits b ds)
          (b ^ suc (length ds)) (pow-succ' b (length ds)),
      number_after b (0 * b + d) ds,
    )

-- sixteen bytes encode two numbers of eight bytes
sixteen : (xs : List ℕ) → 16 ≤ length xs
    → number_of (take 16 xs) ≡ number_of (take 8 xs) * 2 ^ 64 + number_of (take 8 (drop 8 xs))
sixteen xs h =
    let rest = length-drop 8 xs in
    let len = length-take-le 8 _ (omega arith) in
    ap number_of (take-add 8 8 xs)
    ∙ number_after_append 256 0 (take 8 xs) (take 8 (drop 8 xs))
    ∙ number_after 256 _ (take 8 (drop 8 xs))
    ∙ ap (λ k. number_of (take 8 xs) * 256 ^ k + number_of (take 8 (drop 8 xs))) len

pub wide_front : (xs more : List ℕ) → 16 ≤ length xs
    → meaning_of_front 16 wide_integer (xs ++ more) ≡ integer_in_range
    (signed 128 (number_of (take 8 xs) * 2 ^ 64 + number_of (take 8 (drop 8 xs))))
wide_front xs more h =
    let enough : 16 ≤ length (xs ++ more) = omega (arith, length-append xs more) in
    rw (le-leb 16 _ enough, take-append-le 16 xs _ h)
    (ap (λ n. integer_in_range (signed 128 n)) (sixteen xs h))

below_zero : (n m : ℕ) → n < m → pos n -ℤ pos m ≡ negsuc (m - n - 1)
below_zero n m h = omega (arith, ints)

-- an integer of sixteen bytes whose high half is zero is its low half
pub wide_low : (low : ℕ) → low < 2 ^ 64
    → integer_in_range (signed 128 (0 * 2 ^ 64 + low)) ≡ Scalar (Integer (pos low))
wide_low low h =
    let e : 0 * 2 ^ 64 + low ≡ low = omega arith in
    let small : low < 2 ^ 127 = omega arith in
    rw (e, lt-ltb low _ small, lt-ltb low _ h) refl

-- the signed integer that these bits encode
pub signed_bits : (n : ℕ) → n < 2 ^ 64 → cast_signed w64 n ≡ signed 64 n
signed_bits n small = elim (cases_lt n (2 ^ 63)) [
  | inl low ↦ rw (lt-ltb n (2 ^ 63) low) refl
  | inr high ↦ let e : 2 ^ 64 - n - 1 ≡ 2 ^ 64 - suc n = omega arith in
      rw (le-ltb n (2 ^ 63) high) (sym (below_zero n (2 ^ 64) small ∙ ap negsuc e))
]

out_of_range : (n : ℕ) → 2 ^ 64 ≤ n → n < 2 ^ 128
    → integer_in_range (signed 128 n) ≡ Faulty IntegerOutOfRange
out_of_range n big small = elim (cases_lt n _) [
  | inl low ↦ rw (lt-ltb n (2 ^ 127) low, le-ltb n _ big) refl
  | inr high ↦ rw (le-ltb n _ high, below_zero n _ small) refl
]

-- an integer of sixteen bytes whose high half isn't zero is out of range
pub wide_high : (high low : ℕ) → 0 < high → high < 2 ^ 64 → low < 2 ^ 64
    → integer_in_range (signed 128 (high * 2 ^ 64 + low)) ≡ Faulty IntegerOutOfRange
wide_high high low some h l = out_of_range (high * 2 ^ 64 + low) (omega arith) (omega arith)

-- bytes that are UTF-8 mean a string, and bytes that aren't mean a fault
pub text-utf8 : (bytes : List ℕ) → IsUtf8 bytes → text bytes ≡ Scalar (String bytes)
text-utf8 bytes h = rw (is_utf8-from_IsUtf8 _ h) refl

pub not_utf8 : (bytes : List ℕ) → (IsUtf8 bytes → ⊥) → is_utf8 bytes ≡ false
not_utf8 bytes h = by (is_utf8 bytes) refl
  where
    by : (b : Bool) → is_utf8 bytes ≡ b → is_utf8 bytes ≡ false
    by true is = absurd (h (IsUtf8-from_is_utf8 _ is))
    by false is = is

pub text-not_utf8 : (bytes : List ℕ) → (IsUtf8 bytes → ⊥) → text bytes ≡ Faulty InvalidUtf8String
text-not_utf8 bytes h = rw (not_utf8 bytes h) refl

-- ---- a content of bytes and zeros

-- the bytes and the zeros after them are bytes
small_after : (bytes : List ℕ) (count : ℕ) → ((i : ℕ) → get_or bytes i 0 < 256) → (i : ℕ)
    → get_or (bytes ++ replicate count 0) i 0 < 256
small_after [] zero small i = small i
small_after [] (suc count) small zero = small 0
small_after [] (suc count) small (suc i) = small_after [] count small i
small_after (b ∷ bytes) count small zero = small 0
small_after (b ∷ bytes) count small (suc i) = small_after bytes count (λ i. small (suc i)) i

-- the first bytes are bytes
pub small_take : (count : ℕ) (bytes : List ℕ) → ((i : ℕ) → get_or bytes i 0 < 256) → (i : ℕ)
    → get_or (take count bytes) i 0 < 256
small_take zero bytes small i = omega arith
small_take (suc count) [] small i = small i
small_take (suc count) (b ∷ bytes) small zero = small 0
small_take (suc count) (b ∷ bytes) small (suc i) = small_take count bytes (λ i. small (suc i)) i

-- a content that encodes padded bytes consists of them
pub padded_back : (bytes : List ℕ) (content : ℕ) → length bytes ≤ 8
    → ((i : ℕ) → get_or bytes i 0 < 256) → number_of_padded bytes ≡ content
    → content_bytes content ≡ padded bytes
padded_back bytes content short small is =
    let zeros : List ℕ = replicate (8 - length bytes) 0 in
    be_bytes_8 (padded bytes) content
    (omega (arith, length-append bytes zeros, length-replicate {A = ℕ} (8 - length bytes) 0))
    (small_after bytes (8 - length bytes) small) (sym is)

-- ---- what isn't small

large_text : (content : List ℕ) → 8 < length content → is_small_object (text content) ≡ false
large_text content long = by (is_utf8 content)
  where
    by : (b : Bool)
        → is_small_object (if b then Scalar (String content) else Faulty InvalidUtf8String) ≡ false
    by true = lt-leb _ 8 long
    by false = refl

large_wide_text : (content : List ℕ) → 8 < length content / 2
    → is_small_object (wide_text content) ≡ false
large_wide_text content long = by (has_unpaired_surrogate (numbers_spelled 2 content)) refl
  where
    by : (b : Bool) → has_unpaired_surrogate (numbers_spelled 2 content) ≡ b
        → is_small_object (wide_text content) ≡ false
    by true is = rw is refl
    by false is = rw is (lt-leb _ 8 (omega (arith, long, no_fewer_bytes content is)))

-- a string or data of more than eight elements isn't small
pub large_content : (kind : ContentKind) (count : ℕ) (bytes : List ℕ) → 8 < count
    → count * unit_size kind ≤ length bytes
    → is_small_object (content_means kind (take (count * unit_size kind) bytes)) ≡ false
large_content kind.Data count bytes long fits =
    lt-leb _ 8 (omega (arith, long, length-take-le (count * 1) bytes fits))
large_content kind.Text count bytes long fits =
    large_text _ (omega (arith, long, length-take-le (count * 1) bytes fits))
large_content kind.WideText count bytes long fits =
    large_wide_text _ (omega (arith, long, length-take-le (count * 2) bytes fits))

-- each string may need memory
grows_either : (b : Bool) (x y : Object) → Allocates x → Allocates y → Allocates (if b then x else y)
grows_either true x y p q = p
grows_either false x y p q = q

-- ---- a content that was read

grows_content : (kind : ContentKind) (content : List ℕ) → Allocates (content_means kind content)
grows_content kind.Data content = tt
grows_content kind.Text content = grows_either (is_utf8 content) _ _ tt tt
grows_content kind.WideText content =
    grows_either (has_unpaired_surrogate (numbers_spelled 2 content)) _ _ tt tt

-- if the content wasn't read because a read or an allocation failed, the error is possible for the
-- object
pub content_refused : (known : Option (List ℕ)) (kind : ContentKind) (place start size : ℕ)
    (error : Error)
    → IfSome known (λ bytes. IsIoOrMemoryAt start size bytes (fault_of error))
    → IfSome known (λ bytes. start + size ≤ length bytes
    → IsRefusedAs (content_means kind (take size (drop start bytes))) place error)
content_refused known kind place start size error refused =
    IfSome_then known refused (λ bytes refused fits.
    MatchFault-weaker (kind_of (error_kind_of error)) (λ _. tt) (λ _. grows_content kind _)
    (λ none. absurd none) (refused fits))
