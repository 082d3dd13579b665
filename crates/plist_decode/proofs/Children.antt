-- The children of a collection, and where the references to them lie.
use Rattle.std.proofs.Common.{◌≡◌, ℕ, zero, suc, ◌+◌, ◌-◌, ◌*◌, ◌/◌, ◌%◌, ◌<◌, ◌≤◌, inl, inr, cond, nat_eq, List, [], ◌∷◌, ◌++◌, length, take, drop, get_or, Some, refl, ap, sym, ◌∙◌, arith, zero-add}
use Rattle.std.specs.List.{zip}
use Rattle.std.proofs.lemmas.Bool.{le-leb, cases_lt}
use Rattle.std.proofs.lemmas.List.{get_or-take, get_or-drop, length-append, length-take-le, length-drop, drop-append-le}
use Rattle.std.proofs.lemmas.List.FromFn.{get_or-map-range_with_len, length-map-range_with_len}
use Rattle.std.proofs.lemmas.Slice.Zip.{length-zip}
use Rattle.std.proofs.Math.Nat.{mul-le-mul_right}
use Rattle.plist_base.specs.Faults.{ObjectOffsetTooLarge}
use Rattle.plist_base.specs.Events.{StartArray, StartDictionary}
use Rattle.plist_base.specs.Container.{number_at, numbers_spelled}
use Rattle.plist_base.specs.Object.{Object, Array, Faulty, dictionary, children_of, length_in}
use Rattle.plist_decode.specs.CountedContent.{RefusesCounted}
use Rattle.plist_decode.specs.Decoded.{IsDecodedAs}
use Rattle.plist_decode.specs.declared.decoded.Decoded.TheVariants.{Collection}
use Rattle.plist_decode.specs.Reading.{counted_kind, object_counted}
use Rattle.plist_decode.specs.Decoding.{AreReferencesAt, IsCollection, child_count, children_in, reference_index, start_event}
use Rattle.plist_decode.specs.declared.decoded.CollectionKind.{CollectionKind}
use Rattle.plist_decode.specs.declared.decoded.CollectionKind.TheVariants as collection
use Rattle.plist_decode.proofs.NumberRuns.{numbers_of-reads}

-- ---- numbers that lie one after the other

length-numbers : (xs : List ℕ) (p w n : ℕ) → 0 < w → p + n * w ≤ length xs
    → length (numbers_spelled w (take (n * w) (drop p xs))) ≡ n
length-numbers xs p w n some fits =
    cc (
      numbers_of-reads xs p w n some fits,
      length-map-range_with_len
          (λ k. number_at xs (p + k * w) w) 0 n,
    )

get_or-numbers : (xs : List ℕ) (p w n i : ℕ) → 0 < w → p + n * w ≤ length xs → i < n
    → get_or (numbers_spelled w (take (n * w) (drop p xs))) i 0 ≡ number_at xs (p + i * w) w
get_or-numbers xs p w n i some fits h =
    cc (
      numbers_of-reads xs p w n some fits,
      get_or-map-range_with_len
          (λ k. number_at xs (p + k * w) w) 0 n i i 0 h (zero-add i),
    )

-- ---- the alternation of keys and values

length-children : (ks vs : List ℕ) → length ks ≡ length vs
    → length (children_of (zip ks vs)) ≡ 2 * length ks
length-children [] vs h = refl
length-children (k ∷ ks) [] h = absurd (omega arith)
length-children (k ∷ ks) (v ∷ vs) h =
    let e = length-children ks vs (omega arith) in omega arith

get_or-children : (ks vs : List ℕ) (j : ℕ) → length ks ≡ length vs → j < 2 * length ks
    → get_or (children_of (zip ks vs)) j 0
    ≡ cond (nat_eq (j % 2) 0) (get_or ks (j / 2) 0) (get_or vs (j / 2) 0)
get_or-children [] vs j h less = absurd (omega arith)
get_or-children (k ∷ ks) [] j h less = absurd (omega arith)
get_or-children (k ∷ ks) (v ∷ vs) zero h less = refl
get_or-children (k ∷ ks) (v ∷ vs) (suc zero) h less = refl
get_or-children (k ∷ ks) (v ∷ vs) (suc (suc j)) h less =
    let r : suc (suc j) % 2 ≡ j % 2 = omega arith in
    let q : suc (suc j) / 2 ≡ suc (j / 2) = omega arith in
    rw (r, q) (get_or-children ks vs j (omega arith) (omega arith))

-- ---- a collection that is made of its references

-- a collection that is made of `n` references has `n` children, and each child is the reference at
-- its `reference_index`
abbrev IsOrdered : CollectionKind → (n : ℕ) → (List ℕ → Object) → Type 0
IsOrdered kind n make = (references : List ℕ) → length references ≡ n
    → (length (children_in (make references)) ≡ n)
    × ((index : ℕ) → index < n → (reference_index kind n index < n)
    × (get_or references (reference_index kind n index) 0
    ≡ get_or (children_in (make references)) index 0))

array_ordered : (n : ℕ) → IsOrdered collection.Array n Array
array_ordered n references len = (len, λ index h. (h, refl))

dictionary_ordered : (n : ℕ) → IsOrdered collection.Dictionary (2 * n) (dictionary n)
dictionary_ordered n references len = (
  length-children (take n references) (drop n references) (keys ∙ sym values)
      ∙ ap (λ k. 2 * k) keys,
  λ index h.
      let half : 2 * n / 2 ≡ n = omega arith in
      let child = get_or-children (take n references) (drop n references) index
      (keys ∙ sym values) (omega (arith, keys)) in
      elim (cases_lt (index % 2) 1) [
        | inl even ↦ let none : index % 2 ≡ 0 = omega arith in rw none (
          omega arith,
          sym (rw none at child ∙ get_or-take n references (index / 2) 0 (omega arith)),
        )
        | inr odd ↦ let one : index % 2 ≡ 1 = omega arith in rw (one, half) (
          omega arith,
          sym (rw one at child ∙ get_or-drop n references (index / 2) 0),
        )
      ],
)
  where
    keys : length (take n references) ≡ n
    keys = length-take-le n _ (omega arith)

    values : length (drop n references) ≡ n
    values = length-drop n _ ∙ omega arith

-- ---- the front of a collection

inside : (start i n w l : ℕ) → i < n → start + n * w ≤ l → start + i * w + w ≤ l
inside start i n w l h whole =
    let le = mul-le-mul_right w (let s : suc i ≤ n = omega arith in s) in
    let e : suc i * w ≡ i * w + w = omega arith in
    omega arith

-- the object is a collection of these children, the references to which begin at `start`
abbrev IsFront : CollectionKind → (width count start : ℕ) (bytes : List ℕ) → Object → Type 0
IsFront kind width count start bytes object =
    IsCollection object (start_event kind count) (child_count kind count)
    × (child_count kind count ≤ length bytes)
    × AreReferencesAt width bytes (children_in object) kind start

front_made : (kind : CollectionKind) (w count start : ℕ) (bytes : List ℕ) (object : Object)
    (make : List ℕ → Object) → 0 < w → start + child_count kind count * w ≤ length bytes
    → IsOrdered kind (child_count kind count) make
    → ((references : List ℕ) → length references ≡ child_count kind count
    → IsCollection (make references) (start_event kind count) (child_count kind count))
    → object ≡ make (numbers_spelled w (take (child_count kind count * w) (drop start bytes)))
    → IsFront kind w count start bytes object
front_made kind w count start bytes object make some whole ordered made is =
    let n = child_count kind count in
    let references = numbers_spelled w (take (n * w) (drop start bytes)) in
    let len = length-numbers bytes start w n some whole in
    let among = ordered references len in
    let fewer : n ≤ n * w = grind arith in
    rw is (
      made references len,
      omega arith,
      λ index. rw among.0 (λ h. let slot = among.1 index h in (
        inside start (reference_index kind n index) n w (length bytes) slot.0 whole,
        sym (get_or-numbers bytes start w n (reference_index kind n index) some whole slot.0)
            ∙ slot.1,
      )),
    )

made_dictionary : (count : ℕ) (references : List ℕ) → length references ≡ 2 * count
    → IsCollection (dictionary count references) (StartDictionary (Some count)) (2 * count)
made_dictionary count references len =
    let pairs : length (zip (take count references) (drop count references))
    ≡ count = length-zip (take count references) (drop count references)
    ∙ omega (arith, length-take-le count references (omega arith), length-drop count references)
    in
    (ap (λ n. StartDictionary (Some n)) (sym pairs), (dictionary_ordered count references len).0)

-- a collection begins with its start, has as many children as its length says, and the references
-- to these follow the length
collection_front : (kind : CollectionKind) (w low count start : ℕ) (bytes xs : List ℕ) → 0 < w
    → length_in low xs ≡ Some (count, drop start bytes)
    → count * child_count kind w ≤ length (drop start bytes) → start ≤ length bytes
    → IsFront kind w count start bytes (object_counted w (counted_kind kind) low xs)
collection_front collection.Array w low count start bytes xs some is fits there =
    let whole : start + count * w ≤ length bytes = omega (arith, length-drop start bytes) in
    front_made collection.Array w count start bytes _ Array some whole (array_ordered count)
    (λ references len. (ap (λ n. StartArray (Some n)) (sym len), len))
    (rw (is, le-leb _ _ fits) refl)
collection_front collection.Dictionary w low count start bytes xs some is fits there =
    let twice : count * (2 * w) ≡ 2 * count * w = grind arith in
    let whole : start + 2 * count * w ≤ length bytes = omega (arith, length-drop start bytes) in
    front_made collection.Dictionary w count start bytes _ (dictionary count) some whole
    (dictionary_ordered count) (made_dictionary count)
    (rw (is, le-leb (count * (2 * w)) (length (drop start bytes)) fits, twice) refl)

pub collection_decoded : (kind : CollectionKind) (w low count first : ℕ) (rest following more : List ℕ)
    → 0 < w → length_in low (rest ++ more) ≡ Some (count, following ++ more)
    → count * child_count kind w ≤ length (following ++ more) → length following ≤ length rest
    → length rest ≤ length following + 9 → drop (length rest - length following) rest ≡ following
    → IsDecodedAs w (first ∷ (rest ++ more)) (object_counted w (counted_kind kind) low (rest ++ more))
    (Collection kind (1 + (length rest - length following)) count)
collection_decoded kind w low count first rest following more some is fits short near lies =
    let k = length rest - length following in
    let bytes = first ∷ (rest ++ more) in
    let next : 1 + k ≡ suc k = omega arith in
    let tail : drop (1 + k) bytes ≡ following ++ more =
    rw next (drop-append-le k rest more (omega arith) ∙ ap (λ xs. xs ++ more) lies) in
    let there : 1 + k ≤ length bytes = omega (arith, length-append rest more) in
    let front = collection_front kind w low count (1 + k) bytes (rest ++ more) some
    (rw tail is) (rw tail fits) there in
    (front.0, front.1, omega arith, front.2)

-- a collection whose references don't end before the trailer is faulty
pub collection_refused : (kind : CollectionKind) (w low to_trailer : ℕ) (rest more : List ℕ)
    → length (rest ++ more) ≡ to_trailer → RefusesCounted low (child_count kind w) to_trailer rest
    → object_counted w (counted_kind kind) low (rest ++ more) ≡ Faulty ObjectOffsetTooLarge
collection_refused collection.Array w low to_trailer rest more whole refused =
    refused (λ _ content. Array (numbers_spelled w content)) more whole
collection_refused collection.Dictionary w low to_trailer rest more whole refused =
    refused (λ count content. dictionary count (numbers_spelled w content)) more whole
