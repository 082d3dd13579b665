-- Which objects are open, and how many are open or cached.
use Rattle.std.proofs.Common.{◌≡◌, ℕ, zero, suc, ◌+◌, ◌<◌, ◌≤◌, inl, inr, true, false, cond, ◌||◌, nat_eq, nat_lt, List, [], ◌∷◌, length, get_or, reverse, replicate, refl, ap, sym, ◌∙◌, arith}
use Rattle.std.specs.List.{list_any, IsDistinct}
use Rattle.std.proofs.lemmas.Bool.Decides.{eqb_tells}
use Rattle.std.proofs.Math.Dec.{eqb-suc-suc, eqb-suc-zero, eqb-zero-suc}
use Rattle.std.proofs.lemmas.Bool.{or_right, eq-eqb, lt-ltb}
use Rattle.plist_base.proofs.Paths.{none_equal, any_none, below_cons, path_fuel, path_rises}
use Rattle.plist_binread.specs.declared.frames.Frame.{Frame}
use Rattle.plist_decode.specs.Packed.{is_marked, unmarked, KeepsOtherTags}
use Rattle.plist_binread.proofs.Tags.{kept_everywhere}
use Rattle.plist_binread.specs.Remaining.{path_of, MarksOpenPath, cached_count}
use Rattle.std.proofs.lemmas.List.{nil_from_length}

length-path_of : (fs : List Frame) → length (path_of fs) ≡ length fs
length-path_of [] = refl
length-path_of (f ∷ fs) = ap suc (length-path_of fs)

-- after one more object was opened, the marks are those of the longer path
marks_push : (i q : ℕ) (tags new xs : List ℕ) → KeepsOtherTags i tags new
    → is_marked (get_or new i 0) ≡ true → is_marked (get_or tags q 0) ≡ list_any (nat_eq q) xs
    → is_marked (get_or new q 0) ≡ list_any (nat_eq q) (i ∷ xs)
marks_push i q tags new xs m marked was =
    elim (eqb_tells q i) [
      | inl e ↦ cc
      | inr e ↦ cc (m.others q e.0)
    ]

-- after the innermost object was closed, the marks are those of the shorter path
marks_pop : (i q : ℕ) (tags new xs : List ℕ) → KeepsOtherTags i tags new → get_or new i 0 ≡ 0
    → list_any (nat_eq i) xs ≡ false → is_marked (get_or tags q 0) ≡ list_any (nat_eq q) (i ∷ xs)
    → is_marked (get_or new q 0) ≡ list_any (nat_eq q) xs
marks_pop i q tags new xs m closed none was =
    let free : is_marked (get_or new i 0) ≡ false = ap is_marked closed in
    elim (eqb_tells q i) [
      | inl e ↦ cc
      | inr e ↦ cc (m.others q e.0)
    ]

-- an object whose tag is 0 isn't open
pub not_open : {tags : List ℕ} {fs : List Frame} {i : ℕ} → MarksOpenPath tags fs → i < length tags
    → get_or tags i 0 ≡ 0 → list_any (nat_eq i) (path_of fs) ≡ false
not_open {i = i} o h none = cc (o.marks i h)

-- the innermost object has a tag
pub first_below : (tags : List ℕ) (f : Frame) (fs : List Frame) → MarksOpenPath tags (f ∷ fs)
    → f.object < length tags
first_below tags f fs o =
    o.below _ (ap (λ b. b || list_any (nat_eq f.object) (path_of fs)) (eq-eqb f.object _ refl))

-- the innermost object is marked
pub first_open : (tags : List ℕ) (f : Frame) (fs : List Frame) → MarksOpenPath tags (f ∷ fs)
    → is_marked (get_or tags f.object 0) ≡ true
first_open tags f fs o =
    cc (o.marks f.object (first_below tags f fs o), eq-eqb f.object f.object refl)

-- after one more object was opened, exactly the open objects are marked
pub IsOpen-push : (tags new : List ℕ) (f : Frame) (fs : List Frame) → MarksOpenPath tags fs
    → f.object < length tags → list_any (nat_eq f.object) (path_of fs) ≡ false
    → KeepsOtherTags f.object tags new → is_marked (get_or new f.object 0) ≡ true
    → MarksOpenPath new (f ∷ fs)
unfolding IsDistinct
IsOpen-push tags new f fs o h apart m marked = record {
  distinct = (none_equal f.object (path_of fs) apart, o.distinct);
  below = λ q any. rw m.size (below_cons f.object (length tags) q (path_of fs) h o.below any);
  marks = λ q less. marks_push f.object q tags new (path_of fs) m marked
      (o.marks q (rw m.size at less));
}

-- after the innermost object was closed, exactly the open objects are marked
pub IsOpen-pop : (tags new : List ℕ) (f : Frame) (fs : List Frame) → MarksOpenPath tags (f ∷ fs)
    → KeepsOtherTags f.object tags new → get_or new f.object 0 ≡ 0 → MarksOpenPath new fs
unfolding IsDistinct
IsOpen-pop tags new f fs o m closed = record {
  distinct = o.distinct.1;
  below = λ q any. rw m.size (o.below q
      (or_right (nat_eq q f.object) (list_any (nat_eq q) (path_of fs)) any));
  marks = λ q less. marks_pop f.object q tags new (path_of fs) m closed
      (any_none f.object (path_of fs) o.distinct.0) (o.marks q (rw m.size at less));
}

-- after one more object was cached, exactly the open objects are marked
pub IsOpen-kept : (i : ℕ) (tags new : List ℕ) (fs : List Frame) → MarksOpenPath tags fs
    → KeepsOtherTags i tags new → is_marked (get_or new i 0) ≡ is_marked (get_or tags i 0)
    → MarksOpenPath new fs
IsOpen-kept i tags new fs o m same = record {
  distinct = o.distinct;
  below = λ q any. rw m.size (o.below q any);
  marks = λ q less. kept_everywhere is_marked i tags new m same q ∙ o.marks q (rw m.size at less);
}

-- no more objects are open than there are objects
pub IsOpen-length : (tags : List ℕ) (fs : List Frame) → MarksOpenPath tags fs → length fs ≤ length tags
IsOpen-length tags fs o =
    rw (← length-path_of fs) (path_fuel (record { distinct = o.distinct; below = o.below }))

-- if an object isn't open, fewer objects are open than there are objects
pub admits_more : (tags : List ℕ) (i : ℕ) (fs : List Frame) → MarksOpenPath tags fs → i < length tags
    → list_any (nat_eq i) (path_of fs) ≡ false → length fs < length tags
admits_more tags i fs o h new =
    rw (← length-path_of fs)
    (path_rises i (record { distinct = o.distinct; below = o.below }) h new)

pub get_or-zeros : (n q : ℕ) → ◌≡◌ {A = ℕ} (get_or (replicate n 0) q 0) 0
get_or-zeros zero q = refl
get_or-zeros (suc n) zero = refl
get_or-zeros (suc n) (suc q) = get_or-zeros n q

-- if all tags are 0 and there are no frames, no object is open
pub IsOpen-none : (n : ℕ) (tags : List ℕ) (fs : List Frame) → tags ≡ replicate n 0 → length fs ≡ 0
    → MarksOpenPath tags (reverse fs)
unfolding IsDistinct
IsOpen-none n tags [] is h = record {
  distinct = tt;
  below = λ q any. absurd (cc);
  marks = λ q less. ap (λ ts. is_marked (get_or ts q 0)) is ∙ ap is_marked (get_or-zeros n q);
}
IsOpen-none n tags (f ∷ fs) is h = absurd (omega arith)

-- ---- the number of cached objects

same_count : (xs ys : List ℕ) → length xs ≡ length ys
    → ((i : ℕ) → unmarked (get_or xs i 0) ≡ unmarked (get_or ys i 0))
    → cached_count xs ≡ cached_count ys
same_count [] [] h all = refl
same_count [] (y ∷ ys) h all = absurd (omega arith)
same_count (x ∷ xs) [] h all = absurd (omega arith)
same_count (x ∷ xs) (y ∷ ys) h all =
    let first = all 0 in
    let rest = same_count xs ys (omega arith) (λ i. all (suc i))
    in
    cc

one_more : (n : ℕ) (xs ys : List ℕ) → length xs ≡ length ys → n < length xs
    → ((i : ℕ) → nat_eq i n ≡ false → get_or ys i 0 ≡ get_or xs i 0) → unmarked (get_or xs n 0) ≡ 0
    → 0 < unmarked (get_or ys n 0) → cached_count ys ≡ cached_count xs + 1
one_more n [] ys h less all was now = absurd (omega arith)
one_more n (x ∷ xs) [] h less all was now = absurd (omega arith)
one_more zero (x ∷ xs) (y ∷ ys) h less all was now =
    let rest = same_count ys xs (omega arith)
    (λ i. ap unmarked (all (suc i) (eqb-suc-zero i))) in
    let one = ap (λ b. cond {A = ℕ} b 1 0) (lt-ltb 0 _ now) in
    let nought : cond {A = ℕ} (nat_lt 0 (unmarked x)) 1 0
    ≡ 0 = ap (λ t. cond {A = ℕ} (nat_lt 0 t) 1 0) was in
    omega arith
one_more (suc n) (x ∷ xs) (y ∷ ys) h less all was now =
    let rest = one_more n xs ys (omega arith) (omega arith)
    (λ i e. all (suc i) (eqb-suc-suc i n ∙ e))
    was now in
    let first = ap
    (λ t. cond {A = ℕ} (nat_lt 0 (unmarked t)) 1 0) (all 0 (eqb-zero-suc n)) in
    omega arith

-- opening or closing an object doesn't change the number of cached objects
pub cached_count-kept : (i : ℕ) (tags new : List ℕ) → KeepsOtherTags i tags new
    → unmarked (get_or new i 0) ≡ unmarked (get_or tags i 0) → cached_count new ≡ cached_count tags
cached_count-kept i tags new m same =
    same_count new _ m.size (kept_everywhere unmarked i tags new m same)

-- caching an object raises the number of cached objects by one
pub cached_count-more : (i : ℕ) (tags new : List ℕ) → i < length tags
    → unmarked (get_or tags i 0) ≡ 0 → KeepsOtherTags i tags new
    → 0 < unmarked (get_or new i 0) → cached_count new ≡ cached_count tags + 1
cached_count-more i tags new h none m some = one_more i _ new (sym m.size) h m.others none some

zero_count : (n : ℕ) → cached_count (replicate n 0) ≡ 0
zero_count zero = refl
zero_count (suc n) = let rest = zero_count n in omega arith

pub cached_count-none : (n : ℕ) (tags : List ℕ) → tags ≡ replicate n 0 → cached_count tags ≡ 0
cached_count-none n tags is = cc (zero_count n)

pub cached_count-empty : (tags : List ℕ) → length tags ≡ 0 → cached_count tags ≡ 0
cached_count-empty tags h = cached_count-none 0 _ (nil_from_length _ h)
