-- The next child of the innermost collection, or the collection's end.
use Rattle.std.proofs.Common.{◌≡◌, cond, ℕ, suc, ◌+◌, ◌-◌, ◌*◌, ◌<◌, ◌≤◌, List, [], ◌∷◌, ◌++◌, length, drop, get_or, Ok, Err, refl, ap, sym, ◌∙◌, arith, append_assoc, add-one, None, Some}
use Rattle.std.specs.List.{flat_map, slice_get}
use Rattle.std.proofs.lemmas.Bool.{lt-ltb}
use Rattle.std.proofs.Math.Seq.{drop-cons}
use Rattle.plist_base.specs.Events.{PlainEvent, EndCollection, Item}
use Rattle.plist_binread.specs.declared.frames.Frame.{Frame}
use Rattle.plist_binread.specs.Remaining.{MarksOpenPath, MatchesFile, SomeRemain, children_at, entries_of, frame_of, next_number, path_of, place_at, remaining_items, walk_steps, walk_weight}
use Rattle.plist_decode.specs.Packed.{KeepsOtherTags}
use Rattle.plist_base.specs.Unfolding.{TableEntry, unfolding_of, until_fault}
use Rattle.plist_decode.specs.declared.head.Bounds.{Bounds}
use Rattle.std.proofs.lemmas.List.{drop_all, get_or_default}
use Rattle.plist_binread.proofs.OpenObjects.{first_below, first_open}
use Rattle.plist_binread.proofs.WalkInvariant.{known_closed, known_with}

-- the frame after its next child was taken
abbrev advanced : Frame → Frame
advanced frame = frame_of frame.object (frame.next + 1) frame.count

pub next_path : (tags : List ℕ) (f : Frame) (fs : List Frame) → MarksOpenPath tags (f ∷ fs)
    → MarksOpenPath tags (advanced f ∷ fs)
next_path tags f fs o = record { distinct = o.distinct; below = o.below; marks = o.marks }

child_flat : (step : ℕ → List Item) (xs : List ℕ) (more : List Item) (i x : ℕ) → i < length xs
    → x ≡ get_or xs i x → flat_map step (drop i xs) ++ more ≡ step x
    ++ (flat_map step (drop (i + 1) xs) ++ more)
child_flat step xs more i x h e =
    let rest = drop-cons xs i x h
    ∙ ap (λ y. y ∷ drop (suc i) xs) (sym e) ∙ ap (λ j. x ∷ drop j xs) (sym (add-one i)) in
    rw rest (append_assoc (step x) (flat_map _ (drop _ xs)) more)

until_some : (items : List Item) (event : PlainEvent) (more : List Item)
    → SomeRemain (until_fault (items ++ Ok event ∷ more))
until_some [] event more = omega arith
until_some (Ok e ∷ items) event more = omega arith
until_some (Err f ∷ items) event more = omega arith

module _ (bytes tags contents : List ℕ) (bounds : Bounds) (f : Frame) (fs : List Frame)
    (k : MatchesFile bytes bounds tags contents (f ∷ fs)) where
  abbrev table : List TableEntry
  table = entries_of bytes bounds

  abbrev children : List ℕ
  children = children_at (slice_get table f.object)

  -- if a child is left, its items are the first of those that remain
  pub child_remaining : f.next < f.count
      → ((remaining_items table (f ∷ fs) ≡ unfolding_of table (length table - length (advanced f ∷ fs))
      (path_of (advanced f ∷ fs)) (place_at (slice_get table f.object)) (get_or children f.next 0)
      ++ remaining_items table (advanced f ∷ fs))
      × (length children ≡ f.count)
      × SomeRemain (until_fault (remaining_items table (f ∷ fs)))
      × (next_number table (f ∷ fs) ≡ Some (get_or children f.next 0)))
      × MatchesFile bytes bounds tags contents (advanced f ∷ fs)
  child_remaining h = (
    (
      child_flat (λ c. unfolding_of table (length table - suc (length fs)) (f.object ∷ path_of fs)
          (place_at (slice_get table f.object)) c) children _
          _ _ (rw k.counts.0 h)
          (get_or_default children _ 0 _ (rw k.counts.0 h)),
      k.counts.0,
      until_some _ _ _,
      ap (λ b. cond b (Some (get_or children f.next 0)) None) (lt-ltb _ _ h),
    ),
    known_with k tags contents (advanced f ∷ fs) refl (λ q less. (k.held q less, k.refers q less))
        (k.counts.0, k.counts.1),
  )

  -- if no child is left, the end is the first item that remains
  pub closed_remaining : (new : List ℕ) → MarksOpenPath tags (f ∷ fs) → f.count ≤ f.next
      → KeepsOtherTags f.object tags new → get_or new f.object 0 ≡ 0
      → (remaining_items table (f ∷ fs) ≡ Ok EndCollection ∷ remaining_items table fs)
      × MatchesFile bytes bounds new contents fs
  closed_remaining new o h m closed = (
    rw (drop_all f.next children (rw k.counts.0 h)) refl,
    known_closed k new f (first_below tags f fs o) (first_open tags f fs o) m closed fs k.counts.1,
  )

one_less : (l i s w : ℕ) → i < l → (l - i) * s + 1 + w ≡ (l - (i + 1)) * s + 1 + w + s
one_less l i s w h = let e : l - i ≡ suc (l - (i + 1)) = omega arith in rw e (omega arith)

pub child_weight : (n : ℕ) (f : Frame) (fs : List Frame) → f.next < f.count
    → walk_weight n (f ∷ fs) ≡ walk_weight n (advanced f ∷ fs) + walk_steps (n - length (advanced f ∷ fs))
child_weight n f fs h = one_less _ _ _ _ h

pub closed_weight : (n : ℕ) (f : Frame) (fs : List Frame) → f.count ≤ f.next
    → walk_weight n (f ∷ fs) ≡ walk_weight n fs + 1
closed_weight n f fs h =
    let none : f.count - f.next ≡ 0 = omega arith in rw none (omega arith)
