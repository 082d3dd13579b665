-- A planned file is that of its tree, with one object for each class, and what is written is that
-- file.
use Rattle.std.proofs.Common.{◌≡◌, ◌≢◌, ℕ, ◌+◌, ◌-◌, ◌*◌, ◌^◌, ◌<◌, List, [], ◌++◌, length, take, drop, get_or, map, Some, Ok, true, false, refl, ap, sym, ◌∙◌, arith, ◌≤◌, Option, Result, Err, OnOk, subst, slice_get, option_map}
use Rattle.std.proofs.lemmas.List.Elements.{All-from_get_or, recursion_from_All}
use Rattle.std.proofs.lemmas.Option.{slice_get-map, slice_get-get_or}
use Rattle.plist_base.specs.Bracketing.{bracketing, lengthless, AreAlike, AreTreeEvents}
use Rattle.plist_base.specs.Trees.{Tree}
use Rattle.plist_base.specs.Container.{head_of}
use Rattle.plist_base.specs.Object.{Object, object_in}
use Rattle.plist_base.specs.Unfolding.{TableEntry, table_of, unfolding_of, until_fault, items_with, items_of_file, visits_of, visits_with, visits}
use Rattle.plist_base.proofs.Tables.{length-table_of}
use Rattle.plist_binwrite.specs.Classes.{IsFileBy, count_by, objects_by, size_by, files_by, bound_in, class_in, events_in}
use Rattle.plist_binwrite.specs.Sizes.{collections_in, size_with}
use Rattle.plist_binwrite.specs.Forms.{form, table_form, AllFit, reference_width, least_width}
use Rattle.plist_binwrite.specs.inner.Layout.{IsFilePlan, IsLayout, number_of_event}
use Rattle.plist_binwrite.specs.inner.Numbering.{IsCapped, size_below, IsNumberingOfEvents}
use Rattle.plist_binwrite.specs.declared.plan.Numbering.{Numbering}
use Rattle.plist_buffer.specs.Occurrences.{positions}
use Rattle.plist_binwrite.specs.Written.{Laid, file_with, laid_out, object_table}
use Rattle.plist_binwrite.specs.declared.classes.Classed.{Classed}
use Rattle.plist_binwrite.specs.declared.plan.FilePlan.{FilePlan}
use Rattle.plist_binwrite.proofs.ClassObjects.{Numbered, numbered, number_apart, number_below, bound_is_count, numbered_count, numbered_size, size_by_numbers}
use Rattle.plist_binwrite.proofs.NumberingSteps.{size_told}
use Rattle.plist_binwrite.proofs.ObjectOffsets.{AllOnce, all_once, length-magic, found_place, object_there, total_bodies}
use Rattle.plist_binwrite.proofs.Reading.{form_read, whole, drop_front, width_positive, last, length_closed, front_is, head_is}
use Rattle.plist_buffer.proofs.TreeOccurrences.{occurs_whole}
use Rattle.plist_binwrite.proofs.TreeObjects.{Shows, unfolds_whole, no_fault}
use Rattle.plist_binwrite.proofs.NumberForms.{width_holds}
use Rattle.plist_base.specs.Outcomes.{OnlyDevice}
use Rattle.plist_base.specs.declared.error.Error.{Error}
use Rattle.plist_base.specs.Writing.{answer_of}
use Rattle.plist_buffer.proofs.Grammar.{complete_of_whole}
use Rattle.std.specs.Io.KnownBytes.{Appends}
use Rattle.plist_base.specs.declared.sink.Sink.{Sink}
use Rattle.plist_base.specs.Prefixes.{AppendsPrefix}
use Rattle.plist_base.specs.Sinks.{Puts, is_open, pending}
use Rattle.plist_base.proofs.SinkSteps.{sent_part, sent_whole}
use Rattle.plist_binwrite.specs.SendingAs.{IsOfTree, SendsAs}
use Rattle.plist_buffer.proofs.Lengthless.{plain_lengthless}

module _ {plan : FilePlan} (r : IsFilePlan plan) {objects : ℕ → Object} {order offsets : List ℕ}
    (l : IsLayout plan objects order offsets)
    (all : (k : ℕ) → k < plan.numbering.count → get_or offsets k 0 ≢ 0) (t : Tree)
    (alike : AreAlike (events_in plan.given) (bracketing t)) where
  e : events_in plan.given ≡ lengthless t
  e = plain_lengthless plan.given.events.now t alike

  abbrev class : ℕ → ℕ
  class = class_in plan.given

  abbrev w : ℕ
  w = reference_width (length offsets)

  abbrev body : List ℕ
  body = object_table w objects order

  abbrev file : List ℕ
  file = laid_out w objects order

  abbrev num : ℕ → ℕ
  num = number_of_event plan

  wide : plan.width ≡ w
  wide = r.width ∙ ap reference_width (sym l.long)

  laid : Laid w objects offsets order 8
  laid = rw wide at l.laid

  made : Numbered (events_in plan.given) num
  made = numbered r.numbered

  fits : size_by class t < 2 ^ 64
  fits = rw (size_by_numbers r.numbered t e, ← r.width) r.small

  count_is : length offsets ≡ count_by class t
  count_is = l.long ∙ numbered_count r.numbered t e

  place_is : length file ≡ 8 + objects_by class (reference_width (count_by class t)) t
  place_is =
      length-magic body
      ∙ ap (λ k. 8 + k) (total_bodies w objects order plan.numbering.count (all_once l all)
      ∙ size_told r.numbered objects l.described w ∙ numbered_size r.numbered t e w)
      ∙ ap (λ c. 8 + objects_by class (reference_width c) t) count_is

  short : length file < 2 ^ 64
  short = omega (arith, place_is, fits)

  each_once : AllOnce (length offsets) order
  each_once = rw l.long (all_once l all)

  -- ---- the contents of the file's offset table

  abbrev bytes : List ℕ
  bytes = whole body offsets

  abbrev before : List ℕ
  before = take (last body offsets) bytes

  abbrev entries : List TableEntry
  entries = table_of before w offsets

  entry_read : (k : ℕ) → k < length offsets
      → slice_get entries k ≡ Some (record { place = get_or offsets k 0; object = objects k })
  entry_read k h =
      let o = object_there w objects order offsets k laid ((each_once.numbered k).1 h)
      (table_form (least_width (length file)) offsets) in
      slice_get-map _ offsets k ∙ ap (option_map _) (slice_get-get_or offsets k 0 h)
      ∙ ap (λ object. Some (record { place = get_or offsets k 0; object = object }))
      (ap (λ bytes. object_in w (drop (get_or offsets k 0) bytes)) (front_is body offsets ∙ o.is)
      ∙ ap (object_in w) (drop_front o.before (form w (objects k) ++ o.after) _ (sym o.at_place))
      ∙ form_read w (width_positive (length offsets - 1)) (objects k) o.after o.good)

  fit : AllFit (least_width (length file)) offsets
  fit =
      let Fits : ℕ → Type 0 = λ n. n < 256 ^ least_width (length file) in
      recursion_from_All Fits offsets (All-from_get_or Fits offsets 0 (λ k h. omega (
        arith,
        found_place w objects order offsets k laid ((each_once.numbered k).1 h),
        width_holds (length file) short,
      )))

  head_found : head_of bytes ≡ Ok
      (record { trailer = last body offsets; reference_width = w; root = 0; places = offsets })
  head_found = head_is body offsets (omega (arith, l.long, r.numbered.so_far.small)) short fit

  shows : Shows num (unfolding_of entries (length offsets) [] (last body offsets) 0)
      (visits_of entries (length offsets) [] 0) (bracketing t) (positions t 0)
  shows =
      let buffer : length entries - 0 ≡ length offsets = omega
      (arith, length-table_of before offsets w)
      in
      let all = unfolds_whole entries (events_in plan.given) num made.rank made.ranked
      (λ u p s. (
        get_or offsets (num p) 0,
        entry_read (num p) (omega (arith, number_below r.numbered u p s))
            ∙ ap (λ o. Some (record { place = get_or offsets (num p) 0; object = o }))
            (l.described u p s),
      ))
      t (last body offsets) (occurs_whole e) in
      rw (buffer, r.numbered.root) at all

  items_are : items_of_file bytes ≡ map Ok (bracketing t)
  unfolding items_of_file
  items_are =
      ap (items_with bytes) head_found ∙ ap until_fault shows.items
      ∙ no_fault (bracketing t)

  visits_are : visits bytes ≡ map (λ one. num one.0) (collections_in t)
  unfolding visits
  visits_are = ap (visits_with bytes) head_found ∙ shows.visits

  finished : IsFileBy class t bytes
  finished = record {
    numbers = num;
    apart = λ u v p q s o. number_apart r.numbered u v p q (rw e s) (rw e o);
    entered = visits_are;
    written = record {
      order = order;
      objects = objects;
      offsets = offsets;
      distinct = l.distinct;
      numbered = each_once.numbered;
      laid = laid;
      is = refl;
      items = items_are;
    };
    count =
        λ head is. let same : head.places ≡ offsets = cc (head_found, is) in
        ap length same ∙ count_is;
    size =
        length_closed body offsets
        ∙ (λ i. place_is i + count_is i * least_width (place_is i) + 32);
    fits = fits;
  }

  -- all objects of a plan are a file of its tree
  pub file_made : IsFileBy class t (file_with plan.width objects offsets order)
  file_made = subst (λ w. IsFileBy class t (file_with w objects offsets order)) (sym wide) finished

-- ---- a plan

module _ {given : Classed} {numbering : Numbering} (n : IsNumberingOfEvents given numbering) where
  -- the size is that of all objects
  size_is : IsCapped numbering.size
      (size_below (reference_width numbering.count) n.so_far.first numbering.count)
  size_is = rw (bound_is_count n) at n.so_far.size

  -- the file has 2^64 bytes or more
  pub oversized : AreTreeEvents (events_in given)
      → ((objects : ℕ) → IsCapped numbering.size objects
      → 2 ^ 64 ≤ size_with numbering.count objects)
      → IsOfTree (events_in given) (λ tree. 2 ^ 64 ≤ size_by (class_in given) tree)
  oversized tree exceeds = (
    complete_of_whole (events_in given) tree,
    λ t alike. rw (size_by_numbers n t (plain_lengthless given.events.now t alike))
        (exceeds _ size_is),
  )

  -- the numbering is the plan of a file
  pub plan_made : (width : ℕ) → width ≡ reference_width (bound_in given) → width ≤ 8
      → ((objects : ℕ) → IsCapped numbering.size objects
      → size_with numbering.count objects < 2 ^ 64)
      → IsFilePlan (record { given = given; numbering = numbering; width = width })
  plan_made width is narrow fits =
      let wide = is ∙ ap reference_width (bound_is_count n) in
      record { numbered = n; width = wide; narrow = narrow; small = rw wide (fits _ size_is) }

-- ---- what is put

-- a file of the tree with these events is put
abbrev pub PutsFile : FilePlan → {W : Type 0} → (W → Option (List ℕ)) → (start new : Sink W) → Type 0
PutsFile plan contents start new = (file : List ℕ) × ((tree : Tree)
    → AreAlike (events_in plan.given) (bracketing tree) → IsFileBy (class_in plan.given) tree file)
    × Puts contents start file new

module _ (plan : FilePlan) {W : Type 0} {contents : W → Option (List ℕ)} {start : Sink W}
    (empty : pending start ≡ []) (tree : AreTreeEvents (events_in plan.given)) where
  -- the file is put, and the sink is finished
  pub sends_file : {middle : Sink W} (new : Sink W) → PutsFile plan contents start middle
      → (answer : Result (Unit {0}) Error)
      → OnOk answer
      (Appends (contents middle.writer.now) (contents new.writer.now) (pending middle))
      → OnOk answer (is_open middle ≡ true)
      → AppendsPrefix (contents middle.writer.now) (contents new.writer.now) (pending middle)
      → (is_open middle ≡ false → new.writer.now ≡ middle.writer.now)
      → OnlyDevice answer → SendsAs (files_by (class_in plan.given)) contents
      (events_in plan.given) (answer_of answer) start.writer.now new.writer.now
  sends_file new (file, of, put) (Ok done) sent works prefix unasked failed =
      (file, (complete_of_whole _ tree, of), sent_whole _ empty put works sent)
  sends_file new (file, of, put) (Err error) sent works prefix unasked failed =
      subst (λ fault. SendsAs (files_by (class_in plan.given)) contents (events_in plan.given)
      (Err fault) start.writer.now new.writer.now) (sym failed) (
        refl,
        (
          file,
          (complete_of_whole _ tree, of),
          sent_part _ empty put (λ no. ap contents (unasked no)) prefix,
        ),
      )
