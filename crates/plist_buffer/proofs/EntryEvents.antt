-- The events that the entries of a table represent, and how each call maintains their invariants.
use Rattle.std.proofs.Common.{rules, ◌≡◌, ◌≢◌, ◌⊎◌, inl, inr, ℕ, zero, suc, ◌+◌, ◌-◌, ◌^◌, ◌<◌, Bool, true, false, ◌≤◌, None, Some, Result, OnOk, OnErr, List, [], ◌∷◌, ◌++◌, drop, length, set, slice_get, get_or, reverse, refl, ap, sym, ◌∙◌, subst, arith}
use Rattle.std.proofs.Math.ListN.{get_or-append}
use Rattle.std.proofs.Math.Seq.{get_or-append_seam, map-set_same}
use Rattle.std.proofs.lemmas.Bool.{eq-eqb, eqb-true}
use Rattle.std.proofs.lemmas.Bool.Decides.{nat_tests, leb_tells}
use Rattle.std.proofs.lemmas.List.{length-map, length-append, length-set, map-append, reverse-append, get_or-map, get_or_default, get_or_past, get_or-set_same, get_or-set_other}
use Rattle.std.proofs.lemmas.List.Folds.{Any-from_list_any, list_any-append, list_any_at}
use Rattle.std.proofs.lemmas.Option.{slice_get-get_or, slice_get_within}
use Rattle.std.specs.List.{list_any}
use Rattle.std.specs.Option.{unwrap_or}
use Rattle.plist_base.specs.Bracketing.{without_length}
use Rattle.plist_base.specs.Events.{PlainEvent, EndCollection, ScalarEvent}
use Rattle.plist_base.specs.Trees.{Scalar}
use Rattle.plist_buffer.specs.declared.entries.EventEntry.{EventEntry}
use Rattle.plist_buffer.specs.declared.entries.EventEntry.TheVariants as entry
use Rattle.plist_buffer.specs.EventTable.{HasItem, event_at, is_end}
use Rattle.plist_buffer.specs.declared.entries.ScalarNumber.{ScalarNumber}
use Rattle.plist_buffer.specs.declared.entries.ScalarNumber.TheVariants.{Small, Long}
use Rattle.plist_buffer.specs.inner.Columns.{scalar_named, index_of_number}
use Rattle.plist_buffer.specs.inner.Entries.{AreDistinct, ScalarLists, all_scalars, event_numbered, same_number, scalar_numbered, is_leaf, entry_at, event_of_entry, events_of_entries, is_sound, is_start, index_after_entry, index_after_at, closed_at, ended_at, names, AreEntriesOf, IsValidTable, KeepsScalars}
use Rattle.plist_buffer.specs.inner.UnclosedStarts.{unclosed_after_event, unclosed_after, skip_after_event, skip_after}
use Rattle.plist_buffer.proofs.Columns.{indexed, unnamed}
use Rattle.plist_buffer.proofs.SetKeys.{first_of_both, old_or_last, second_of_both}
use Rattle.plist_buffer.proofs.OpenStarts as opened
use Rattle.plist_buffer.proofs.OpenStarts.{open_more, skip_more, skip_forward, innermost_starts}

-- ---- what is at an index after an item is replaced, and after one is appended

at_set : {A : Type 0} (xs : List A) (p : ℕ) (x d : A) (q : ℕ) (P : A → Type 0) → p < length xs
    → (q ≡ p → P x) → (q ≢ p → P (get_or xs q d)) → P (get_or (set xs p x) q d)
at_set xs p x d q P lt same other =
    grind (arith, get_or-set_same xs p x d, get_or-set_other xs p q x d, same, other)

at_more : {A : Type 0} (xs : List A) (x d : A) (q : ℕ) (P : A → Type 0)
    → q < length (xs ++ x ∷ []) → (q ≡ length xs → P x) → (q < length xs → P (get_or xs q d))
    → P (get_or (xs ++ x ∷ []) q d)
at_more xs x d q P lt last other =
    grind (arith, get_or-append_seam xs x [] d, get_or-append xs (x ∷ []) d q, length-append xs (x ∷ []), last, other)

-- ---- the events of entries

pub long_shown : (scalars : ScalarLists) (es : List EventEntry)
    → length (events_of_entries scalars es) ≡ length es
long_shown scalars es = length-map es _

shown_more : (scalars : ScalarLists) (es : List EventEntry) (e : EventEntry)
    → events_of_entries scalars (es ++ e ∷ []) ≡ events_of_entries scalars es ++ event_of_entry scalars e ∷ []
shown_more scalars es e = map-append _ es _

entry_before : (es : List EventEntry) (e : EventEntry) (p : ℕ) → p < length es
    → entry_at (es ++ e ∷ []) p ≡ entry_at es p
entry_before es e p lt = get_or-append es _ _ p lt

entry_last : (es : List EventEntry) (e : EventEntry) → entry_at (es ++ e ∷ []) (length es) ≡ e
entry_last es e = get_or-append_seam es e [] _

-- an index at which a test finds an event that passes is within the list
pub below : (f : PlainEvent → Bool) (es : List PlainEvent) (i : ℕ) → f EndCollection ≡ false
    → f (event_at es i) ≡ true → i < length es
below f es i none h = grind (arith, get_or_past)

leaf_is : (e : PlainEvent) → is_leaf e ≡ true → (x : Scalar) × (e ≡ ScalarEvent x)
leaf_is e h = search rules

-- a scalar with a number is stored
leaf_stored : (scalars : ScalarLists) (number : ScalarNumber)
    → is_leaf (event_numbered scalars number) ≡ true
    → scalar_numbered scalars number ≡ Some (event_numbered scalars number)
leaf_stored scalars number leaf = grind arith

pub numbered_is : (scalars : ScalarLists) (number : ScalarNumber) (e : PlainEvent)
    → scalar_numbered scalars number ≡ Some e → event_numbered scalars number ≡ e
numbered_is scalars number e h = ap (λ o. unwrap_or o EndCollection) h

-- a scalar with a number is the one with its index among all scalars
pub stored_among_all : (scalars : ScalarLists) (number : ScalarNumber) (e : PlainEvent)
    → scalar_numbered scalars number ≡ Some e
    → slice_get (all_scalars scalars) (index_of_number scalars number) ≡ Some e
stored_among_all scalars number e h =
    grind (arith, first_of_both {K = PlainEvent}, second_of_both {K = PlainEvent})

-- an entry that refers to the scalar with a number names the scalar's index
index_named : (scalars : ScalarLists) (number : ScalarNumber) (e : EventEntry)
    → names number e ≡ true → scalar_named scalars e ≡ Some (index_of_number scalars number)
index_named scalars number e h = grind (arith, eqb-true)

-- different numbers have different indices
same_numbers : (scalars : ScalarLists) (m n : ScalarNumber) (d e : PlainEvent)
    → scalar_numbered scalars m ≡ Some d → scalar_numbered scalars n ≡ Some e
    → index_of_number scalars m ≡ index_of_number scalars n → m ≡ n
same_numbers scalars m n d e p q is = grind (arith, slice_get_within scalars.small)

number_same : (n : ScalarNumber) → same_number n n ≡ true
number_same n = grind (arith, eq-eqb)

pub leaf_without_length : (e : PlainEvent) → is_leaf e ≡ true → without_length e ≡ e
leaf_without_length e h = search rules

-- more scalars change no event of the entries
module _ (old new : ScalarLists) (keeps : KeepsScalars old new) where
  one_kept : (e : EventEntry) → is_sound old e ≡ true → (is_sound new e ≡ true)
      × (event_of_entry new e ≡ event_of_entry old e)
  one_kept e h = grind (arith, keeps, leaf_stored old, numbered_is new)

  shown_kept : (es : List EventEntry) → ((p : ℕ) → p < length es
      → is_sound old (entry_at es p) ≡ true)
      → events_of_entries new es ≡ events_of_entries old es
  shown_kept [] sound = refl
  shown_kept (e ∷ es) sound =
      λ i. (one_kept e (sound 0 (omega arith))).1 i
      ∷ shown_kept es (λ p lt. sound (suc p) (omega (arith, lt))) i

-- ---- one more event

module _ {scalars : ScalarLists} {es : List EventEntry} {unclosed : List ℕ}
    (t : AreEntriesOf scalars es unclosed) where
  abbrev events : List PlainEvent
  events = events_of_entries scalars es

  long : length events ≡ length es
  long = long_shown _ es

  -- the event at an index is that of the entry
  shown_at : (p : ℕ) → p < length es → event_at events p ≡ event_of_entry scalars (entry_at es p)
  shown_at p lt = get_or-map _ es p _ _ lt

  -- entries that meet these conditions represent the events and one more
  entries_by : (now : List EventEntry) (after : List ℕ) (e : PlainEvent)
      → events_of_entries scalars now ≡ events ++ e ∷ []
      → ((p : ℕ) → p < length now → is_sound scalars (entry_at now p) ≡ true)
      → reverse after ≡ unclosed_after_event e (length es) (unclosed_after events)
      → ((p : ℕ) → p < length es
      → index_after_at now p ≡ skip_after_event e (length es) (unclosed_after events) p (index_after_at es p))
      → index_after_at now (length es) ≡ length es + 1 → AreEntriesOf scalars now after
  entries_by now after e is sound starts before last =
      let more : length now ≡ length es + 1 =
      omega (arith, long_shown scalars now, ap length is, length-append events (e ∷ []), long) in
      record {
        sound = sound;
        starts = starts ∙ ap (λ n. unclosed_after_event e n (unclosed_after events)) (sym long)
            ∙ sym (open_more events e) ∙ ap unclosed_after (sym is);
        skips = λ p lt. grind (arith, skip_forward (events_of_entries scalars now) p, long_shown scalars now, long, before p, t.skips p, skip_more events e p);
      }

  -- an entry is appended that closes no start
  entries_more : (e : EventEntry) (after : List ℕ) → is_sound scalars e ≡ true
      → index_after_entry (length es) e ≡ length es + 1
      → reverse after ≡ unclosed_after_event (event_of_entry scalars e) (length es) (unclosed_after events)
      → ((p k : ℕ) → skip_after_event (event_of_entry scalars e) (length es) (unclosed_after events) p k ≡ k)
      → AreEntriesOf scalars (es ++ e ∷ []) after
  entries_more e after one following starts same =
      entries_by (es ++ e ∷ []) after (event_of_entry scalars e) (shown_more scalars es e)
      (λ p lt. at_more es e entry.End p (λ d. is_sound scalars d ≡ true) lt (λ d. one) (t.sound p))
      starts
      (λ p lt. ap (index_after_entry p) (entry_before es e p lt) ∙ sym (same p (index_after_at es p)))
      (ap (index_after_entry (length es)) (entry_last es e) ∙ following)

  entries_scalar : (i : ScalarNumber) → is_leaf (event_numbered scalars i) ≡ true
      → AreEntriesOf scalars (es ++ entry.Scalar i ∷ []) unclosed
  entries_scalar i leaf =
      let f = leaf_is (event_numbered scalars i) leaf in
      entries_more (entry.Scalar i) unclosed leaf refl (rw f.1 t.starts) (λ p k. rw f.1 refl)

  entries_start : (e : EventEntry) → is_start e ≡ true → index_after_entry (length es) e ≡ length es + 1
      → AreEntriesOf scalars (es ++ e ∷ []) (unclosed ++ length es ∷ [])
  entries_start e starts following = by e starts following
    where
      opens : reverse (unclosed ++ length es ∷ []) ≡ length es ∷ unclosed_after events
      opens = cc (reverse-append unclosed (length es ∷ []))

      by : (e : EventEntry) → is_start e ≡ true → index_after_entry (length es) e ≡ length es + 1
          → AreEntriesOf scalars (es ++ e ∷ []) (unclosed ++ length es ∷ [])
      by e s b = grind (arith, entries_more e (unclosed ++ length es ∷ []), opens)

  -- an end is appended while nothing is open
  entries_stray : unclosed ≡ [] → AreEntriesOf scalars (es ++ entry.End ∷ []) []
  entries_stray none =
      let nothing : unclosed_after events ≡ [] = sym t.starts ∙ ap reverse none in
      entries_more entry.End [] refl refl (sym (ap (drop 1) nothing))
      (λ p k. ap (λ b. skip_after_event EndCollection (length es) b p k) nothing)

  -- an end is appended, which closes the innermost start
  module _ (start : ℕ) (outer : List ℕ) (is : unclosed ≡ outer ++ start ∷ []) where
    pub unclosed_is : unclosed_after events ≡ start ∷ reverse outer
    unclosed_is = cc (reverse-append outer (start ∷ []))

    pub was_start : opened.is_start (event_at events start) ≡ true
    was_start = innermost_starts _ _ (reverse outer) unclosed_is

    pub start_within : start < length es
    start_within = omega (arith, below opened.is_start events start refl was_start, long)

    abbrev ended : List EventEntry
    ended = es ++ entry.End ∷ []

    abbrev closing : EventEntry
    closing = closed_at (entry_at ended start) (length es + 1)

    within : start < length ended
    within = omega (arith, start_within, length-append es (entry.End ∷ []))

    -- closing a start changes nothing but the index after it
    closing_same : {A : Type 0} (f : EventEntry → A)
        → ((m n : ℕ) → f (entry.Array m) ≡ f (entry.Array n))
        → ((m n : ℕ) → f (entry.Dictionary m) ≡ f (entry.Dictionary n))
        → f closing ≡ f (entry_at ended start)
    closing_same f array dictionary = grind (arith, array, dictionary)

    same_named : (i : ScalarNumber) (l : List EventEntry) (p : ℕ) (e : EventEntry) → p < length l
        → names i e ≡ names i (entry_at l p)
        → list_any (names i) (set l p e) ≡ list_any (names i) l
    same_named i [] p e lt h = refl
    same_named i (d ∷ l) zero e lt h = cc
    same_named i (d ∷ l) (suc p) e lt h = cc (same_named i l p e (omega arith) h)

    closing_used : (i : ScalarNumber) → list_any (names i) (ended_at es start) ≡ list_any (names i) ended
    closing_used i = same_named i _ _ closing within
        (closing_same (names i) (λ m n. refl) (λ m n. refl))

    pub end_shown : events_of_entries scalars (ended_at es start) ≡ events ++ EndCollection ∷ []
    end_shown =
        map-set_same _ _ _ _ entry.End
        (closing_same (event_of_entry _) (λ m n. refl) (λ m n. refl)) ∙ shown_more _ es _

    sound_ended : (p : ℕ) → p < length ended → is_sound scalars (entry_at ended p) ≡ true
    sound_ended p lt =
        at_more es _ _ p (λ d. is_sound scalars d ≡ true) lt (λ d. refl) (t.sound p)

    start_of : (e : EventEntry) → is_sound scalars e ≡ true
        → opened.is_start (event_of_entry scalars e) ≡ true → is_start e ≡ true
    start_of e h s = grind (arith, leaf_is)

    pub start_stored : is_start (entry_at es start) ≡ true
    start_stored =
        start_of (entry_at es start) (t.sound start start_within)
        (ap opened.is_start (sym (shown_at start start_within)) ∙ was_start)

    closing_behind : index_after_entry start closing ≡ length es + 1
    closing_behind = by _ (ap is_start (entry_before es entry.End start start_within) ∙ start_stored)
      where
        by : (e : EventEntry) {n : ℕ} → is_start e ≡ true → index_after_entry start (closed_at e n) ≡ n
        by e h = search rules

    entries_end : AreEntriesOf scalars (ended_at es start) outer
    entries_end =
        entries_by (ended_at es start) outer EndCollection end_shown
        (λ p lt. at_set ended start closing entry.End p (λ d. is_sound scalars d ≡ true) within
        (λ d. closing_same (is_sound scalars) (λ m n. refl) (λ m n. refl)
        ∙ sound_ended start within)
        (λ d. sound_ended p (omega (arith, lt, length-set ended start closing))))
        (sym (ap (drop 1) unclosed_is))
        (λ p lt. grind (
          arith,
          nat_tests,
          unclosed_is,
          get_or-set_same ended start closing entry.End within,
          get_or-set_other ended start p closing entry.End,
          closing_behind,
          entry_before es entry.End p lt,
        ))
        (grind (
          arith,
          get_or-set_other ended start (length es) closing entry.End,
          entry_last es entry.End,
          start_within,
        ))

-- ---- the calls

-- an entry was appended, or none was because an allocation failed
pub either_few : {T E : Type 0} (r : Result T E) (es now : List EventEntry)
    → OnOk r (length now < 2 ^ 63) → OnErr r (now ≡ es) → length es < 2 ^ 63 → length now < 2 ^ 63
either_few r es now small same few = grind arith

pub either : {T E : Type 0} (r : Result T E) {es more now : List EventEntry} (P : List EventEntry
    → Type 0)
    → OnOk r (now ≡ more) → OnErr r (now ≡ es) → P more → P es → P now
either r P is same new old = search rules

-- the lists with one more scalar
abbrev pub with_scalar : ScalarLists → ScalarNumber → PlainEvent → ScalarLists
with_scalar scalars (Small i) e =
    record { small = scalars.small ++ e ∷ []; long = scalars.long }
with_scalar scalars (Long i) e =
    record { small = scalars.small; long = scalars.long ++ e ∷ [] }

-- after a call that stored the scalar e unless it was there, it has this number
pub record Grown (old new : ScalarLists) (number : ScalarNumber) (e : PlainEvent) : Type 0 where
  pub was : (new ≡ old) ⊎ (new ≡ with_scalar old number e)
  pub stored : scalar_numbered new number ≡ Some e
  pub apart : AreDistinct (all_scalars new)

module _ {old new : ScalarLists} {number : ScalarNumber} {e : PlainEvent}
    (grown : Grown old new number e) where
  pub keeps : KeepsScalars old new
  keeps n d h = grind (arith, grown.was, first_of_both {K = PlainEvent})

  -- each scalar was there, or is the new one
  came : (n : ScalarNumber) (d : PlainEvent) → scalar_numbered new n ≡ Some d
      → (scalar_numbered old n ≡ Some d) ⊎ (d ≡ e)
  came n d h = grind (arith, grown.was, old_or_last {K = PlainEvent})

  few_more : length new.small + length new.long ≤ length old.small + length old.long + 1
  few_more = grind (arith, grown.was, length-append {A = PlainEvent})

module _ {scalars : ScalarLists} {es : List EventEntry} {unclosed : List ℕ}
    (kept : IsValidTable scalars es unclosed) where
  still_used : (e : EventEntry) (i : ScalarNumber) (d : PlainEvent)
      → scalar_numbered scalars i ≡ Some d → list_any (names i) (es ++ e ∷ []) ≡ true
  still_used e i d h = cc (list_any-append (names i) es (e ∷ []), kept.used i d h)

  kept_more : (e : EventEntry) {after : List ℕ} → AreEntriesOf scalars (es ++ e ∷ []) after
      → IsValidTable scalars (es ++ e ∷ []) after
  kept_more e entries_are = record {
    apart = kept.apart;
    used = still_used e;
    fewer = omega (arith, kept.fewer, length-append es (e ∷ []));
    entries_are = entries_are;
  }

  pub kept_start : (e : EventEntry) → is_start e ≡ true → index_after_entry (length es) e ≡ length es + 1
      → IsValidTable scalars (es ++ e ∷ []) (unclosed ++ length es ∷ [])
  kept_start e starts following = kept_more e (entries_start kept.entries_are e starts following)

  pub kept_stray : unclosed ≡ [] → IsValidTable scalars (es ++ entry.End ∷ []) []
  kept_stray none = kept_more entry.End (entries_stray kept.entries_are none)

  pub kept_end : (start : ℕ) (outer : List ℕ) → unclosed ≡ outer ++ start ∷ []
      → IsValidTable scalars (ended_at es start) outer
  kept_end start outer is = record {
    apart = kept.apart;
    used = λ i d h. closing_used kept.entries_are start outer is i ∙ still_used entry.End i d h;
    fewer = omega (arith, kept.fewer, length-append es, length-set (es ++ entry.End ∷ []) start);
    entries_are = entries_end kept.entries_are start outer is;
  }

  -- a scalar is appended, after which there may be one more different scalar
  module _ {new : ScalarLists} {i : ScalarNumber} {e : PlainEvent} (leaf : is_leaf e ≡ true)
      (grown : Grown scalars new i e) where
    grown_shown : events_of_entries new es ≡ events_of_entries scalars es
    grown_shown = shown_kept scalars new (keeps grown) es kept.entries_are.sound

    at : event_numbered new i ≡ e
    at = numbered_is new i e grown.stored

    pub scalar_shown : events_of_entries new (es ++ entry.Scalar i ∷ []) ≡ events_of_entries scalars es ++ e ∷ []
    scalar_shown = shown_more new es (entry.Scalar i)
        ∙ (λ j. grown_shown j ++ (ap without_length at ∙ leaf_without_length e leaf) j ∷ [])

    -- the appended entry refers to the scalar
    refers : list_any (names i) (es ++ entry.Scalar i ∷ []) ≡ true
    refers = list_any_at (names i) (es ++ entry.Scalar i ∷ []) (length es) entry.End
        (omega (arith, length-append es (entry.Scalar i ∷ [])))
        (ap (names i) (entry_last es (entry.Scalar i)) ∙ number_same i)

    -- two numbers of this scalar are one
    only : (j : ScalarNumber) → scalar_numbered new j ≡ Some e → i ≡ j
    only j h = same_numbers new i j e e grown.stored h
        (grown.apart _ _ e (stored_among_all new i e grown.stored) (stored_among_all new j e h))

    -- each scalar was there and is referred to, or is the new one
    pub kept_scalar : IsValidTable new (es ++ entry.Scalar i ∷ []) unclosed
    kept_scalar = record {
      apart = grown.apart;
      used = λ j d h. elim (came grown j d h) [
        | inl a ↦ still_used (entry.Scalar i) j d a
        | inr b ↦ subst (λ n. list_any (names n) (es ++ entry.Scalar i ∷ []) ≡ true)
            (only j (h ∙ ap Some b)) refers
      ];
      fewer = omega (arith, few_more grown, kept.fewer, length-append es (entry.Scalar i ∷ []));
      entries_are = entries_scalar
          (record {
            sound = λ p lt. (one_kept scalars new (keeps grown) (entry_at es p)
                (kept.entries_are.sound p lt)).0;
            starts = kept.entries_are.starts ∙ ap unclosed_after (sym grown_shown);
            skips = λ p lt. kept.entries_are.skips p lt ∙ ap (λ l. skip_after l p) (sym grown_shown);
          }) i (ap is_leaf at ∙ leaf);
    }

  -- a scalar that is stored is appended once more, unless an allocation fails
  pub kept_repeated : (i : ScalarNumber) → is_leaf (event_numbered scalars i) ≡ true
      → {T E : Type 0} (r : Result T E) {now : List EventEntry}
      → OnOk r (now ≡ es ++ entry.Scalar i ∷ []) → OnErr r (now ≡ es)
      → IsValidTable scalars now unclosed
  kept_repeated i leaf r pushed same =
      either r (λ l. IsValidTable scalars l unclosed) pushed same
      (kept_more (entry.Scalar i) (entries_scalar kept.entries_are i leaf)) kept

  -- ---- what is read of an entry

  module _ {index : ℕ} (here : index < length (events_of_entries scalars es)) where
    pub lt : index < length es
    lt = omega (arith, long_shown scalars es)

    there : event_at (events_of_entries scalars es) index ≡ event_of_entry scalars (entry_at es index)
    there = shown_at kept.entries_are _ lt

    pub no_scalar : scalar_named scalars (entry_at es index) ≡ None
        → is_leaf (event_at (events_of_entries scalars es) index) ≡ false
    no_scalar none = ap is_leaf there ∙ unnamed scalars (entry_at es index) none

    module _ {number : ScalarNumber} (is : entry_at es index ≡ entry.Scalar number) where
      leaf_here : is_leaf (event_numbered scalars number) ≡ true
      leaf_here = cc (kept.entries_are.sound index lt)

      stored_here : event_at (events_of_entries scalars es) index ≡ event_numbered scalars number
      stored_here = there ∙ ap (event_of_entry scalars) is ∙ leaf_without_length _ leaf_here

      pub scalar_there : scalar_numbered scalars number
          ≡ Some (event_at (events_of_entries scalars es) index)
      scalar_there = leaf_stored scalars number leaf_here ∙ ap Some (sym stored_here)

      pub scalar_leaf : is_leaf (event_at (events_of_entries scalars es) index) ≡ true
      scalar_leaf = ap is_leaf stored_here ∙ leaf_here

    module _ {k : ℕ} (is : scalar_named scalars (entry_at es index) ≡ Some k) where
      pub scalar_stored : slice_get (all_scalars scalars) k
          ≡ Some (event_at (events_of_entries scalars es) index)
      scalar_stored =
          let f = indexed scalars (entry_at es index) k is in
          cc (f.2, stored_among_all scalars f.0 _ (scalar_there f.1))

      pub scalar_is_leaf : is_leaf (event_at (events_of_entries scalars es) index) ≡ true
      scalar_is_leaf = scalar_leaf (indexed scalars (entry_at es index) k is).1

    -- the entry of an end is an end
    pub end_there : event_at (events_of_entries scalars es) index ≡ EndCollection
        → entry_at es index ≡ entry.End
    end_there ends = by (entry_at es index) refl
      where
        by : (e : EventEntry) → entry_at es index ≡ e → entry_at es index ≡ entry.End
        by e is = grind (arith, scalar_leaf, there, ends)

    -- the entry at which a closed collection begins is a start
    pub start_there : is_end (event_at (events_of_entries scalars es) index) ≡ false
        → event_at (events_of_entries scalars es) (skip_after (events_of_entries scalars es) index - 1)
        ≡ EndCollection
        → is_start (entry_at es index) ≡ true
    start_there begins ends = by (entry_at es index) refl
      where
        next : index_after_at es index ≡ index + 1
            → event_at (events_of_entries scalars es) index ≡ EndCollection
        next is =
            let at : skip_after (events_of_entries scalars es) index - 1 ≡ index =
            omega (arith, sym (kept.entries_are.skips index lt), is) in
            ap (event_at (events_of_entries scalars es)) (sym at) ∙ ends

        by : (e : EventEntry) → entry_at es index ≡ e → is_start (entry_at es index) ≡ true
        by e is = grind (arith, scalar_leaf, next, begins)

  -- a stored scalar is at some index of the events
  number_used : (number : ScalarNumber) (e : PlainEvent) → scalar_numbered scalars number ≡ Some e
      → (p : ℕ) × HasItem (events_of_entries scalars es) p
      × (scalar_named scalars (entry_at es p) ≡ Some (index_of_number scalars number))
  number_used number e stored =
      let some = Any-from_list_any (names number) es (kept.used number e stored) in
      let (p, found, lt, is, refers) = some in
      let long = long_shown scalars es in
      let here : p < length (events_of_entries scalars es) = omega (arith, lt, long) in
      let named : scalar_named scalars (entry_at es p) ≡ Some (index_of_number scalars number) =
      ap (scalar_named scalars) (get_or_default es p entry.End found lt ∙ is)
      ∙ index_named scalars number found refers in
      (p, (here, ap is_end (leaf_is _ (scalar_is_leaf here named)).1), named)

  -- each of the different scalars is at some index of the events
  pub scalar_used : (k : ℕ) → k < length (all_scalars scalars) → (p : ℕ)
      × HasItem (events_of_entries scalars es) p × (scalar_named scalars (entry_at es p) ≡ Some k)
  scalar_used k within = elim (leb_tells (length scalars.small) k) [
    | inl after ↦
        let j = k - length scalars.small in
        let sum : length scalars.small + j ≡ k = omega (arith, after.1) in
        let (p, item, named) = number_used (Long j) _ (slice_get-get_or scalars.long j EndCollection
        (omega (arith, within, sum, length-append scalars.small scalars.long))) in
        (p, item, named ∙ ap Some sum)
    | inr before ↦ number_used (Small k) _ (slice_get-get_or scalars.small k EndCollection before.1)
  ]
