-- Entries by the lists of their kinds and of their numbers.
use Rattle.std.proofs.Common.{rules, ◌≡◌, ◌≢◌, ℕ, zero, suc, ◌+◌, ◌<◌, ◌≤◌, inl, inr, List, [], ◌∷◌, ◌++◌, length, map, get_or, set, take, None, Some, false, true, refl, ap, sym, ◌∙◌, arith, length-append}
use Rattle.std.proofs.Math.ListN.{get_or-append}
use Rattle.std.proofs.Math.Nat.{eq-or-lt_of_le}
use Rattle.std.proofs.Math.Seq.{get_or-append_seam, take-append_seam}
use Rattle.std.proofs.lemmas.List.{get_or_default, get_or-set_other, length-set, take-append-le}
use Rattle.plist_buffer.specs.declared.entries.EventEntry.{EventEntry}
use Rattle.plist_buffer.specs.declared.entries.EventEntry.TheVariants as entry
use Rattle.plist_buffer.specs.declared.entries.EntryKind.{EntryKind}
use Rattle.plist_buffer.specs.declared.entries.EntryKind.TheVariants as kind
use Rattle.plist_buffer.specs.declared.entries.ScalarNumber.{ScalarNumber}
use Rattle.plist_buffer.specs.inner.Columns.{AreColumns, ends_before, ends_in, kind_in, number_in, number_named, index_of_number, one_if_end, scalar_named, entry_of, entries_from}
use Rattle.plist_buffer.specs.inner.Entries.{ScalarLists, closed_at, ended_at, entry_at, index_after_at, index_after_entry, is_leaf, is_start, event_of_entry}

-- an entry is made up of its kind and its number
same_entry : (ends : ℕ) (e : EventEntry) → entry_of (kind_in e) (number_in ends e) ≡ e
same_entry ends e = search rules

same_kind : (k : EntryKind) (n : ℕ) → kind_in (entry_of k n) ≡ k
same_kind k n = search rules

long_entries : (kinds : List EntryKind) (numbers : List ℕ) → length kinds ≡ length numbers
    → length (entries_from kinds numbers) ≡ length kinds
long_entries [] numbers same = refl
long_entries (k ∷ kinds) (n ∷ numbers) same = omega (arith, same, long_entries kinds numbers)
long_entries kinds numbers same = absurd (omega (arith, same))

entries_at : (kinds : List EntryKind) (numbers : List ℕ) (p : ℕ) → length kinds ≡ length numbers
    → entry_at (entries_from kinds numbers) p
    ≡ entry_of (get_or kinds p kind.End) (get_or numbers p 0)
entries_at [] numbers p same = refl
entries_at (k ∷ kinds) [] p same = absurd (omega arith)
entries_at (k ∷ kinds) (n ∷ numbers) zero same = refl
entries_at (k ∷ kinds) (n ∷ numbers) (suc p) same =
    entries_at kinds _ p (omega arith)

-- an entry with the number of a scalar is the entry that refers to this scalar
pub named : (e : EventEntry) (number : ScalarNumber) → number_named e ≡ Some number
    → e ≡ entry.Scalar number
named e number is = search rules

-- an entry with the index of a scalar refers to a scalar with this index
pub indexed : (scalars : ScalarLists) (e : EventEntry) (k : ℕ) → scalar_named scalars e ≡ Some k
    → (number : ScalarNumber) × (e ≡ entry.Scalar number) × (index_of_number scalars number ≡ k)
indexed scalars e k is = search rules

pub unnamed : (scalars : ScalarLists) (e : EventEntry) → scalar_named scalars e ≡ None
    → is_leaf (event_of_entry scalars e) ≡ false
unnamed scalars e is = search rules

-- appending a kind and a number appends an entry
entries_more : (kinds : List EntryKind) (numbers : List ℕ) (ends : ℕ) (e : EventEntry)
    → length kinds ≡ length numbers
    → entries_from (kinds ++ kind_in e ∷ []) (numbers ++ number_in ends e ∷ [])
    ≡ entries_from kinds numbers ++ e ∷ []
entries_more [] [] ends e same = ap (λ d. d ∷ []) (same_entry ends e)
entries_more (k ∷ kinds) (n ∷ numbers) ends e same =
    ap (λ l. entry_of k n ∷ l) (entries_more kinds _ ends e (omega (arith, same)))
entries_more kinds numbers ends e same = absurd (omega arith)

-- setting a number sets the number of an entry
number_set : (kinds : List EntryKind) (numbers : List ℕ) (p n : ℕ)
    → entries_from kinds (set numbers p n)
    ≡ set (entries_from kinds numbers) p
    (entry_of (kind_in (entry_at (entries_from kinds numbers) p)) n)
number_set [] numbers p n = refl
number_set (k ∷ kinds) [] p n = grind arith
number_set (k ∷ kinds) (m ∷ numbers) zero n =
    ap (λ j. entry_of j n ∷ entries_from kinds numbers) (sym (same_kind k m))
number_set (k ∷ kinds) (m ∷ numbers) (suc p) n =
    ap (λ l. entry_of k m ∷ l) (number_set kinds numbers p n)

-- setting the number of a start closes it
closes_entry : (e : EventEntry) (n : ℕ) → is_start e ≡ true → entry_of (kind_in e) n ≡ closed_at e n
closes_entry e n starts = search rules

-- the number of a start is the index after its collection
numbered_start : (k : EntryKind) (n p : ℕ) → is_start (entry_of k n) ≡ true
    → n ≡ index_after_entry p (entry_of k n)
numbered_start k n p is = search rules

-- ---- ends

-- the kinds of the entries
kinds_of : (kinds : List EntryKind) (numbers : List ℕ) → length kinds ≡ length numbers
    → map kind_in (entries_from kinds numbers) ≡ kinds
kinds_of [] numbers same = refl
kinds_of (k ∷ kinds) [] same = absurd (omega (arith, same))
kinds_of (k ∷ kinds) (n ∷ numbers) same = λ i.
    same_kind k n i ∷ kinds_of kinds numbers (omega (arith, same)) i

pub few_ends : (kinds : List EntryKind) → ends_in kinds ≤ length kinds
few_ends [] = omega arith
few_ends (kind.End ∷ kinds) = omega (arith, few_ends kinds)
few_ends (k ∷ kinds) = omega (arith, few_ends kinds)

ends_more : (kinds : List EntryKind) (k : EntryKind)
    → ends_in (kinds ++ k ∷ []) ≡ ends_in kinds + one_if_end k
ends_more [] k = omega arith
ends_more (j ∷ kinds) k = omega (arith, ends_more kinds k)

-- the number of an end is the given one
number_of_end : (ends : ℕ) (e : EventEntry) → kind_in e ≡ kind.End → number_in ends e ≡ ends
number_of_end ends e is = search rules

-- an entry is appended
pub columns_more : {kinds : List EntryKind} {numbers : List ℕ} {ends : ℕ}
    → AreColumns kinds numbers ends → (e : EventEntry)
    → AreColumns (kinds ++ kind_in e ∷ []) (numbers ++ number_in ends e ∷ [])
    (ends + one_if_end (kind_in e))
columns_more {kinds} {numbers} {ends} columns e = record {
  long = omega (arith, columns.long, length-append {A = EntryKind}, length-append {A = ℕ});
  counted = ap (λ n. n + one_if_end (kind_in e)) columns.counted ∙ sym (ends_more kinds (kind_in e));
  numbered = λ p lt is. elim (eq-or-lt_of_le {n = p} {m = length kinds}
      (omega (arith, lt, length-append kinds (kind_in e ∷ [])))) [
        | inl last ↦ grind (arith, get_or-append_seam kinds (kind_in e) [] kind.Small, get_or-append_seam numbers (number_in ends e) [] 0, number_of_end ends e, take-append_seam kinds (kind_in e ∷ []))
        | inr old ↦
            get_or-append numbers _ 0 p (omega (arith, columns.long, old))
            ∙ columns.numbered p old (sym (get_or-append kinds _ kind.Small p old) ∙ is)
            ∙ ap ends_in (sym (take-append-le p kinds _ (omega (arith, old))))
      ];
}

-- ---- the entries of a list

module _ {kinds : List EntryKind} {numbers : List ℕ} {ends : ℕ} {es : List EventEntry}
    (columns : AreColumns kinds numbers ends) (view : entries_from kinds numbers ≡ es) where
  pub long_columns : (length es ≡ length kinds) × (length es ≡ length numbers)
  long_columns =
      let long = ap length (sym view) ∙ long_entries kinds numbers columns.long in
      (long, long ∙ columns.long)

  -- there are at most as many ends as entries
  pub ends_below : ends ≤ length kinds
  ends_below = rw columns.counted (few_ends kinds)

  entry_is : (p : ℕ) → entry_at es p ≡ entry_of (get_or kinds p kind.End) (get_or numbers p 0)
  entry_is p = ap (λ l. entry_at l p) (sym view) ∙ entries_at kinds numbers p columns.long

  kind_is : (p : ℕ) → kind_in (entry_at es p) ≡ get_or kinds p kind.End
  kind_is p = ap kind_in (entry_is p) ∙ same_kind (get_or kinds p kind.End) (get_or numbers p 0)

  -- the kind and the number of an entry are read from the lists
  pub kind_read : {slice : List EntryKind} → slice ≡ kinds → (p : ℕ) (d : EntryKind)
      → p < length es → get_or slice p d ≡ kind_in (entry_at es p)
  kind_read lent p d within =
      ap (λ l. get_or l p d) lent
      ∙ get_or_default kinds p d kind.End (omega (arith, long_columns.0)) ∙ sym (kind_is p)

  pub number_read : (p : ℕ)
      → entry_of (kind_in (entry_at es p)) (get_or numbers p 0) ≡ entry_at es p
  number_read p = ap (λ k. entry_of k (get_or numbers p 0)) (kind_is p) ∙ sym (entry_is p)

  pub start_number : (p : ℕ) → is_start (entry_at es p) ≡ true
      → get_or numbers p 0 ≡ index_after_at es p
  start_number p starts =
      numbered_start (get_or kinds p kind.End) (get_or numbers p 0) p
      (sym (ap is_start (entry_is p)) ∙ starts) ∙ ap (index_after_entry p) (sym (entry_is p))

  kinds_are : map kind_in es ≡ kinds
  kinds_are = ap (map kind_in) (sym view) ∙ kinds_of kinds numbers columns.long

  pub ends_counted : ends ≡ ends_in (map kind_in es)
  ends_counted = columns.counted ∙ ap ends_in (sym kinds_are)

  -- the number of an end is the number of ends before it
  pub end_number : (p : ℕ) → p < length es → entry_at es p ≡ entry.End
      → get_or numbers p 0 ≡ ends_before es p
  end_number p within is =
      columns.numbered p (omega (arith, long_columns.0))
      (kind_read refl p kind.Small within ∙ ap kind_in is)
      ∙ ap (λ ks. ends_in (take p ks)) (sym kinds_are)

  pub entries_pushed : (e : EventEntry)
      → entries_from (kinds ++ kind_in e ∷ []) (numbers ++ number_in ends e ∷ []) ≡ es ++ e ∷ []
  entries_pushed e = entries_more kinds numbers ends e columns.long ∙ ap (λ l. l ++ e ∷ []) view

  -- an end is appended, and the number of a start is set
  module _ (start : ℕ) (within : start < length es)
      (starts : is_start (entry_at es start) ≡ true) where
    pub entries_closed : entries_from (kinds ++ kind.End ∷ [])
        (set (numbers ++ ends ∷ []) start (length kinds + 1)) ≡ ended_at es start
    entries_closed =
        let there : entry_at (es ++ entry.End ∷ []) start ≡ entry_at es start =
        get_or-append es (entry.End ∷ []) entry.End start within in
        cc (
          number_set (kinds ++ kind.End ∷ []) (numbers ++ ends ∷ []) start (length kinds + 1),
          entries_pushed entry.End,
          closes_entry (entry_at (es ++ entry.End ∷ []) start) (length kinds + 1)
              (ap is_start there ∙ starts),
          long_columns.0,
        )

    -- the kind of a start isn't that of an end
    not_end : get_or kinds start kind.Small ≢ kind.End
    not_end is =
        let ended : get_or kinds start kind.End ≡ kind.End =
        sym (kind_is start) ∙ sym (kind_read refl start kind.Small within) ∙ is in
        cc (ap is_start (entry_is start ∙ ap (λ k. entry_of k (get_or numbers start 0)) ended))

    pub columns_closed : (n : ℕ) → AreColumns (kinds ++ kind.End ∷ [])
        (set (numbers ++ ends ∷ []) start n) (ends + 1)
    columns_closed n =
        let more = columns_more columns entry.End in
        let lt : start < length kinds = omega (arith, long_columns.0) in
        record {
          long = more.long ∙ sym (length-set (numbers ++ ends ∷ []) start n);
          counted = more.counted;
          numbered = λ q within is.
              get_or-set_other (numbers ++ ends ∷ []) start q n 0
              (λ e. not_end (sym (get_or-append kinds (kind.End ∷ []) kind.Small start lt)
              ∙ ap (λ r. get_or (kinds ++ kind.End ∷ []) r kind.Small) (sym e) ∙ is))
              ∙ more.numbered q within is;
        }
