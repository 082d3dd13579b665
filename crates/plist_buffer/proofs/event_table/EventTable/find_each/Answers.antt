use Rattle.std.proofs.Common.{◌≡◌, ℕ, zero, suc, List, [], ◌∷◌, None, Some, IfSome, map, slice_get, slice_index_or, slice_set, refl, ap, sym, ◌∙◌, subst}
use Rattle.std.proofs.lemmas.List.{get_or_default}
use Rattle.plist_base.specs.PackedScalars.{packed_eq}
use Rattle.plist_buffer.specs.StoredScalars.{event_of_small}
use Rattle.plist_buffer.proofs.SameScalars.{small_same}
use Rattle.plist_buffer.proofs.SetKeys.{key_found}
use Rattle.plist_buffer.proofs.event_table.EventTable.find_each.Goals as goal

-- what is true of each item is so after one is written, if it is of what was written
written : {A : Type 0} (xs : List A) (i k : ℕ) (x d : A) (P : A → Type 0) → (k ≡ i → P x)
    → P (slice_index_or xs k d) → P (slice_index_or (slice_set xs i x) k d)
written [] i k x d P same other = other
written (y ∷ xs) zero zero x d P same other = same refl
written (y ∷ xs) zero (suc k) x d P same other = other
written (y ∷ xs) (suc i) zero x d P same other = other
written (y ∷ xs) (suc i) (suc k) x d P same other =
    written xs i k x d P (λ e. same (ap suc e)) other

pub loop-index-preserved : goal.loop-index-preserved
loop-index-preserved c = λ k x lt.
    let scalars = c.args.scalars.now in
    let index = c.loop-index.index in
    let scalar = c.index-scalars-index.result in
    let keys = c.args.self.now.small.keys in
    let found = c.get_index_of.result in
    written c.loop-index.found index k found None
    (λ o. IfSome o (λ n. slice_get (map event_of_small keys) n
    ≡ Some (event_of_small (slice_index_or scalars k x))))
    (λ here. subst (λ y. IfSome found (λ n. slice_get (map event_of_small keys) n
    ≡ Some (event_of_small y)))
    (c.index-scalars-index.is ∙ get_or_default scalars index scalar x c.loop-index-test.true
    ∙ ap (λ j. slice_index_or scalars j x) (sym here))
    (key_found packed_eq event_of_small scalar (small_same scalar) keys found
    c.get_index_of.ensures.index))
    (c.loop-index.invariant k x lt)
