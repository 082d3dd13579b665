-- The items of nested open arrays after one more item.
use Rattle.std.proofs.Common.{◌≡◌, ℕ, ◌≤◌, List, [], ◌∷◌, ◌++◌, length, refl, arith, length-append}
use Rattle.std.proofs.lemmas.List.{take-append-le, drop-append-le}
use Rattle.plist.specs.declared.value.Value.{Value}
use Rattle.plist.specs.OpenCollections.{AreStarts, items_by_array}
use Rattle.plist.specs.inner.CollectionSteps.{with_item}

-- the starts stay right if there are more items
pub starts_more : (starts : List ℕ) (n m : ℕ) → AreStarts starts n → n ≤ m → AreStarts starts m
starts_more [] n m ok le = ok
starts_more (start ∷ starts) n m ok le = let first = ok.0 in (omega arith, ok.1)

pub starts_pushed : (starts : List ℕ) (items new : List Value) (item : Value)
    → new ≡ items ++ item ∷ [] → AreStarts starts (length items) → AreStarts starts (length new)
starts_pushed starts items new item p ok =
    starts_more starts _ _ ok
    (rw p (omega (arith, length-append items (item ∷ []))))

-- an item that is appended belongs to the innermost array
pub item_pushed : (starts : List ℕ) (items new : List Value) (item : Value)
    → new ≡ items ++ item ∷ [] → AreStarts starts (length items)
    → items_by_array starts new ≡ with_item (items_by_array starts items) item
item_pushed [] items new item p ok = refl
item_pushed (start ∷ starts) items new item p ok =
    let le : start ≤ length items = ok.0 in
    rw p (rw (take-append-le, drop-append-le) refl)

pub ruleset open_items = (item_pushed, starts_pushed)
