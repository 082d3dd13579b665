-- Which events fill a stack of expectations.
use Rattle.std.proofs.Common.{◌≡◌, ℕ, true, List, [], ◌∷◌, ◌++◌, Option, Some, None, map, refl, ap, ◌∙◌, append_assoc, option_and_then, arith}
use Rattle.plist_base.specs.Events.{PlainEvent, StartArray, StartDictionary, EndCollection, ScalarEvent}
use Rattle.plist_base.specs.Trees as trees
use Rattle.plist_base.specs.Trees.{Tree, Leaf, Array, Dictionary, Trees, NoTrees, TreeAnd, Members, NoMembers, MemberAnd}
use Rattle.plist_base.specs.Bracketing.{lengthless, lengthless_items, lengthless_pairs, bracketing, bracketing_of_items, bracketing_of_pairs, without_length}
use Rattle.plist_buffer.specs.declared.expects.Expect.{Expect}
use Rattle.plist_buffer.specs.declared.expects.Expect.TheVariants.{OneValue, Items, Pairs}
use Rattle.plist_buffer.specs.Expects.{step, steps}

abbrev pub Stack : Type 0
Stack = List Expect

-- the events are what is expected, and nothing more
abbrev pub Fills : Stack → List PlainEvent → Type 0
Fills [] es = es ≡ []
Fills (OneValue ∷ rest) es =
    (t : Tree) × (left : List PlainEvent) × (es ≡ lengthless t ++ left) × Fills rest left
Fills (Items ∷ rest) es =
    (ts : Trees) × (left : List PlainEvent) × (es ≡ lengthless_items ts ++ EndCollection ∷ left)
    × Fills rest left
Fills (Pairs ∷ rest) es =
    (ms : Members) × (left : List PlainEvent) × (es ≡ lengthless_pairs ms ++ EndCollection ∷ left)
    × Fills rest left

refill : {a b : Stack} (m : List PlainEvent) → Some a ≡ Some b → Fills b m → Fills a m
refill m p f = grind arith

no_stack : {A : Type 0} (b : Stack) → None ≡ Some b → A
no_stack b e = cc

-- each stack can be filled
pub filling : (s : Stack) → (es : List PlainEvent) × Fills s (map without_length es)
filling [] = ([], refl)
filling (OneValue ∷ s) =
    let f = filling s in (
      ScalarEvent (trees.Boolean true) ∷ f.0,
      (Leaf _, map without_length f.0, refl, f.1),
    )
filling (Items ∷ s) =
    let f = filling s in (EndCollection ∷ f.0, (NoTrees, map without_length f.0, refl, f.1))
filling (Pairs ∷ s) =
    let f = filling s in (EndCollection ∷ f.0, (NoMembers, map without_length f.0, refl, f.1))

on_array : (s : Stack) (m : List PlainEvent) → Fills (Items ∷ s) m
    → Fills (OneValue ∷ s) (StartArray None ∷ m)
on_array s m f = (Array f.0, f.1, rw (f.2, append_assoc) refl, f.3)

on_dictionary : (s : Stack) (m : List PlainEvent) → Fills (Pairs ∷ s) m
    → Fills (OneValue ∷ s) (StartDictionary None ∷ m)
on_dictionary s m f = (Dictionary f.0, f.1, rw (f.2, append_assoc) refl, f.3)

-- what fills the expectation of a value and then of items fills that of items
on_item : (s : Stack) (m : List PlainEvent) → Fills (OneValue ∷ Items ∷ s) m → Fills (Items ∷ s) m
on_item s m f =
    let g = f.3 in (TreeAnd f.0 g.0, g.1, rw (f.2, g.2, append_assoc) refl, g.3)

-- a key, followed by what fills the expectation of a value and then of pairs, fills that of pairs
on_pair : (k : List ℕ) (s : Stack) (m : List PlainEvent) → Fills (OneValue ∷ Pairs ∷ s) m
    → Fills (Pairs ∷ s) (ScalarEvent (trees.String k) ∷ m)
on_pair k s m f =
    let g = f.3 in (MemberAnd k f.0 g.0, g.1, rw (f.2, g.2, append_assoc) refl, g.3)

on_value : (s : Stack) (e : PlainEvent) (t : Stack) (m : List PlainEvent)
    → step (OneValue ∷ s) e ≡ Some t → Fills t m → Fills (OneValue ∷ s) (without_length e ∷ m)
on_value s (StartArray n) t m p f = on_array s m (refill m p f)
on_value s (StartDictionary n) t m p f = on_dictionary s m (refill m p f)
on_value s EndCollection t m p f = no_stack t p
on_value s (ScalarEvent x) t m p f = (Leaf x, m, refl, refill m p f)

-- an event and what fills the stack after it fill the stack before it
fill_back : (s : Stack) (e : PlainEvent) (t : Stack) (m : List PlainEvent) → step s e ≡ Some t
    → Fills t m → Fills s (without_length e ∷ m)
fill_back [] e t m p f = no_stack t p
fill_back (OneValue ∷ s) e t m p f = on_value s e t m p f
fill_back (Items ∷ s) EndCollection t m p f = (NoTrees, m, refl, refill m p f)
fill_back (Items ∷ s) e t m p f = on_item s _ (on_value (Items ∷ s) e t m p f)
fill_back (Pairs ∷ s) EndCollection t m p f = (NoMembers, m, refl, refill m p f)
fill_back (Pairs ∷ s) (ScalarEvent (trees.String k)) t m p f = on_pair k s m (refill m p f)
fill_back (Pairs ∷ s) e t m p f = no_stack t p

run_along : (o : Option Stack) (s : Stack) (e : PlainEvent) (t : Stack) (es more : List PlainEvent)
    → step s e ≡ o → option_and_then (λ u. steps u es) o ≡ Some t
    → ((u : Stack) → steps u es ≡ Some t → Fills u more) → Fills s (without_length e ∷ more)
run_along None s e t es more q p next = no_stack t p
run_along (Some u) s e t es more q p next = fill_back s e u more q (next u p)

-- some events and what fills the stack after them fill the stack before them
pub run_back : (es more : List PlainEvent) (s t : Stack) → steps s es ≡ Some t
    → Fills t (map without_length more) → Fills s (map without_length (es ++ more))
run_back [] more s t p f = refill (map without_length more) p f
run_back (e ∷ es) more s t p f =
    run_along (step s e) s e t es (map without_length (es ++ more)) refl p
    (λ u q. run_back es more u t q f)

-- ---- a tree's events fill the expectation of one value, and nothing more

item_begins : (t : Tree) (s : Stack) (es : List PlainEvent)
    → steps (Items ∷ s) (bracketing t ++ es) ≡ steps (OneValue ∷ Items ∷ s) (bracketing t ++ es)
item_begins (Leaf x) s es = refl
item_begins (Array ts) s es = refl
item_begins (Dictionary ms) s es = refl

mutual
  pub steps_tree : (t : Tree) (s : Stack) (es : List PlainEvent)
      → steps (OneValue ∷ s) (bracketing t ++ es) ≡ steps s es
  steps_tree (Leaf x) s es = refl
  steps_tree (Array ts) s es =
      ap (steps (Items ∷ s)) (append_assoc (bracketing_of_items ts) _ es) ∙ steps_items ts s _
  steps_tree (Dictionary ms) s es =
      ap (steps (Pairs ∷ s)) (append_assoc (bracketing_of_pairs ms) _ es) ∙ steps_pairs ms s _

  pub steps_items : (ts : Trees) (s : Stack) (es : List PlainEvent)
      → steps (Items ∷ s) (bracketing_of_items ts ++ es) ≡ steps (Items ∷ s) es
  steps_items NoTrees s es = refl
  steps_items (TreeAnd t ts) s es =
      ap (steps (Items ∷ s)) (append_assoc (bracketing t) _ es) ∙ item_begins t s _
      ∙ steps_tree t (Items ∷ s) _ ∙ steps_items ts s es

  pub steps_pairs : (ms : Members) (s : Stack) (es : List PlainEvent)
      → steps (Pairs ∷ s) (bracketing_of_pairs ms ++ es) ≡ steps (Pairs ∷ s) es
  steps_pairs NoMembers s es = refl
  steps_pairs (MemberAnd k t ms) s es =
      ap (steps (OneValue ∷ Pairs ∷ s)) (append_assoc (bracketing t) _ es)
      ∙ steps_tree t (Pairs ∷ s) _ ∙ steps_pairs ms s es
