-- A writer that takes one list of events after another.
use Rattle.std.proofs.Common.{◌≡◌, List, [], ◌∷◌, ◌++◌, length, map, refl, append_assoc, arith}
use Rattle.plist_base.specs.Bracketing.{bracketing, bracketing_of_items}
use Rattle.plist_base.specs.Events.{PlainEvent, EndCollection}
use Rattle.plist_base.specs.Trees.{Tree, trees_of, number_of_trees}
use Rattle.plist_base.specs.Writing.{Answer}
use Rattle.plist.specs.WrittenEvents.{TakesAll}
use Rattle.plist_uses.specs.declared.generated.Reading.{Reading}
use Rattle.plist_uses.specs.Generated.{reading_tree}

-- what a look-up returns at an index that has no reading
abbrev pub none : Reading
none = record { second = 0; level = 0 }

-- the events of an array's remaining items, and its end
abbrev pub events_left : List Tree → List PlainEvent
events_left trees = bracketing_of_items (trees_of trees) ++ EndCollection ∷ []

pub number : (readings : List Reading)
    → length readings ≡ number_of_trees (trees_of (map reading_tree readings))
number [] = refl
number (reading ∷ readings) = omega (arith, number readings)

module _ {S : Type 0} (Step : S → PlainEvent → Answer → S → Type 0) where
  took-more : (first second : List PlainEvent) (before between after : S)
      → TakesAll Step before first between → TakesAll Step between second after
      → TakesAll Step before (first ++ second) after
  took-more [] second before between after is more = rw is more
  took-more (event ∷ first) second before between after (next, step, took) more =
      (next, step, took-more first second next between after took more)

  -- an item is written, and then those after it
  pub item-more : (tree : Tree) (trees : List Tree) (before between after : S)
      → TakesAll Step before (bracketing tree) between
      → TakesAll Step between (events_left trees) after
      → TakesAll Step before (events_left (tree ∷ trees)) after
  item-more tree trees before between after took more =
      rw (append_assoc (bracketing tree) (bracketing_of_items (trees_of trees))
      (EndCollection ∷ []))
      (took-more (bracketing tree) (events_left trees) before between after took more)
