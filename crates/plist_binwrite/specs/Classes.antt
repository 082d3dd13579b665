-- Classes of the indices at which trees begin, and files that have one object for each class.
use Rattle.std.specs.Prelude.{◌≡◌, ℕ, ◌+◌, ◌^◌, ◌<◌, List, length, map, nat_eq, slice_index, zip, ⊤}
use Rattle.std.specs.List.{sum_by}
use Rattle.std.specs.Option.{unwrap_or}
use Rattle.std.specs.Set.{unique_keys}
use Rattle.plist_base.specs.Bracketing.{lengthless}
use Rattle.plist_base.specs.Events.{PlainEvent}
use Rattle.plist_base.specs.Trees.{Tree, Leaf, Array, Dictionary}
use Rattle.plist_base.specs.Object as obj
use Rattle.plist_base.specs.Object.{Object}
use Rattle.plist_base.specs.Unfolding.{visits}
use Rattle.plist_binwrite.specs.Sizes.{HasObjects, collections_in, object_size, size_with}
use Rattle.plist_binwrite.specs.SendingAs.{FileKind}
use Rattle.plist_buffer.specs.EventTable.{HasItem, collection_number, count_collections, item_indices, key_indices, lists_in, plain_events, scalars_of, value_indices}
use Rattle.plist_buffer.specs.declared.event_table.EventTable.{EventTable}
use Rattle.plist_buffer.specs.inner.Columns.{scalar_named}
use Rattle.plist_buffer.specs.inner.Entries.{entry_at}
use Rattle.plist_buffer.specs.Occurrences.{OccursAt, positions}
use Rattle.plist_binwrite.specs.Forms.{reference_width}
use Rattle.plist_binwrite.specs.Written.{IsWrittenAs}
use Rattle.plist_binwrite.specs.declared.classes.ClassList.{ClassList}
use Rattle.plist_binwrite.specs.declared.classes.Classed.{Classed}
use Rattle.plist_binwrite.specs.declared.classes.Classes.TheVariants.{EqualScalars, Listed}

-- the object of the tree that begins at index p, if `num` maps the index of an event to the number
-- of its object
abbrev pub object_of : (num : ℕ → ℕ) → Tree → ℕ → Object
object_of num (Leaf x) p = obj.Scalar x
object_of num (Array ts) p = obj.Array (map num (item_indices ts (p + 1)))
object_of num (Dictionary ms) p =
    obj.Dictionary (zip (map num (key_indices ms (p + 1))) (map num (value_indices ms (p + 1))))

-- these are the objects of the trees among the events, by their numbers
abbrev pub Describes : List PlainEvent → (number : ℕ → ℕ) → (ℕ → Object) → Type 0
Describes es number objects = (t : Tree) (p : ℕ) → OccursAt es t p
    → objects (number p) ≡ object_of number t p

-- if the class of an index is taken as its object number, trees that begin at indices of one class
-- have the same object
pub record AreClasses (es : List PlainEvent) (class : ℕ → ℕ) : Type 0 where
  pub object : (t u : Tree) (p q : ℕ) → OccursAt es t p → OccursAt es u q → class p ≡ class q
      → object_of class t p ≡ object_of class u q

module _ (class : ℕ → ℕ) where
  -- one position of each class, with its tree
  abbrev pub representatives : Tree → List (ℕ × Tree)
  representatives tree = unique_keys (λ a b. nat_eq (class a.0) (class b.0)) (positions tree 0)

  -- the number of objects in a file with one for each class
  abbrev pub count_by : Tree → ℕ
  count_by tree = length (representatives tree)

  -- the number of bytes of the objects, one for each class
  abbrev pub objects_by : (width : ℕ) → Tree → ℕ
  objects_by width tree = sum_by (λ one. object_size width one.1) (representatives tree)

  -- the number of bytes of a file with one object for each class
  abbrev pub size_by : Tree → ℕ
  size_by tree = size_with (count_by tree) (objects_by (reference_width (count_by tree)) tree)

  -- the bytes are a file of the tree with one object for each class: each index has an object
  -- number, which differs between classes, and the walk enters the collections by these numbers
  pub record IsFileBy (tree : Tree) (file : List ℕ) : Type 0 where
    pub numbers : ℕ → ℕ
    pub apart : (t u : Tree) (p q : ℕ) → OccursAt (lengthless tree) t p
        → OccursAt (lengthless tree) u q
        → numbers p ≡ numbers q → class p ≡ class q
    pub entered : visits file ≡ map (λ one. numbers one.0) (collections_in tree)
    pub written : IsWrittenAs tree file
    pub count : HasObjects file (count_by tree)
    pub size : length file ≡ size_by tree
    pub fits : size_by tree < 2 ^ 64

  -- the files with one object for each class
  abbrev pub files_by : FileKind
  files_by = record { IsFile = IsFileBy; size = size_by }

-- the events, without the lengths of starts
abbrev pub events_in : Classed → List PlainEvent
events_in given = plain_events given.events.now

-- the class of the event at an index: that of a scalar is its index among the different scalars,
-- and `class` says that of a collection by its number
abbrev pub class_by : (class : (collection : ℕ) → ℕ) → EventTable → (index : ℕ) → ℕ
class_by class held index =
    unwrap_or (scalar_named (lists_in held) (entry_at held.entries index))
    (class (collection_number held index))

-- the class of the event at an index, if each collection has a class of its own
abbrev pub scalar_class : EventTable → (index : ℕ) → ℕ
scalar_class held = class_by (λ collection. length (scalars_of held) + collection) held

-- the class of the event at an index, if the classes of collections are listed
abbrev pub listed_class : ClassList → EventTable → (index : ℕ) → ℕ
listed_class list held = class_by (slice_index list.by_collection) held

-- the list has a class for each collection
abbrev pub HasEachCollection : ClassList → EventTable → Type 0
HasEachCollection list held = length list.by_collection ≡ count_collections held

-- the class of the event at an index
abbrev pub class_in : Classed → (index : ℕ) → ℕ
class_in given = elim given.classes.now [
  | EqualScalars ↦ scalar_class given.events.now
  | Listed list ↦ listed_class list given.events.now
]

-- an exclusive upper bound of the classes
abbrev pub bound_in : Classed → ℕ
bound_in given = elim given.classes.now [
  | EqualScalars ↦ length (scalars_of given.events.now) + count_collections given.events.now
  | Listed list ↦ list.bound
]

-- if the classes are listed, the list has one for each collection
abbrev pub IsListed : Classed → Type 0
IsListed given = elim given.classes.now [
  | EqualScalars ↦ ⊤
  | Listed list ↦ HasEachCollection list given.events.now
]

-- each tree has a class below the bound, each number below the bound is the class of a tree, and
-- trees of one class have the same object
pub record IsClassed (given : Classed) : Type 0 where
  pub listed : IsListed given
  pub below : (p : ℕ) → HasItem (events_in given) p → class_in given p < bound_in given
  pub used : (k : ℕ) → k < bound_in given
      → (p : ℕ) × HasItem (events_in given) p × (class_in given p ≡ k)
  pub objects : AreClasses (events_in given) (class_in given)
