-- A value that is built from the events that are copied to a builder.
use Rattle.std.proofs.Common.{◌≡◌, ℕ, List, [], ◌∷◌, ◌++◌, Option, None, Some, Result, Ok, map, refl, sym, subst}
use Rattle.std.proofs.iter.Next as it
use Rattle.std.specs.Iterator.{Yields}
use Rattle.plist_base.specs.declared.error.Error.{Error}
use Rattle.plist_base.specs.declared.source.Source.{Ghosts}
use Rattle.plist_base.specs.Copying.{Copies, CopiesAll}
use Rattle.plist_base.specs.Events.{PlainEvent, Item}
use Rattle.plist_base.specs.VisitedItems.{NoneLeft}
use Rattle.plist_base.specs.Visits.{PlainItem, YieldsPlain}
use Rattle.plist_reader.specs.declared.reader.Reader.{Reader}
use Rattle.plist_reader.specs.Reader.{Gives, reader_items}
use Rattle.plist_reader.proofs.ReaderItems.{reader_comes}
use Rattle.plist.specs.declared.stream.builder.Builder.{Builder}
use Rattle.plist.specs.declared.value.Value.{Value}
use Rattle.plist.specs.Builder.{IsBuildingStep, built_of}
use Rattle.plist.specs.Building.{complete_tree, nothing_built}
use Rattle.plist.specs.Collecting.{Collects, item_by}
use Rattle.plist.specs.ValueOfItems.{IsReadIfKnown, IsValueOf}
use Rattle.plist.specs.ValueTrees.{tree_of}
use Rattle.plist.proofs.BuilderItems.{TookAll, finished, seen-more, took-more, took-none}
use Rattle.plist.proofs.PredictedItems.{as-seen, predicted}

-- what contracts see of an item that a source yields
abbrev see : Result PlainEvent Error → Item
see = item_by (λ (event : PlainEvent). event)

module _ {I : Type 0} (yields : I → PlainItem → I → Type 0) where
  -- the events that were copied so far were taken
  record HasTaken (first : I) (now : I × Builder) : Type 0 where
    taken : List (Result PlainEvent Error)
    gave : Yields yields first taken now.0
    holds : TookAll (map see taken) (built_of now.1)

  taken_all : (first : I) (now new : I × Builder) (events : List PlainEvent) → HasTaken first now
      → CopiesAll yields IsBuildingStep now events new → HasTaken first new
  taken_all first now new [] here is = subst (HasTaken first) (sym is) here
  taken_all first now new (event ∷ events) here (next, one, others) =
      taken_all first next new events (record {
        taken = here.taken ++ Ok event ∷ [];
        gave = it.Yields-more yields first here.taken now.0 (Ok event) next.0 here.gave one.given;
        holds = seen-more see here.taken (Ok event) (λ xs. TookAll xs (built_of next.1))
            (took-more (map see here.taken) (Ok event) (built_of now.1) (built_of next.1) here.holds
            one.written.added);
      }) others

  -- if all events were copied, a complete tree is the value of the source's items
  copied_items : (old new : I × Builder) (value : Value) → built_of old.1 ≡ nothing_built
      → Copies yields IsBuildingStep old (Ok tt) new
      → complete_tree (built_of new.1).unfinished ≡ Some (tree_of value)
      → Collects (λ (event : PlainEvent). event) yields old.0 (Ok (tree_of value))
  copied_items old new value empty copies complete =
      let all = taken_all old.0 old copies.left copies.events
      (record { taken = []; gave = refl; holds = took-none (built_of old.1) empty }) copies.copied in (
        new.0,
        (
          all.taken,
          copies.left.0,
          all.gave,
          finished (new.0 ≡ copies.left.0) (yields copies.left.0 None new.0) (map see all.taken)
              (built_of new.1) (Ok value) copies.ended.0
              (subst (λ b. TookAll (map see all.taken) (built_of b)) (sym copies.ended.1) all.holds)
              complete tt,
        ),
      )

-- the value of a builder to which a reader's events were copied is the value of its items
pub copied_value : {R : Type 0} {g : Ghosts R} (known : R → Option (List ℕ)) (failed : R → ℕ)
    (reader left : Reader R g) (items : List Item) (before after : Builder) (value : Value)
    → reader_items known reader ≡ Some items → built_of before ≡ nothing_built → (done : Unit {0})
    → Copies (YieldsPlain (Gives known failed)) IsBuildingStep (reader, before) (Ok done)
    (left, after) → complete_tree (built_of after).unfinished ≡ Some (tree_of value)
    → IsValueOf items (Ok (tree_of value))
copied_value known failed reader left items before after value coming empty tt copies complete =
    subst (λ o. IsReadIfKnown o (Ok (tree_of value))) coming
    (as-seen (λ (event : PlainEvent). event) (YieldsPlain (Gives known failed)) (reader_items known)
    (λ old item new yields. predicted (λ (event : PlainEvent). event) NoneLeft NoneLeft
    (reader_items known old) (reader_items known new) item
    (reader_comes known failed old item new yields))
    reader (Ok (tree_of value))
    (copied_items (YieldsPlain (Gives known failed)) (reader, before) (left, after) value empty copies
    complete))
