-- What is buffered of the items that a reader has yielded.
use Rattle.std.proofs.Common.{◌≡◌, ◌↔◌, ℕ, Bool, true, false, List, [], ◌∷◌, ◌++◌, Option, Some, None, Ok, Err, IfSome, map, refl, sym, ap, ◌∙◌, append-nil, append_assoc}
use Rattle.std.specs.Option.{option_map}
use Rattle.plist_base.specs.Bracketing.{bracketing, without_length, AreAlike, CanContinue}
use Rattle.plist_base.specs.Events.{PlainEvent, Item}
use Rattle.plist_base.specs.VisitedItems.{NoneLeft, YieldsFirst}
use Rattle.plist_base.proofs.FirstItems.{first_weaker}
use Rattle.std.specs.Bool.{⊤}
use Rattle.plist_base.specs.declared.error.Error.{Error}
use Rattle.plist_base.specs.Faults.{fault_of}
use Rattle.plist_base.specs.Trees.{Tree, Leaf, Array, Dictionary}
use Rattle.plist_base.proofs.Lengths.{alike_last, alike_with, continue_alike, whole_alike}
use Rattle.plist_buffer.proofs.Grammar.{complete_of_whole}
use Rattle.plist_base.specs.Writing.{Answer}
use Rattle.plist_buffer.specs.RepeatedKeys.{HasKeysOnce}
use Rattle.plist_buffer.specs.EventBuffers.{TestsWhole}
use Rattle.plist_binwrite.specs.SendingAs.{SendsAs}
use Rattle.plist_binwrite.specs.Files.{least_files}
use Rattle.plist_reader.specs.Reader.{items_of_input}
use Rattle.plist.specs.Building.{Unfinished, IsNested, events_so_far}
use Rattle.plist.specs.ValueOfItems.{AreItemsOfTree, IsValueOf}
use Rattle.plist.specs.LastWins.{last_wins}
use Rattle.plist.proofs.Following.{taken_before, continues-accepted}
use Rattle.plist.proofs.EventTables.{sends_tree}
use Rattle.plist.proofs.PredictedItems.{all-events, event-more, no-events, stops-there}
use Rattle.plist.proofs.KeysOnce.{keys-once}
use Rattle.plist_keyed.proofs.WalkValues.{same_of}
use Rattle.plist_commands.specs.Converting.{HoldsTree, BytesHaveKeysOnce, SendsRead}

-- ---- whether the buffered events are those of a tree

no_tree : (t : Tree) → AreAlike [] (bracketing t) → ⊥
no_tree (Leaf x) p = cc
no_tree (Array ts) p = cc
no_tree (Dictionary ms) p = cc

pub tells_none : (b : Bool) (held : List PlainEvent) → b ≡ false → held ≡ [] → TestsWhole b held
tells_none b held is none =
    rw is (λ w. no_tree w.0 (sym (ap (map without_length) none) ∙ w.1))

tells_alike : (b : Bool) (left right : List PlainEvent) → AreAlike left right → TestsWhole b left
    → TestsWhole b right
tells_alike true left right p t = complete_of_whole right (whole_alike left right p t.0)
tells_alike false left right p t = λ w. t (whole_alike right left (sym p) w)

pub tells_next : (b : Bool) (held new : List PlainEvent) (e : PlainEvent)
    → new ≡ held ++ without_length e ∷ [] → TestsWhole b (held ++ e ∷ []) → TestsWhole b new
tells_next b held new e is =
    tells_alike b (held ++ e ∷ []) new (sym (ap (map without_length) is ∙ alike_last held e))

-- ---- the events so far

-- these are the events of an unfinished tree so far, apart from the lengths of starts
pub record IsBuilt (events : List PlainEvent) : Type 0 where
  pub built : Unfinished
  pub nested : IsNested built
  pub alike : AreAlike (events_so_far built) events

pub built_more : (events : List PlainEvent) (e : PlainEvent) → IsBuilt events → CanContinue events e
    → IsBuilt (events ++ e ∷ [])
built_more events e b can =
    let w = taken_before b.built e b.nested (continues-accepted b.built e b.nested
    ((continue_alike (events_so_far b.built) events b.alike e).1 can)) in
    record {
      built = w.0;
      nested = w.2;
      alike = w.3 ∙ alike_with (events_so_far b.built) events (e ∷ []) b.alike;
    }

module _ (all before : List Item) (events : List PlainEvent) (is : all ≡ map Ok events ++ before)
  where
    -- the reader yielded an error
    pub built_fault : (after : List Item) (error : Error) → IsBuilt events
        → YieldsFirst before (Some (Err error)) after → IsValueOf all (Err (fault_of error))
    built_fault after error b first =
        stops-there (λ event. event) all before after events b.built (Err error) (fault_of error)
        b.nested b.alike is (first_weaker (λ event. event) NoneLeft NoneLeft (λ _ _. ⊤) (λ _ _. ⊤)
        (λ _ _ _. tt) (λ _ _ _. tt) before after (Some (Err error)) first) refl

    -- if the items are those of a tree, the next event can follow these events
    pub goes_on : (after : List Item) (e : PlainEvent) → before ≡ Ok e ∷ after → (tree : Tree)
        → AreItemsOfTree all tree → CanContinue events e
    goes_on after e b tree (others, same, whole) =
        let (more, rest, parts) = all-events (events ++ e ∷ []) others after
        (sym (is ∙ ap (λ l. map Ok events ++ l) b ∙ event-more events e after) ∙ same) in (
          more,
          tree,
          ap (map without_length) (sym (append_assoc events (e ∷ []) more) ∙ sym parts) ∙ whole,
        )

    -- at the end, the items are those of the tree with these events
    pub held_at_end : before ≡ [] → (tree : Tree) → AreAlike events (bracketing tree)
        → AreItemsOfTree all tree
    held_at_end none tree whole =
        (events, is ∙ ap (λ l. map Ok events ++ l) none ∙ append-nil (map Ok events), whole)

    -- at the end, if the items are those of a tree, so are these events
    pub whole_at_end : before ≡ [] → (tree : Tree) → AreItemsOfTree all tree
        → AreAlike events (bracketing tree)
    whole_at_end none tree (others, same, whole) =
        let (more, rest, parts) = all-events events others []
        (sym (is ∙ ap (λ l. map Ok events ++ l) none) ∙ same) in
        ap (map without_length) (sym (parts ∙ ap (λ l. events ++ l) (no-events more rest)
        ∙ append-nil events)) ∙ whole

-- ---- what is written

pub not_direct : (known : Option (List ℕ)) (held : List PlainEvent)
    → HoldsTree (option_map items_of_input known) held → (repeats : Bool)
    → ((tree : Tree) → AreAlike held (bracketing tree) → (repeats ≡ false) ↔ HasKeysOnce tree)
    → (repeats ≡ false → ⊥) → IfSome known (λ bytes. BytesHaveKeysOnce bytes → ⊥)
not_direct None held h repeats once repeated = tt
not_direct (Some bytes) held (_, (t, are, alike)) repeats once repeated =
    λ (tree, of, last).
    let same : t ≡ tree = same_of (items_of_input bytes) t tree are of in
    repeated ((once t alike).1 ((keys-once t).1 (ap last_wins same ∙ last ∙ sym same)))

pub sends_read : (known : Option (List ℕ)) (held : List PlainEvent)
    → HoldsTree (option_map items_of_input known) held
    → {W : Type 0} (contents : W → Option (List ℕ)) (answer : Answer) (old new : W)
    → ((tree : Tree) → AreAlike held (bracketing tree) → HasKeysOnce tree)
    → SendsAs least_files contents held answer old new → SendsRead contents known answer old new
sends_read None held ((t, alike), _) contents answer old new once sent =
    (t, tt, sends_tree t held alike contents old new answer sent)
sends_read (Some bytes) held (_, (t, are, alike)) contents answer old new once sent = (
  t,
  (t, are, sym ((keys-once t).0 (once t alike))),
  sends_tree t held alike contents old new answer sent,
)

-- known bytes whose items aren't those of a tree aren't a property list without repeated keys
pub not_read : (known : Option (List ℕ))
    → IfSome (option_map items_of_input known) (λ all. (tree : Tree) → AreItemsOfTree all tree → ⊥)
    → IfSome known (λ bytes. BytesHaveKeysOnce bytes → ⊥)
not_read None h = tt
not_read (Some bytes) h = λ (tree, of, last). h tree of
