-- What is expected after the events that were taken so far, if their order is asked for.
use Rattle.std.proofs.Common.{◌≡◌, true, append_assoc, List, [], ◌∷◌, ◌++◌, Some, option_and_then, refl, sym, ap, ◌∙◌}
use Rattle.std.proofs.lemmas.Option.{same_Some}
use Rattle.plist_base.specs.Bracketing.{AreAlike, AreTreeEvents, CanContinue, bracketing}
use Rattle.plist_base.specs.Events.{PlainEvent, kind_of_event}
use Rattle.plist_base.specs.Faults.{FaultKind, ExpectedEndOfEventStream, UnexpectedEventType}
use Rattle.plist_base.specs.Trees.{Boolean, Leaf, Tree}
use Rattle.plist_base.proofs.Lengths.{alike_with, continue_alike}
use Rattle.plist_buffer.specs.declared.expects.Expect.{Expect}
use Rattle.plist_buffer.specs.declared.expects.Expect.TheVariants.{OneValue}
use Rattle.plist_buffer.specs.declared.expects.Transition.TheVariants.{Refused}
use Rattle.plist_buffer.specs.Expects.{expected_after, step, transition_of}
use Rattle.plist_buffer.proofs.Grammar.{all_taken, bracketed, can_continue, steps_snoc, wanted_alike}
use Rattle.plist.specs.Building.{Unfinished, NotBegun, Within, Complete, IsNested, events_so_far, expected_within, if_refused, kind_expected, refusal_at, refusal_of}
use Rattle.plist_c.specs.Reading.{CanBeginTree}
use Rattle.plist.proofs.Following.{complete, continues-accepted, expected, stack_of, taken_before}

-- no event begins a tree
pub begins_none : CanBeginTree []
begins_none = (bracketing (Leaf (Boolean true)), Leaf (Boolean true), refl)

-- events and one that can follow them begin a tree
pub begins_next : (done : List PlainEvent) (event : PlainEvent) → CanContinue done event
    → CanBeginTree (done ++ event ∷ [])
begins_next done event (more, tree, alike) = (more, tree, rw append_assoc alike)

-- the events begin a value, and this stack is expected after them
pub record IsExpected (done : List PlainEvent) (stack : List Expect) : Type 0 where
  pub unfinished : Unfinished
  pub nested : IsNested unfinished
  pub alike : AreAlike (events_so_far unfinished) done
  pub begins : CanBeginTree done
  pub after : expected_after done ≡ Some stack

pub expected_first : (stack : List Expect) → stack ≡ OneValue ∷ [] → IsExpected [] stack
expected_first stack is =
    record {
      unfinished = NotBegun;
      nested = tt;
      alike = refl;
      begins = begins_none;
      after = ap Some (sym is);
    }

-- the stack after one more event
stack_more : (done : List PlainEvent) (event : PlainEvent) (stack after : List Expect)
    → expected_after done ≡ Some stack → step stack event ≡ Some after
    → expected_after (done ++ event ∷ []) ≡ Some after
stack_more done event stack after is to =
    steps_snoc done (OneValue ∷ []) event ∙ ap (option_and_then (λ s. step s event)) is ∙ to

-- an event that leaves a stack can come next
pub comes_next : (done : List PlainEvent) (event : PlainEvent) (stack after : List Expect)
    → IsExpected done stack → step stack event ≡ Some after → CanContinue done event
comes_next done event stack after here to =
    can_continue done event after (stack_more done event stack after here.after to)

-- one more event is taken
pub expected_more : (done : List PlainEvent) (event : PlainEvent) (stack after : List Expect)
    → IsExpected done stack → step stack event ≡ Some after
    → IsExpected (done ++ event ∷ []) after
expected_more done event stack after here to =
    let u = here.unfinished in
    let can = (continue_alike (events_so_far u) done here.alike event).1
    (comes_next done event stack after here to) in
    let w = taken_before u event here.nested (continues-accepted u event here.nested can) in record {
      unfinished = w.0;
      nested = w.2;
      alike = w.3 ∙ alike_with (events_so_far u) done (event ∷ []) here.alike;
      begins = begins_next done event (comes_next done event stack after here to);
      after = stack_more done event stack after here.after to;
    }

-- if nothing more is expected, the events are those of a tree
pub whole_events : (done : List PlainEvent) (stack : List Expect) → IsExpected done stack
    → stack ≡ [] → AreTreeEvents done
whole_events done stack here is = bracketed done (here.after ∙ ap Some is)

-- if something is expected, they aren't
pub no_whole_events : (done : List PlainEvent) (top : Expect) (rest : List Expect)
    → IsExpected done (top ∷ rest) → (tree : Tree) → AreAlike done (bracketing tree) → ⊥
no_whole_events done top rest here tree alike =
    let is : ◌≡◌ {A = List Expect} [] (top ∷ rest) =
    same_Some _ _ (sym (all_taken done tree alike) ∙ here.after) in cc

-- the stack is that of the unfinished tree
stack_is : (done : List PlainEvent) (stack : List Expect) (here : IsExpected done stack)
    → stack_of here.unfinished ≡ stack
stack_is done stack here =
    same_Some _ _ (sym (expected here.unfinished here.nested)
    ∙ wanted_alike (events_so_far here.unfinished) done here.alike ∙ here.after)

-- an event after a whole value is rejected as a surplus one
pub refused_at_end : (done : List PlainEvent) (event : PlainEvent) (here : IsExpected done [])
    → refusal_at here.unfinished event ≡ Some (ExpectedEndOfEventStream (kind_of_event event))
refused_at_end done event here =
    let (tree, alike) = whole_events done [] here refl in
    ap (λ u. refusal_at u event) (complete here.unfinished tree here.nested (here.alike ∙ alike))

-- an event that the top of the stack rejects is rejected with what is expected there
pub refused_at_top : (done : List PlainEvent) (event : PlainEvent) (top : Expect)
    (rest : List Expect) (here : IsExpected done (top ∷ rest)) → transition_of top event ≡ Refused
    → refusal_at here.unfinished event
    ≡ Some (UnexpectedEventType (kind_expected top) (kind_of_event event))
refused_at_top done event top rest here refused =
    by here.unfinished (stack_is done (top ∷ rest) here)
  where
    kind : FaultKind
    kind = UnexpectedEventType (kind_expected top) (kind_of_event event)

    of_top : (found : Expect) → found ≡ top → refusal_of found event ≡ Some kind
    of_top found is = rw is (ap (λ change. if_refused change kind) refused)

    by : (u : Unfinished) → stack_of u ≡ top ∷ rest → refusal_at u event ≡ Some kind
    by NotBegun is = of_top OneValue (cc)
    by (Within collection outer) is = of_top (expected_within collection) (cc)
    by (Complete tree) is = absurd (cc)
