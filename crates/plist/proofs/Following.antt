-- Which events can follow those of a builder, and what it contains then.
use Rattle.std.proofs.Common.{◌≡◌, ℕ, List, [], ◌∷◌, ◌++◌, Option, Some, None, MatchOption, map, refl, sym, ap, ◌∙◌, append_assoc, append-nil, subst, option_and_then}
use Rattle.std.proofs.lemmas.Option.{none-some}
use Rattle.plist_base.specs.Events.{PlainEvent, StartArray, StartDictionary, EndCollection, ScalarEvent}
use Rattle.plist_base.specs.Faults.{FaultKind}
use Rattle.plist_base.specs.Trees.{Tree, Leaf, Array, Dictionary, trees_of, members_of, String}
use Rattle.plist_base.specs.Bracketing.{bracketing, bracketing_of_items, bracketing_of_pairs, without_length, AreAlike, CanContinue, ContinueAlike}
use Rattle.plist_base.proofs.Lengths.{alike_behind, continue_alike}
use Rattle.plist_buffer.proofs.Grammar.{all_taken, can_continue, continues, none_is, steps_snoc, wanted_alike}
use Rattle.plist.specs.LastWins.{TreePairs}
use Rattle.plist.specs.Building.{OpenCollection, InArray, InDictionary, AfterKey, Unfinished, NotBegun, Within, Complete, events_within, events_around, events_so_far, expected_within, if_refused, refusal_of, refusal_at, AllTakeValue, IsNested, TakesValue, last_wins_within, last_wins_so_far, complete_tree}
use Rattle.plist.specs.inner.BuilderSteps.{and_tree, at_value, in_array, in_dictionary, and_event}
use Rattle.plist.proofs.BuilderLaws.{and_pair}
use Rattle.plist_buffer.specs.declared.expects.Expect.{Expect}
use Rattle.plist_buffer.specs.declared.expects.Expect.TheVariants.{OneValue, Items, Pairs}
use Rattle.plist_buffer.specs.declared.expects.Transition.{Transition}
use Rattle.plist_buffer.specs.declared.expects.Transition.TheVariants.{Refused}
use Rattle.plist_buffer.specs.Expects.{transition_of, changed, step, steps, expected_after}
use Rattle.plist_base.proofs.OneTree.{one_tree}
use Rattle.plist_buffer.proofs.Stacks.{Stack, steps_items, steps_pairs}

-- one more item adds its events at the end
items-append : (ts : List Tree) (t : Tree)
    → bracketing_of_items (trees_of (ts ++ t ∷ [])) ≡ bracketing_of_items (trees_of ts)
    ++ bracketing t
items-append [] t = append-nil (bracketing t)
items-append (u ∷ ts) t =
    ap (λ l. bracketing u ++ l) (items-append ts t)
    ∙ sym (append_assoc (bracketing u) (bracketing_of_items (trees_of ts)) (bracketing t))

-- one more pair adds its key and the events of its value at the end
pairs-append : (ps : TreePairs) (k : List ℕ) (t : Tree)
    → bracketing_of_pairs (members_of (ps ++ (k, t) ∷ [])) ≡ bracketing_of_pairs (members_of ps)
    ++ ScalarEvent (String k) ∷ bracketing t
pairs-append [] k t = ap (λ l. ScalarEvent (String k) ∷ l) (append-nil (bracketing t))
pairs-append (p ∷ ps) k t =
    ap (λ l. ScalarEvent (String p.0) ∷ (bracketing p.1 ++ l)) (pairs-append ps k t)
    ∙ ap (λ l. ScalarEvent (String p.0) ∷ l)
    (sym (append_assoc (bracketing p.1) (bracketing_of_pairs (members_of ps))
    (ScalarEvent (String k) ∷ bracketing t)))

-- a tree that is completed inside collections that take values adds its events
tree-goes : (t : Tree) (outer : List OpenCollection) → AllTakeValue outer
    → IsNested (and_tree and_pair t outer)
    × (events_so_far (and_tree and_pair t outer) ≡ events_around outer ++ bracketing t)
tree-goes t [] ok = (tt, refl)
tree-goes t (InArray ts ∷ outer) ok = (
  ok.1,
  ap (λ l. events_around outer ++ StartArray None ∷ l) (items-append ts t)
      ∙ sym (append_assoc (events_around outer) (StartArray None
      ∷ bracketing_of_items (trees_of ts))
      (bracketing t)),
)
tree-goes t (InDictionary ps ∷ outer) ok = absurd ok.0
tree-goes t (AfterKey ps k ∷ outer) ok =
    let before = bracketing_of_pairs (members_of ps) in (
      ok.1,
      ap (λ l. events_around outer ++ StartDictionary None ∷ l) (pairs-append ps k t
          ∙ sym (append_assoc before (ScalarEvent (String k) ∷ []) (bracketing t)))
          ∙ sym (append_assoc (events_around outer)
          (StartDictionary None ∷ (before ++ ScalarEvent (String k) ∷ [])) (bracketing t)),
    )

-- the event is rejected, or the unfinished tree after it has the events so far and this one, apart
-- from lengths
abbrev Follows : Option FaultKind → List PlainEvent → PlainEvent → Option Unfinished → Type 0
Follows refusal before e unfinished = MatchOption unfinished (refusal ≡ None → ⊥)
    (λ w. IsNested w × AreAlike (events_so_far w) (before ++ e ∷ []))

-- where a value is expected, each event follows as `Follows` says
value-goes : (outer : List OpenCollection) (e : PlainEvent) → AllTakeValue outer
    → Follows (refusal_of OneValue e) (events_around outer) e (at_value and_pair outer e)
value-goes outer (StartArray n) ok =
    (ok, alike_behind (events_around outer) (StartArray None ∷ []) (StartArray n ∷ []) refl)
value-goes outer (StartDictionary n) ok = (
  ok,
  alike_behind (events_around outer) (StartDictionary None ∷ [])
      (StartDictionary n ∷ []) refl,
)
value-goes outer EndCollection ok = λ p. none-some _ (sym p)
value-goes outer (ScalarEvent x) ok =
    let t = tree-goes (Leaf x) outer ok in (t.0, ap (map without_length) t.1)

-- a collection's end completes its tree, whose events begin with the collection's start
closed-goes : (t : Tree) (start : PlainEvent) (inside : List PlainEvent)
    (outer : List OpenCollection) → AllTakeValue outer
    → AreAlike (bracketing t) (start ∷ (inside ++ EndCollection ∷ []))
    → Follows None (events_around outer ++ start ∷ inside) EndCollection
    (Some (and_tree and_pair t outer))
closed-goes t start inside outer ok alike =
    let g = tree-goes t outer ok in (
      g.0,
      ap (map without_length) g.1 ∙ alike_behind (events_around outer) _ _ alike
          ∙ sym (ap (map without_length)
          (append_assoc (events_around outer) (start ∷ inside) (EndCollection ∷ []))),
    )

-- inside an array, each event follows as `Follows` says
array-goes : (ts : List Tree) (outer : List OpenCollection) (e : PlainEvent) → AllTakeValue outer
    → Follows (refusal_of Items e) (events_around outer ++ events_within (InArray ts)) e
    (in_array and_pair ts outer e)
array-goes ts outer EndCollection ok =
    closed-goes (Array (trees_of ts)) (StartArray None) _ outer ok refl
array-goes ts outer e ok = value-goes (InArray ts ∷ outer) e (tt, ok)

-- where a key is expected, each event follows as `Follows` says
dictionary-goes : (ps : TreePairs) (outer : List OpenCollection) (e : PlainEvent)
    → AllTakeValue outer
    → Follows (refusal_of Pairs e) (events_around outer ++ events_within (InDictionary ps)) e
    (in_dictionary and_pair ps outer e)
dictionary-goes ps outer EndCollection ok =
    closed-goes (Dictionary (members_of ps)) (StartDictionary None) _ outer ok refl
dictionary-goes ps outer (ScalarEvent (String s)) ok = (
  ok,
  sym (ap (map without_length) (append_assoc (events_around outer)
      (StartDictionary None ∷ bracketing_of_pairs (members_of ps)) (ScalarEvent (String s) ∷ []))),
)
dictionary-goes ps outer e ok = λ p. none-some _ (sym p)

-- after an unfinished tree, each event follows as `Follows` says
goes : (u : Unfinished) (e : PlainEvent) → IsNested u
    → Follows (refusal_at u e) (events_so_far u) e (and_event and_pair u e)
goes NotBegun e ok = value-goes [] e tt
goes (Within (InArray ts) outer) e ok = array-goes ts outer e ok
goes (Within (InDictionary ps) outer) e ok = dictionary-goes ps outer e ok
goes (Within (AfterKey ps k) outer) e ok = value-goes (AfterKey ps k ∷ outer) e (tt, ok)
goes (Complete t) e ok = λ p. none-some _ (sym p)

-- the unfinished tree after an event has the events before it and this one, apart from lengths
pub extended : (u : Unfinished) (e : PlainEvent) (w : Unfinished) → IsNested u
    → and_event and_pair u e ≡ Some w
    → IsNested w × AreAlike (events_so_far w) (events_so_far u ++ e ∷ [])
extended u e w ok p = subst (Follows (refusal_at u e) (events_so_far u) e) p (goes u e ok)

-- an event that isn't rejected is added
pub taken_before : (u : Unfinished) (e : PlainEvent) → IsNested u → refusal_at u e ≡ None
    → (w : Unfinished) × (and_event and_pair u e ≡ Some w) × IsNested w
    × AreAlike (events_so_far w) (events_so_far u ++ e ∷ [])
taken_before u e ok r = by (and_event and_pair u e) refl (goes u e ok)
  where
    by : (o : Option Unfinished) → and_event and_pair u e ≡ o
        → Follows (refusal_at u e) (events_so_far u) e o
        → (w : Unfinished) × (and_event and_pair u e ≡ Some w) × IsNested w
        × AreAlike (events_so_far w) (events_so_far u ++ e ∷ [])
    by None q g = absurd (g r)
    by (Some w) q g = (w, q, g.0, g.1)

-- ---- what is expected after the events so far

-- what is expected in a collection once the collection that is open in it is complete
abbrev pub expect_around : OpenCollection → Expect
expect_around (InArray items) = Items
expect_around (InDictionary pairs) = Pairs
expect_around (AfterKey pairs key) = Pairs

-- what is expected after what `expected_within` returns: if that is the value of a key, the other
-- pairs and then `round`, and otherwise `round` alone
abbrev pub stack_within : OpenCollection → (round : Stack) → Stack
stack_within (AfterKey pairs key) round = Pairs ∷ round
stack_within collection round = round

-- what is expected inside these collections, innermost first, or one value outside of all
abbrev pub stack_around : List OpenCollection → Stack
stack_around [] = OneValue ∷ []
stack_around (collection ∷ outer) =
    expected_within collection ∷ stack_within collection (map expect_around outer)

-- what is expected after the events of an unfinished tree
abbrev pub stack_of : Unfinished → Stack
stack_of NotBegun = stack_around []
stack_of (Within collection outer) = stack_around (collection ∷ outer)
stack_of (Complete tree) = []

-- after a start where a value is expected, the content of its collection is expected
starts : (outer : List OpenCollection) (es : List PlainEvent) → AllTakeValue outer
    → (steps (stack_around outer) (StartArray None ∷ es) ≡ steps (Items
    ∷ map expect_around outer) es)
    × (steps (stack_around outer) (StartDictionary None ∷ es) ≡ steps (Pairs
    ∷ map expect_around outer) es)
starts (InDictionary ps ∷ outer) es ok = absurd ok.0
starts outer es ok = (refl, refl)

-- after the start of a dictionary and its pairs, more pairs are expected
pairs-within : (ps : TreePairs) (outer : List OpenCollection) (es : List PlainEvent)
    → AllTakeValue outer
    → steps (stack_around outer) (events_within (InDictionary ps) ++ es) ≡ steps
    (Pairs ∷ map expect_around outer) es
pairs-within ps outer es ok =
    (starts outer (bracketing_of_pairs (members_of ps) ++ es) ok).1
    ∙ steps_pairs (members_of ps) (map expect_around outer) es

-- after the events of an open collection, its stack is expected
steps-within : (c : OpenCollection) (outer : List OpenCollection) (es : List PlainEvent)
    → AllTakeValue outer → steps (stack_around outer) (events_within c ++ es) ≡ steps
    (stack_around (c ∷ outer)) es
steps-within (InArray ts) outer es ok =
    (starts outer (bracketing_of_items (trees_of ts) ++ es) ok).0
    ∙ steps_items (trees_of ts) (map expect_around outer) es
steps-within (InDictionary ps) outer es ok = pairs-within ps outer es ok
steps-within (AfterKey ps k) outer es ok =
    ap (λ l. steps (stack_around outer) (StartDictionary None ∷ l))
    (append_assoc (bracketing_of_pairs (members_of ps)) (ScalarEvent (String k) ∷ []) es)
    ∙ pairs-within ps outer (ScalarEvent (String k) ∷ es) ok

-- after the events of open collections, their stack is expected
steps-round : (outer : List OpenCollection) (es : List PlainEvent) → AllTakeValue outer
    → expected_after (events_around outer ++ es) ≡ steps (stack_around outer) es
steps-round [] es ok = refl
steps-round (c ∷ outer) es ok =
    ap expected_after (append_assoc (events_around outer) (events_within c) es)
    ∙ steps-round outer (events_within c ++ es) ok.1 ∙ steps-within c outer es ok.1

-- after the events so far, `stack_of` is expected
pub expected : (u : Unfinished) → IsNested u → expected_after (events_so_far u) ≡ Some (stack_of u)
expected NotBegun ok = refl
expected (Within c outer) ok =
    steps-round outer (events_within c) ok
    ∙ ap (steps (stack_around outer)) (sym (append-nil (events_within c)))
    ∙ steps-within c outer [] ok
expected (Complete t) ok = all_taken (bracketing t) t refl

-- ---- an event that is rejected can't come next

-- a change that rejects an event leaves no stack
change-stops : (c : Transition) (kind : FaultKind) (top : Expect) (rest : Stack)
    → (if_refused c kind ≡ None → ⊥) → changed c top rest ≡ None
change-stops Refused kind top rest no_ = refl
change-stops c kind top rest no_ = absurd (no_ refl)

-- an event that is rejected where this is expected leaves no stack
top-stops : (top : Expect) (rest : Stack) (e : PlainEvent) → (refusal_of top e ≡ None → ⊥)
    → step (top ∷ rest) e ≡ None
top-stops top rest e no_ = change-stops (transition_of top e) _ top rest no_

-- an event that is rejected after an unfinished tree leaves no stack
stops : (u : Unfinished) (e : PlainEvent) → (refusal_at u e ≡ None → ⊥) → step (stack_of u) e ≡ None
stops NotBegun e no_ = top-stops OneValue [] e no_
stops (Within c outer) e no_ = top-stops (expected_within c) _ e no_
stops (Complete t) e no_ = refl

-- an event that is rejected can't come next
pub refused-ends : (u : Unfinished) (e : PlainEvent) → IsNested u → (refusal_at u e ≡ None → ⊥)
    → CanContinue (events_so_far u) e → ⊥
refused-ends u e ok no_ can =
    let g = continues (events_so_far u) e can in
    none_is (expected_after (events_so_far u ++ e ∷ [])) g.0
    (steps_snoc (events_so_far u) (OneValue ∷ []) e
    ∙ ap (option_and_then (λ s. step s e)) (expected u ok) ∙ stops u e no_) g.1

-- ---- an event that is added

-- an event after which there is an unfinished tree could come next
pub taken-continues : (u w : Unfinished) (e : PlainEvent) → IsNested w
    → AreAlike (events_so_far w) (events_so_far u ++ e ∷ []) → CanContinue (events_so_far u) e
taken-continues u w e ok a =
    can_continue (events_so_far u) e (stack_of w)
    (sym (wanted_alike (events_so_far w) (events_so_far u ++ e ∷ []) a) ∙ expected w ok)

-- an event that isn't rejected can come next
pub accepted-continues : (u : Unfinished) (e : PlainEvent) → IsNested u → refusal_at u e ≡ None
    → CanContinue (events_so_far u) e
accepted-continues u e ok r =
    let w = taken_before u e ok r in taken-continues u w.0 e w.2 w.3

-- an event that can come next isn't rejected
pub continues-accepted : (u : Unfinished) (e : PlainEvent) → IsNested u
    → CanContinue (events_so_far u) e → refusal_at u e ≡ None
continues-accepted u e ok c = by _ refl
  where
    by : (o : Option FaultKind) → refusal_at u e ≡ o → refusal_at u e ≡ None
    by None q = q
    by (Some kind) q = absurd (refused-ends u e ok (λ r. none-some _ (sym r ∙ q)) c)

-- taking last values doesn't change what can come next
pub refusal-last : (u : Unfinished) (e : PlainEvent)
    → refusal_at (last_wins_so_far u) e ≡ refusal_at u e
refusal-last (Within (InArray ts) outer) e = refl
refusal-last u e = refl

-- a collection that takes a value still takes one after `last_wins_within`
takes-last : (c : OpenCollection) → TakesValue c → TakesValue (last_wins_within c)
takes-last (InArray ts) ok = ok
takes-last c ok = ok

-- collections that take values still take them after `last_wins_within`
all-take-last : (outer : List OpenCollection) → AllTakeValue outer
    → AllTakeValue (map last_wins_within outer)
all-take-last [] ok = tt
all-take-last (c ∷ outer) ok = (takes-last c ok.0, all-take-last outer ok.1)

-- nested collections are still nested after `last_wins_so_far`
nested-last : (u : Unfinished) → IsNested u → IsNested (last_wins_so_far u)
nested-last (Within c outer) ok = all-take-last _ ok
nested-last u ok = tt

-- taking last values of events doesn't change what can follow them
pub last-continues : (taken_before : Unfinished) (events : List PlainEvent) → IsNested taken_before
    → AreAlike (events_so_far taken_before) events
    → ContinueAlike (events_so_far (last_wins_so_far taken_before)) events
last-continues u es ok a e = (
  λ c. (continue_alike (events_so_far u) es a e).0
      (accepted-continues u e ok
      (sym (refusal-last u e) ∙ continues-accepted (last_wins_so_far u) e (nested-last u ok) c)),
  λ c. accepted-continues (last_wins_so_far u) e (nested-last u ok)
      (refusal-last u e
      ∙ continues-accepted u e ok ((continue_alike (events_so_far u) es a e).1 c)),
)

-- ---- a complete tree

-- if the events so far are a tree's, it is complete
pub complete : (u : Unfinished) (t : Tree) → IsNested u → AreAlike (events_so_far u) (bracketing t)
    → u ≡ Complete t
complete u t ok p = by u p (sym (expected u ok) ∙ all_taken (events_so_far u) t p)
  where
    by : (u : Unfinished) → AreAlike (events_so_far u) (bracketing t) → Some (stack_of u) ≡ Some []
        → u ≡ Complete t
    by (Complete v) p q = ap Complete (one_tree v t p)
    by u p q = absurd (cc)

-- if no tree is complete, the events so far are no tree's
pub without-tree : (u : Unfinished) → IsNested u → None ≡ complete_tree u → (t : Tree)
    → AreAlike (events_so_far u) (bracketing t) → ⊥
without-tree u ok p t a = absurd (none-some t (p ∙ ap complete_tree (complete u t ok a)))

pub ruleset finishing = (without-tree, complete)
