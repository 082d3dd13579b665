-- The stack of expectations accepts an event exactly if the events of some tree begin with the
-- events so far and this one.
use Rattle.std.proofs.Common.{◌≡◌, List, [], ◌∷◌, ◌++◌, Option, Some, None, map, refl, sym, ap, ◌∙◌, append_assoc, append-nil, option_and_then, rules}
use Rattle.std.proofs.lemmas.Option.{option_and_then_some}
use Rattle.plist_base.specs.Events.{PlainEvent}
use Rattle.plist_base.specs.Trees.{Tree}
use Rattle.plist_base.specs.Bracketing.{bracketing, without_length, AreAlike, AreTreeEvents, AreComplete, CanContinue}
use Rattle.plist_buffer.specs.declared.expects.Expect.TheVariants.{OneValue}
use Rattle.plist_buffer.specs.Expects.{step, steps, expected_after}
use Rattle.plist_base.proofs.Lengths.{lengthless-is}
use Rattle.plist_buffer.proofs.Stacks.{Fills, Stack, filling, run_back, steps_tree}

-- lengths don't matter to the stack
step_without_length : (s : Stack) (e : PlainEvent) → step s (without_length e) ≡ step s e
step_without_length s e = search rules

steps_without_length : (es : List PlainEvent) (s : Stack) → steps s (map without_length es)
    ≡ steps s es
steps_without_length [] s = refl
steps_without_length (e ∷ es) s =
    λ i. option_and_then (λ u. steps_without_length es u i) (step_without_length s e i)

-- after events that are equal up to lengths, the same is expected
pub wanted_alike : (left right : List PlainEvent) → AreAlike left right
    → expected_after left ≡ expected_after right
wanted_alike left right p =
    rw (← steps_without_length left, p) (steps_without_length right (OneValue ∷ []))

-- ---- if the stack accepts an event, it can come next

-- what fills the expectation of a value is a tree's events
filled : (es : List PlainEvent) → Fills (OneValue ∷ []) (map without_length es) → AreTreeEvents es
filled es (t, left, p, none) = (t, rw (p, none, append-nil, lengthless-is t) refl)

pub can_continue : (held : List PlainEvent) (e : PlainEvent) (t : Stack)
    → expected_after (held ++ e ∷ []) ≡ Some t → CanContinue held e
can_continue held e t p =
    let g = filling t in
    let f = filled ((held ++ e ∷ []) ++ g.0)
    (run_back (held ++ e ∷ []) g.0 (OneValue ∷ []) t p g.1) in
    (g.0, f.0, simp append_assoc at f.1)

-- if nothing more is expected after the events, they are those of a tree
pub bracketed : (held : List PlainEvent) → expected_after held ≡ Some [] → AreTreeEvents held
bracketed held p =
    rw append-nil at (filled (held ++ []) (run_back held [] (OneValue ∷ []) [] p refl))

pub all_taken : (held : List PlainEvent) (t : Tree) → AreAlike held (bracketing t)
    → expected_after held ≡ Some []
all_taken held t p =
    cc (wanted_alike held (bracketing t) p, append-nil (bracketing t), steps_tree t [] [])

pub none_is : {A : Type 0} (o : Option A) (t : A) → o ≡ None → o ≡ Some t → ⊥
none_is o t p q = cc

in_turn : {A B C : Type 0} (f : A → Option B) (g : B → Option C) (o : Option A)
    → option_and_then (λ x. option_and_then g (f x)) o ≡ option_and_then g (option_and_then f o)
in_turn f g o = search rules

steps_append : (es more : List PlainEvent) (s : Stack)
    → steps s (es ++ more) ≡ option_and_then (λ t. steps t more) (steps s es)
steps_append [] more s = refl
steps_append (e ∷ es) more s =
    (λ i. option_and_then (λ t. steps_append es more t i) (step s e)) ∙ in_turn _ _ (step s e)

-- if an event can come next, the stack accepts it
pub continues : (held : List PlainEvent) (e : PlainEvent) → CanContinue held e → (t : Stack)
    × (expected_after (held ++ e ∷ []) ≡ Some t)
continues held e (more, tree, p) =
    option_and_then_some (λ t. steps t more) (expected_after (held ++ e ∷ [])) []
    (sym (steps_append (held ++ e ∷ []) more (OneValue ∷ []))
    ∙ ap expected_after (append_assoc held (e ∷ []) more) ∙ all_taken (held ++ e ∷ more) tree p)
    (λ t q r. (t, q))

only : {A : Type 0} (o : Option A) → option_and_then Some o ≡ o
only o = search rules

-- the stack after one more event is the one after a step from the stack before it
pub steps_snoc : (es : List PlainEvent) (s : Stack) (e : PlainEvent)
    → steps s (es ++ e ∷ []) ≡ option_and_then (λ t. step t e) (steps s es)
steps_snoc es s e =
    steps_append es (e ∷ []) s ∙ (λ i. option_and_then (λ t. only (step t e) i) (steps s es))

-- no event can follow a tree's events
none_behind : (events : List PlainEvent) → AreTreeEvents events → (e : PlainEvent) → CanContinue events e
    → ⊥
none_behind events (t, alike) e c =
    let g = continues _ e c in
    cc (g.1, steps_snoc events (OneValue ∷ []) e, all_taken events t alike)

pub complete_of_whole : (events : List PlainEvent) → AreTreeEvents events → AreComplete events
complete_of_whole events whole = (whole, none_behind _ whole)
