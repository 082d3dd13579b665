-- The tokens of a visitor stay valid, and stand for the scalars of their objects.
use Rattle.std.proofs.Common.{◌≡◌, ◌⊎◌, inl, inr, ℕ, zero, suc, ◌<◌, true, false, List, [], ◌∷◌, get_or, Option, None, Some, Result, Ok, IfSome, refl, ap, sym, subst, ◌∙◌, arith}
use Rattle.std.proofs.lemmas.Option.{IfSome_then}
use Rattle.std.specs.List.{slice_get}
use Rattle.std.specs.declared.ops.ControlFlow.TheVariants.{Continue}
use Rattle.plist_base.specs.Events.{IsScalarEvent, Item, PlainEvent, ScalarEvent}
use Rattle.plist_base.specs.Object.{Object, Scalar, Array, Dictionary, Faulty}
use Rattle.plist_base.specs.VisitedItems.{HasNamed, TakesNamed}
use Rattle.plist_base.specs.Unfolding.{until_fault}
use Rattle.plist_base.specs.Visits.{Flow}
use Rattle.plist_base.proofs.VisitedItems.{named_then}
use Rattle.plist_base.specs.declared.error.Error.{Error}
use Rattle.plist_decode.proofs.UnknownBytes.{IfSome-both, IfSome-three}
use Rattle.plist_decode.specs.Decoding.{scalar_event_in}
use Rattle.plist_decode.specs.Packed.{is_marked, is_small_event, unmarked}
use Rattle.plist_decode.specs.declared.head.Bounds.{Bounds}
use Rattle.plist_binread.specs.ObjectEvents.{event_of_object}
use Rattle.plist_decode.specs.declared.step_fault.StepFault.{StepFault}
use Rattle.plist_binread.specs.Handovers.{HandsItem, TakesIfAny}
use Rattle.plist_binread.specs.Remaining.{entries_of}
use Rattle.plist_binread.specs.Step.{YieldsCurrent, YieldsResult}
use Rattle.plist_binread.specs.Tokens.{HasNoTokens, HoldsTokens, IsEventOf, IsTokenOf, KeepsCached, first_event, stored_token}
use Rattle.plist_binread.specs.Walking.{IsCachedIfSmall, IsKnownWalk, IsWalkOf, open_in, remaining_entering, remaining_in, walk_objects}
use Rattle.plist_binread.specs.declared.references.Reference.{Reference}
use Rattle.plist_binread.specs.declared.tokens.Tokens.{Tokens}
use Rattle.plist_binread.specs.declared.walk.Walk.{Walk}
use Rattle.plist_binread.proofs.WalkSteps.{first_there}
use Rattle.plist_binread.proofs.WalkInvariant.{as_many, entry_there, found_scalar}

-- the first event of an object that is a scalar
scalar_first : (object : Object) (event : PlainEvent) → event_of_object object ≡ Some event
    → IsScalarEvent event → scalar_event_in object ≡ Some event
scalar_first (Scalar scalar) event is leaf = is
scalar_first (Array items) (ScalarEvent scalar) is leaf = absurd (cc)
scalar_first (Dictionary pairs) (ScalarEvent scalar) is leaf = absurd (cc)
scalar_first (Faulty kind) event is leaf = absurd (cc)
scalar_first object event is leaf = absurd leaf

module _ (bytes : List ℕ) (bounds : Bounds) (walk : Walk) (k : IsWalkOf bytes bounds walk)
    (at number : ℕ) (event : PlainEvent) where
  -- an event that was the first item of an object is its first event
  pub first_is : (rest : List Item)
      → until_fault (remaining_entering bytes bounds walk at number) ≡ Ok event ∷ rest
      → first_event (slice_get (entries_of bytes bounds) number) ≡ Some event
  first_is rest = first_there (entries_of bytes bounds) walk.tags.items (as_many k) (open_in walk) at
      number walk.path event rest

  -- the first event of an object that isn't open is the first item, if it is a scalar
  pub scalar_again : number < walk_objects walk
      → is_marked (get_or walk.tags.items number 0) ≡ false
      → first_event (slice_get (entries_of bytes bounds) number) ≡ Some event → IsScalarEvent event
      → YieldsCurrent (remaining_entering bytes bounds walk at number) event
      (remaining_in bytes bounds walk)
  scalar_again below free first leaf =
      found_scalar k walk.path at number below free event (scalar_first _ event
      (ap first_event (sym (entry_there k number below)) ∙ first) leaf)

-- a scalar was handed over once more, by its token
pub record Repeats (known : Option (List ℕ)) (bounds : Bounds) (walk : Walk) (reference : Reference)
    (took : PlainEvent → Type 0) : Type 0 where
  pub event : PlainEvent
  pub first : IfSome known (λ bytes. YieldsCurrent
      (remaining_entering bytes bounds walk reference.at reference.number) event
      (remaining_in bytes bounds walk))
  pub cached : IfSome known (λ _. is_small_event event ≡ true
      → 0 < unmarked (get_or walk.tags.items reference.number 0))
  pub taken : took event

positive : (n : ℕ) → (n ≡ 0 → ⊥) → 0 < n
positive zero never = absurd (never refl)
positive (suc n) never = omega arith

module _ {V : Type 0} (step : V → PlainEvent → Flow → V → Type 0)
    (names : V → (token : ℕ) → PlainEvent → Type 0) where
  -- no tokens are stored
  pub no_tokens : (tokens : Tokens) (of_object : ℕ → PlainEvent → Type 0) (visitor : V)
      → HasNoTokens tokens → HoldsTokens step names tokens of_object visitor
  no_tokens tokens of_object visitor none number some =
      absurd (let zero_token = none number in omega (arith, some, zero_token))

  -- the visitor took one more event
  pub tokens_then : (tokens : Tokens) (of_object : ℕ → PlainEvent → Type 0) (event : PlainEvent)
      (old new : V) → HoldsTokens step names tokens of_object old
      → step old event (Continue tt) new → HoldsTokens step names tokens of_object new
  tokens_then tokens of_object event old new holds taken number some =
      let (named, has, is) = holds number some in
      (named, named_then step names _ named event old new has taken, is)

  -- the token of the event that the visitor took last was stored
  pub tokens_stored : (tokens now : Tokens) (number token : ℕ) (event : PlainEvent)
      (of_object : ℕ → PlainEvent → Type 0) (visitor : V)
      → HoldsTokens step names tokens of_object visitor
      → ((other : ℕ) → 0 < stored_token now other
      → (stored_token now other ≡ stored_token tokens other)
      ⊎ ((other ≡ number) × (stored_token now other ≡ token)))
      → (0 < token → names visitor token event) → of_object number event
      → HoldsTokens step names now of_object visitor
  tokens_stored tokens now number token event of_object visitor holds stores named is other some =
      elim (stores other some) [
        | inl same ↦
            let (old, has, old_is) = holds other (subst (λ n. 0 < n) same some) in
            (old, subst (λ n. HasNamed step names n old visitor) (sym same) has, old_is)
        | inr new ↦ (
          event,
          record {
            past = visitor;
            events = [];
            named = subst (λ n. names visitor n event) (sym new.1)
                (named (subst (λ n. 0 < n) new.1 some));
            since = refl;
          },
          subst (λ n. of_object n event) (sym new.0) is,
        )
      ]

  module _ (known : Option (List ℕ)) (bounds : Bounds) where
    -- the walk keeps what it has cached
    pub tokens_kept : (walk now : Walk) (tokens : Tokens) (visitor : V)
        → HoldsTokens step names tokens (IsEventOf known bounds walk) visitor
        → KeepsCached walk now
        → HoldsTokens step names tokens (IsEventOf known bounds now) visitor
    tokens_kept walk now tokens visitor holds keeps number some =
        let (named, has, is) = holds number some in
        (named, has, IfSome_then known is (λ bytes is. (is.0, λ small. keeps number (is.1 small))))

    -- a visitor took a scalar once more, given its token
    pub repeated : (tokens : Tokens) (walk : Walk) → IsKnownWalk known bounds walk
        → (reference : Reference) (token : ℕ) (old new : V) (answer : Option Flow) (flow : Flow)
        → HoldsTokens step names tokens (IsEventOf known bounds walk) old
        → IsTokenOf tokens walk reference.number token
        → (token ≡ 0 → answer ≡ None) → TakesNamed step names old token answer new
        → answer ≡ Some flow
        → Repeats known bounds walk reference (λ event. step old event flow new)
    repeated tokens walk k reference token old new answer flow holds is unnamed takes some =
        let some_token = positive token (λ none. let never = unnamed none in cc) in
        let (same, below, free) = is some_token in
        let (event, has, first) = holds reference.number (subst (λ n. 0 < n) same some_token) in
        let took : IsScalarEvent event × step old event flow new
        = subst (λ a. IfSome a (λ f. IsScalarEvent event × step old event f new)) some
        (takes event (subst (λ n. HasNamed step names n event old) (sym same) has)) in
        record {
          event = event;
          first = IfSome-both known k first (λ bytes k first. scalar_again bytes bounds walk k
              reference.at reference.number event below free first.0 took.0);
          cached = IfSome_then known first (λ bytes first. first.1);
          taken = took.1;
        }

-- an item was handed over to a visitor that was unchanged before
pub hands_from : {V : Type 0} (step : V → PlainEvent → Flow → V → Type 0) {old mid new : V}
    {item : Option (Result Flow StepFault)} {P : PlainEvent → Type 0} → mid ≡ old
    → HandsItem step mid new item P → HandsItem step old new item P
hands_from step {new = new} {item = item} same h = record {
  event = h.event;
  is = h.is;
  taken = subst (λ v. TakesIfAny step v new item h.event) same h.taken;
}

-- an object was entered, and its first event was handed over
pub event_entered : (known : Option (List ℕ)) (bounds : Bounds) (walk now : Walk)
    → IsKnownWalk known bounds walk → (reference : Reference) (answer : Result Flow Error)
    (flow : Flow) (event : PlainEvent) → answer ≡ Ok flow
    → IfSome known (λ bytes. YieldsResult
    (remaining_entering bytes bounds walk reference.at reference.number) answer event
    (remaining_in bytes bounds now))
    → IfSome known (λ _. IsCachedIfSmall (λ _. event) (Some reference.number) (Some answer)
    now.tags.items)
    → IsEventOf known bounds now reference.number event
event_entered known bounds walk now k reference answer flow event ok first cached =
    IfSome-three known k (rw ok at first) (rw ok at cached) (λ bytes k first cached. (
      first_is bytes bounds walk k reference.at reference.number event _ first,
      cached,
    ))
