-- Items as far as an allowance admits them.
use Rattle.std.proofs.Common.{◌≡◌, Bool, true, false, cond, List, [], ◌∷◌, map, Option, None, Some, Result, Ok, Err, IfSome, MatchBool, refl, sym, ap, ◌∙◌, subst, option_map}
use Rattle.std.specs.Bool.{⊤}
use Rattle.std.specs.Iterator.{Yields}
use Rattle.plist_base.specs.declared.error.Error.{Error}
use Rattle.plist_base.specs.declared.event.Event.{Event}
use Rattle.plist_base.specs.declared.limited_items.LimitedItems.{LimitedItems}
use Rattle.plist_base.specs.Allowances.{GivesAllowed, PassesNext, items_allowed, iterator_of}
use Rattle.plist_base.specs.Events.{Item, PlainEvent, event_of}
use Rattle.plist_base.specs.Faults.{Fault}
use Rattle.plist.specs.Collecting.{item_by}
use Rattle.plist.specs.ValueOfItems.{IsPredicted, PredictsItems}
use Rattle.plist_base.proofs.FirstItems.{first_allowed_if_known}

abbrev pub Given : Type 0
Given = Option (Result Event Error)

asked-by : (was : Bool) {A B : Type 0} → MatchBool was A B → (A → ⊥) → (was ≡ false) × B
asked-by true h never = absurd (never h)
asked-by false h never = (refl, h)

-- `lets` maps an empty list to an empty one, and ends at a fault
module _ {A : Type 0} (lets : A → List Item → List Item) (may_reach : Fault → Type 0)
    (ends : (allowance : A) → lets allowance [] ≡ [])
    (stops : (allowance : A) (fault : Fault) (items : List Item)
    → lets allowance (Err fault ∷ items) ≡ Err fault ∷ []) where
  abbrev come : Bool → A → List Item → List Item
  come ended allowance items = cond ended [] (lets allowance items)

  -- ---- the items that are predicted

  none_left : (was : Bool) (old : A) (before : Option (List Item)) → was ≡ false
      → IfSome before (λ all. all ≡ [])
      → IfSome (option_map (come was old) before) (λ all. all ≡ [])
  none_left was old None w h = tt
  none_left was old (Some all) w h = rw (w, h) (ends old)

  -- an item that is allowed is predicted if that of the inner iterator is
  next_allowed : (old new : A) (was now : Bool) (before after : Option (List Item))
      (asked item : Given) → was ≡ false → IsPredicted event_of before asked after
      → PassesNext lets may_reach old asked item (new, now)
      → IsPredicted event_of (option_map (come was old) before) item
      (option_map (come now new) after)
  next_allowed old new was now before after None item w h p = rw p.0 (none_left was old before w h)
  next_allowed old new was now before after (Some asked) None w h p = absurd p
  next_allowed old new was now before after (Some asked) (Some given) w h p =
      first_allowed_if_known lets may_reach (λ _ _. ⊤) (λ _ _. ⊤) (λ _ _. ⊤) (λ _ _. ⊤) ends stops
      (λ _. tt) (λ _ _ _ _. tt) (λ _. tt) old new was now before after (Some asked) (Some given) w
      h p

  module _ {I : Type 0} (inner_gives : I → Given → I → Type 0) where
    -- the iterator has ended
    over : (coming : I → Option (List Item)) (old new : LimitedItems I A) (item : Given)
        → old.ended ≡ true → item ≡ None → new ≡ old
        → IsPredicted event_of (option_map (items_allowed lets old) (coming (iterator_of old)))
        item (option_map (items_allowed lets new) (coming (iterator_of new)))
    over coming old new item e none same = rw none (by (coming (iterator_of old)))
      where
        by : (known : Option (List Item))
            → IfSome (option_map (items_allowed lets old) known) (λ all. all ≡ [])
        by None = tt
        by (Some all) = rw e refl

    -- if the items of the inner iterator are predicted, so are those that are allowed
    pub allowed-shows : (coming : I → Option (List Item))
        → PredictsItems event_of inner_gives coming
        → PredictsItems event_of (GivesAllowed lets may_reach inner_gives)
        (λ l. option_map (items_allowed lets l) (coming (iterator_of l)))
    allowed-shows coming shows old item new h = by old.ended refl h
      where
        by : (b : Bool) → old.ended ≡ b
            → MatchBool b ((item ≡ None) × (new ≡ old))
            ((asked : Given) × inner_gives old.inner asked new.inner
            × PassesNext lets may_reach old.limiter asked item (new.limiter, new.ended))
            → IsPredicted event_of
            (option_map (items_allowed lets old) (coming (iterator_of old))) item
            (option_map (items_allowed lets new) (coming (iterator_of new)))
        by true e (none, same) = over coming old new item e none same
        by false e (asked, gave, passes) =
            next_allowed old.limiter new.limiter old.ended new.ended (coming old.inner)
            (coming new.inner) asked item e (shows old.inner asked new.inner gave) passes

  -- ---- the events that were yielded

  events-pass : (old new : A) (was now : Bool) (asked : Given) (x : Result Event Error)
      (e : PlainEvent) (items : List Item) → was ≡ false → item_by event_of x ≡ Ok e
      → PassesNext lets may_reach old asked (Some x) (new, now)
      → come was old (Ok e ∷ items) ≡ Ok e ∷ come now new items
  events-pass old new was now None x e items w is p = cc p.0
  events-pass old new was now (Some (Ok event)) (Ok passed) e items w is p =
      let same : event_of event ≡ e = cc (ap event_of p.0, is) in
      rw (w, p.2) (cc (p.1 items))
  events-pass old new was now (Some (Ok event)) (Err error) e items w is p = cc is
  events-pass old new was now (Some (Err error)) x e items w is p =
      cc (ap (item_by _) (sym p.0) ∙ is)

  -- the inner iterator yielded the same event
  gave-same : {I : Type 0} (inner_gives : I → Given → I → Type 0) (before after : I) (old new : A)
      (now : Bool) (asked : Given) (x : Result Event Error) (e : PlainEvent)
      → item_by event_of x ≡ Ok e → PassesNext lets may_reach old asked (Some x) (new, now)
      → inner_gives before asked after → inner_gives before (Some x) after
  gave-same inner_gives before after old new now None x e is p gave = cc p.0
  gave-same inner_gives before after old new now (Some (Ok event)) (Ok passed) e is p gave =
      subst (λ v. inner_gives before (Some (Ok v)) after) (sym p.0) gave
  gave-same inner_gives before after old new now (Some (Ok event)) (Err error) e is p gave = cc is
  gave-same inner_gives before after old new now (Some (Err error)) x e is p gave =
      cc (ap (item_by _) (sym p.0) ∙ is)

  module _ {I : Type 0} (inner_gives : I → Given → I → Type 0) where
    -- events that were yielded are allowed
    pub run-passes : (old rest : LimitedItems I A) (taken : List (Result Event Error))
        (events : List PlainEvent) → Yields (GivesAllowed lets may_reach inner_gives) old taken rest
        → map (item_by event_of) taken ≡ map Ok events
        → items_allowed lets old (map Ok events) ≡ map Ok events
    run-passes old rest [] [] y e = none old.ended
      where
        none : (b : Bool) → come b old.limiter [] ≡ []
        none true = refl
        none false = ends old.limiter
    run-passes old rest [] (event ∷ events) y e = cc e
    run-passes old rest (x ∷ taken) [] y e = cc e
    run-passes old rest (x ∷ taken) (event ∷ events) (mid, step, more) e =
        let asked = asked-by old.ended step (λ a. cc a.0) in
        events-pass old.limiter mid.limiter old.ended mid.ended asked.1.0 x event (map Ok events)
        asked.0 (cc e) asked.1.2
        ∙ ap (λ l. Ok event ∷ l) (run-passes mid rest taken events more (cc e))

    pub run-inside : (old rest : LimitedItems I A) (taken : List (Result Event Error))
        (events : List PlainEvent) → Yields (GivesAllowed lets may_reach inner_gives) old taken rest
        → map (item_by event_of) taken ≡ map Ok events
        → Yields inner_gives (iterator_of old) taken (iterator_of rest)
    run-inside old rest [] events y e = ap iterator_of y
    run-inside old rest (x ∷ taken) [] y e = cc e
    run-inside old rest (x ∷ taken) (event ∷ events) (mid, step, more) e =
        let asked = asked-by old.ended step (λ a. cc a.0) in (
          iterator_of mid,
          gave-same inner_gives old.inner mid.inner old.limiter mid.limiter mid.ended asked.1.0 x
              event (cc e) asked.1.2 asked.1.1,
          run-inside mid rest taken events more (cc e),
        )
