-- Values under limits.
use Rattle.std.proofs.lemmas.Bool.Decides.{nat_tests}
use Rattle.std.proofs.Common.{◌≡◌, ℕ, ◌+◌, ◌-◌, ◌≤◌, ◌<◌, Bool, true, false, cond, List, [], ◌∷◌, ◌++◌, length, map, Option, None, Some, Result, Ok, Err, ◌↔◌, refl, sym, ap, ◌∙◌, subst, arith, append_assoc, append-nil, ◌&&◌, nat_le, nat_lt, IfOk, option_map}
use Rattle.std.specs.Iterator.{Yields}
use Rattle.std.specs.Prelude.{⊤}
use Rattle.plist_base.specs.declared.limits.ByteBudget.{ByteBudget}
use Rattle.plist_base.specs.declared.error.Error.{Error}
use Rattle.plist_base.specs.declared.event.Event.{Event}
use Rattle.plist_base.specs.declared.limited_items.LimitedItems.{LimitedItems}
use Rattle.plist_base.specs.declared.limits.Limit.{Limit}
use Rattle.plist_base.specs.declared.limits.Limit.TheVariants as limit
use Rattle.plist_base.specs.declared.limits.Limits.{Limits}
use Rattle.plist_base.specs.declared.limits.LimitCounter.{LimitCounter}
use Rattle.plist_base.specs.Allowances.{iterator_of}
use Rattle.plist_base.specs.Budgets.{GivesWithinBudget, IsBudgetUsedUp, bytes_in, items_within_budget, total_bytes, within_budget, within_bytes}
use Rattle.plist_base.specs.Events as event
use Rattle.plist_base.specs.Events.{Item, PlainEvent, event_of, shape_of}
use Rattle.plist_base.specs.Faults.{Fault, OutOfMemory, fault_without_offset}
use Rattle.plist_base.specs.Limits.{GivesLimited, IsLimitReached, items_admitted, event_or_limit, level_after, limit_at, limited_from, limited_items, opens, limited_by}
use Rattle.plist_base.specs.Trees.{Tree, Leaf, Array, Dictionary, Trees, NoTrees, TreeAnd, Members, NoMembers, MemberAnd}
use Rattle.plist_base.specs.Bracketing.{AreAlike, bracketing, bracketing_of_items, bracketing_of_pairs, without_length}
use Rattle.plist.specs.Collecting.{Collects, CollectsWithin, events_taken, item_by}
use Rattle.plist.specs.ValueOfItems.{PredictsItems}
use Rattle.plist.specs.LastWins.{last_wins}
use Rattle.plist.specs.LimitedValues.{FitBudget, FitLimits, IsWithinBudget, IsWithinLimits, NestsWithin, ItemsNestWithin, PairsNestWithin}
use Rattle.plist.proofs.Allowances.{Given, allowed-shows, run-inside, run-passes}
use Rattle.plist.proofs.KeysOnce.{last-nests}
use Rattle.plist.proofs.LastWinsSizes.{fewer-bytes, fewer-events}

-- if the items of the inner iterator are predicted, so are those that the limits or the budget allow
pub limited-shows : {I : Type 0} (inner_gives : I → Given → I → Type 0)
    (coming : I → Option (List Item)) → PredictsItems event_of inner_gives coming
    → PredictsItems event_of (GivesLimited inner_gives)
    (λ l. option_map (items_admitted l) (coming (iterator_of l)))
limited-shows inner_gives =
    allowed-shows limited_by IsLimitReached (λ _. refl) (λ _ _ _. refl) inner_gives

pub budget-shows : {I : Type 0} (inner_gives : I → Given → I → Type 0)
    (coming : I → Option (List Item)) → PredictsItems event_of inner_gives coming
    → PredictsItems event_of (GivesWithinBudget inner_gives)
    (λ l. option_map (items_within_budget l) (coming (iterator_of l)))
budget-shows inner_gives =
    allowed-shows within_budget IsBudgetUsedUp (λ _. refl) (λ _ _ _. refl) inner_gives

-- ---- the events that pass

module _ (limits : Limits) where
  -- none of these events reaches a limit
  abbrev Pass : (came level : ℕ) → List PlainEvent → Type 0
  Pass came level [] = ⊤
  Pass came level (e ∷ es) = (limit_at limits came level e ≡ None)
      × Pass (came + 1) (level_after (shape_of e) level) es

  pass-choice : (o : Option Limit) (e : PlainEvent) (following es : List Item)
      → event_or_limit o e following ≡ Ok e ∷ es → (o ≡ None) × (following ≡ es)
  pass-choice None e following es h = (refl, cc h)
  pass-choice (Some limit) e following es h = absurd (cc h)

  passes : (came level : ℕ) (es : List PlainEvent)
      → limited_from limits came level (map Ok es) ≡ map Ok es → Pass came level es
  passes came level [] h = tt
  passes came level (e ∷ es) h =
      let c = pass-choice _ e
      _ _ h in
      (c.0, passes (came + 1) _ es c.1)

  -- lengths don't matter
  next : {P Q R : Type 0} → Q ↔ R → (P × Q) ↔ (P × R)
  next h = (λ p. (p.0, h.0 p.1), λ p. (p.0, h.1 p.1))

  both-pass : (came level : ℕ) (es : List PlainEvent)
      → Pass came level (map without_length es) ↔ Pass came level es
  both-pass came level [] = (λ h. h, λ h. h)
  both-pass came level (event.StartArray length ∷ es) = next (both-pass (came + 1) _ es)
  both-pass came level (e ∷ es) = next (both-pass _ _ es)

  abbrev PassFirst : List PlainEvent → Type 0
  PassFirst es = Pass 0 0 es

  alike-passes : (left right : List PlainEvent) → AreAlike left right → PassFirst left
      → PassFirst right
  alike-passes left right alike h =
      (both-pass 0 0 _).0 (rw (← alike) ((both-pass 0 0 left).1 h))

  -- an event that passes is within both limits
  allowed : (a b : Bool) → cond a (Some limit.Items) (cond b (Some limit.Depth) None) ≡ None
      → (a ≡ false) × (b ≡ false)
  allowed false false h = (refl, refl)
  allowed a b h = absurd (cc)

  below : (m n : ℕ) → nat_le m n ≡ false → n < m
  below m n h = grind (arith, nat_tests)

  -- there are no more events than are allowed
  few : (came level : ℕ) (es : List PlainEvent) → came ≤ limits.items → Pass came level es
      → came + length es ≤ limits.items
  few came level [] l h = omega arith
  few came level (e ∷ es) l h =
      let less = below _ _ (allowed (nat_le limits.items came)
      (opens (shape_of e) && nat_le limits.depth level) h.0).0 in
      let more : came + 1 + length es
      ≤ limits.items = few (came + 1) _ es (omega arith) h.1 in
      omega arith

  -- a start that passes leaves a level for its collection
  below_depth : (came level : ℕ) → limit_at limits came level (event.StartArray None) ≡ None
      → level < limits.depth
  below_depth came level h = below _ _ (allowed (nat_le limits.items came) _ h).1

  abbrev PassFrom : (level : ℕ) → List PlainEvent → Type 0
  PassFrom level es = (came : ℕ) × Pass came level es

  -- a collection nests one level deeper than its contents
  around : (P : ℕ → Type 0) (inside rest : List PlainEvent) (came level : ℕ)
      → limit_at limits came level (event.StartArray None) ≡ None
      → Pass (came + 1) (level + 1) ((inside ++ event.EndCollection ∷ []) ++ rest)
      → (PassFrom (level + 1) (inside ++ event.EndCollection ∷ rest)
      → P (limits.depth - (level + 1)) × PassFrom (level + 1) (event.EndCollection ∷ rest))
      → ((1 ≤ limits.depth - level) × P (limits.depth - level - 1)) × PassFrom level rest
  around P inside rest came level h passed nests =
      let less : level < limits.depth = below_depth came level h in
      let one : limits.depth - (level + 1) ≡ limits.depth - level - 1 = omega arith in
      let same : level + 1 - 1 ≡ level = omega arith in
      let n = nests (
        came + 1,
        subst (Pass (came + 1) (level + 1)) (append_assoc inside _ rest) passed,
      )
      in (
        (omega arith, rw (← one) n.0),
        (n.1.0 + 1, rw same at n.1.1.1),
      )

  mutual
    tree-nests : (t : Tree) (level : ℕ) (rest : List PlainEvent)
        → PassFrom level (bracketing t ++ rest)
        → NestsWithin t (limits.depth - level) × PassFrom level rest
    tree-nests (Leaf s) level rest (n, h) = (tt, (n + 1, h.1))
    tree-nests (Array items) level rest (n, h) =
        around (ItemsNestWithin items) (bracketing_of_items items) rest n level h.0 h.1
        (λ p. items-nest items (level + 1) (event.EndCollection ∷ rest) p)
    tree-nests (Dictionary pairs) level rest (n, h) =
        around (PairsNestWithin pairs) (bracketing_of_pairs pairs) rest n level h.0 h.1
        (λ p. pairs-nest pairs (level + 1) (event.EndCollection ∷ rest) p)

    items-nest : (items : Trees) (level : ℕ) (rest : List PlainEvent)
        → PassFrom level (bracketing_of_items items ++ rest)
        → ItemsNestWithin items (limits.depth - level) × PassFrom level rest
    items-nest NoTrees level rest h = (tt, h)
    items-nest (TreeAnd tree trees) level rest (n, h) =
        let first = tree-nests tree level (bracketing_of_items trees ++ rest) (
          n,
          subst (Pass n level) (append_assoc (bracketing tree) (bracketing_of_items trees) rest) h,
        )
        in
        let others = items-nest trees level rest first.1 in ((first.0, others.0), others.1)

    pairs-nest : (pairs : Members) (level : ℕ) (rest : List PlainEvent)
        → PassFrom level (bracketing_of_pairs pairs ++ rest)
        → PairsNestWithin pairs (limits.depth - level) × PassFrom level rest
    pairs-nest NoMembers level rest h = (tt, h)
    pairs-nest (MemberAnd key tree members) level rest (n, h) =
        let first = tree-nests tree level (bracketing_of_pairs members ++ rest) (
          n + 1,
          subst (Pass (n + 1) level)
              (append_assoc (bracketing tree) (bracketing_of_pairs members) rest) h.1,
        ) in
        let others = pairs-nest members level rest first.1 in ((first.0, others.0), others.1)

-- ---- the bytes of events within a budget

light-choice : (longer : Bool) (e : PlainEvent) (following es : List Item)
    → cond longer (Err (fault_without_offset OutOfMemory) ∷ []) (Ok e ∷ following) ≡ Ok e ∷ es
    → (longer ≡ false) × (following ≡ es)
light-choice true e following es h = absurd (cc h)
light-choice false e following es h = (refl, cc h)

light : (left : ℕ) (es : List PlainEvent) → within_bytes left (map Ok es) ≡ map Ok es
    → total_bytes es ≤ left
light left [] h = omega arith
light left (e ∷ es) h =
    let c = light-choice (nat_lt left (bytes_in e)) e _ _ h in
    let fits : bytes_in e ≤ left = not-less _ _ c.0 in
    let more = light (left - bytes_in e) es c.1 in
    omega arith
  where
    not-less : (m n : ℕ) → nat_lt m n ≡ false → n ≤ m
    not-less m n h = grind (arith, nat_tests)

-- lengths have no bytes
no-length : (es : List PlainEvent) → total_bytes (map without_length es) ≡ total_bytes es
no-length [] = refl
no-length (event.StartArray length ∷ es) = ap (λ n. 0 + n) (no-length es)
no-length (e ∷ es) = ap (λ n. bytes_in e + n) (no-length es)

alike-light : (left right : List PlainEvent) (most : ℕ) → AreAlike left right
    → total_bytes left ≤ most → total_bytes right ≤ most
alike-light left right most alike h =
    let one = no-length left in
    let other = no-length right in
    let same : total_bytes (map without_length left) ≡ total_bytes (map without_length right)
    = ap total_bytes alike in
    omega arith

-- ---- the value

-- if the limits admit the events of a tree, the tree has no more events than they allow, and its
-- last-value form nests within the depth
tree-within : (limits : Limits) (events : List PlainEvent) (whole : Tree)
    → limited_items limits (map Ok events) ≡ map Ok events → AreAlike events (bracketing whole)
    → NestsWithin (last_wins whole) limits.depth × (length (bracketing whole) ≤ limits.items)
tree-within limits events whole came alike =
    let pass = alike-passes limits events (bracketing whole) alike
    (passes limits 0 0 events came) in
    let nests = (tree-nests limits whole 0 [] (
      0,
      subst (Pass limits 0 0) (sym (append-nil (bracketing whole)))
          pass,
    )).0 in
    let same : limits.depth - 0 ≡ limits.depth = omega arith in
    let long = few limits 0 0 (bracketing whole) (omega arith) pass in
    (last-nests whole limits.depth (rw same at nests), omega arith)

pub built-within : {I : Type 0} (inner_gives : I → Given → I → Type 0) (limits : Limits)
    (limited : LimitedItems I LimitCounter) (answer : Result Tree Fault)
    → items_admitted limited ≡ limited_items limits
    → Collects event_of (GivesLimited inner_gives) limited answer
    → IfOk answer (IsWithinLimits limits)
built-within inner_gives limits limited (Err fault) fresh c = tt
built-within inner_gives limits limited (Ok tree) fresh
    (after, (taken, rest, yields, (events, whole, same, ends, alike, last))) =
    let came : limited_items limits (map Ok events)
    ≡ map Ok events = ap (λ f. f (map Ok events)) (sym fresh)
    ∙ run-passes limited_by IsLimitReached (λ _. refl) (λ _ _ _. refl) inner_gives limited rest taken
    events yields same in
    let h = tree-within limits events whole came alike in
    let fewer = fewer-events whole in
    rw last (h.0, omega arith)

pub built-within-budget : {I : Type 0} (inner_gives : I → Given → I → Type 0) (limits : Limits)
    (bytes : ℕ) (budgeted : LimitedItems (LimitedItems I LimitCounter) ByteBudget) (answer : Result Tree Fault)
    → items_within_budget budgeted ≡ within_bytes bytes
    → items_admitted (iterator_of budgeted) ≡ limited_items limits
    → Collects event_of (GivesWithinBudget (GivesLimited inner_gives)) budgeted answer
    → IfOk answer (IsWithinBudget limits bytes)
built-within-budget inner_gives limits bytes budgeted (Err fault) within fresh c = tt
built-within-budget inner_gives limits bytes budgeted (Ok tree) within fresh
    (after, (taken, rest, yields, (events, whole, same, ends, alike, last))) =
    let fits : within_bytes bytes (map Ok events)
    ≡ map Ok events = ap (λ f. f (map Ok events)) (sym within)
    ∙ run-passes within_budget IsBudgetUsedUp (λ _. refl) (λ _ _ _. refl) (GivesLimited inner_gives)
    budgeted rest taken events yields same in
    let inside = run-inside within_budget IsBudgetUsedUp (λ _. refl) (λ _ _ _. refl)
    (GivesLimited inner_gives) budgeted rest taken events yields same in
    let came : limited_items limits (map Ok events)
    ≡ map Ok events = ap (λ f. f (map Ok events)) (sym fresh)
    ∙ run-passes limited_by IsLimitReached (λ _. refl) (λ _ _ _. refl) inner_gives
    (iterator_of budgeted) (iterator_of rest) taken events inside same in
    let h = tree-within limits events whole came alike in
    let few = h.1 in
    let fewer = fewer-events whole in
    let less = alike-light events (bracketing whole) bytes alike (light bytes events fits) in
    let lighter = fewer-bytes whole in
    rw last (h.0, (omega arith, omega arith))

-- ---- the items that are taken

-- the events before the first fault are those of the first of the items
before-fault : {I : Type 0} (gives : I → Given → I → Type 0) (old rest : I)
    (taken : List (Result Event Error)) → Yields gives old taken rest
    → (first : List (Result Event Error)) × (left : I) × Yields gives old first left
    × (map (item_by event_of) first ≡ map Ok (events_taken (map (item_by event_of) taken)))
before-fault gives old rest (Ok event ∷ taken) (mid, step, more) =
    let h = before-fault gives mid rest taken more in
    (Ok event ∷ h.0, h.1, (mid, step, h.2), ap (λ l. Ok (event_of event) ∷ l) h.3)
before-fault gives old rest taken yields = ([], old, refl, refl)

-- no more events are taken than the limits allow
pub taken-within : {I : Type 0} (inner_gives : I → Given → I → Type 0) (limits : Limits)
    (limited : LimitedItems I LimitCounter) (answer : Result Tree Fault)
    → items_admitted limited ≡ limited_items limits
    → Collects event_of (GivesLimited inner_gives) limited answer
    → CollectsWithin event_of (GivesLimited inner_gives) limited (FitLimits limits) answer
taken-within inner_gives limits limited answer fresh (after, (taken, rest, yields, built)) =
    let events = events_taken (map (item_by event_of) taken) in
    let first = before-fault (GivesLimited inner_gives) limited rest taken yields in
    let came : limited_items limits (map Ok events)
    ≡ map Ok events = ap (λ f. f (map Ok events)) (sym fresh)
    ∙ run-passes limited_by IsLimitReached (λ _. refl) (λ _ _ _. refl) inner_gives limited first.1
    first.0 events first.2 first.3 in
    let long = few limits 0 0 events (omega arith) (passes limits 0 0 events came) in
    (after, taken, rest, yields, built, omega arith)

-- no more events and bytes are taken than the limits and the budget allow
pub taken-within-budget : {I : Type 0} (inner_gives : I → Given → I → Type 0) (limits : Limits)
    (bytes : ℕ) (budgeted : LimitedItems (LimitedItems I LimitCounter) ByteBudget)
    (answer : Result Tree Fault) → items_within_budget budgeted ≡ within_bytes bytes
    → items_admitted (iterator_of budgeted) ≡ limited_items limits
    → Collects event_of (GivesWithinBudget (GivesLimited inner_gives)) budgeted answer
    → CollectsWithin event_of (GivesWithinBudget (GivesLimited inner_gives)) budgeted
    (FitBudget limits bytes) answer
taken-within-budget inner_gives limits bytes budgeted answer within fresh
    (after, (taken, rest, yields, built)) =
    let events = events_taken (map (item_by event_of) taken) in
    let first = before-fault (GivesWithinBudget (GivesLimited inner_gives)) budgeted rest taken
    yields in
    let fits : within_bytes bytes (map Ok events)
    ≡ map Ok events = ap (λ f. f (map Ok events)) (sym within)
    ∙ run-passes within_budget IsBudgetUsedUp (λ _. refl) (λ _ _ _. refl) (GivesLimited inner_gives)
    budgeted first.1 first.0 events first.2 first.3 in
    let inside = run-inside within_budget IsBudgetUsedUp (λ _. refl) (λ _ _ _. refl)
    (GivesLimited inner_gives) budgeted first.1 first.0 events first.2 first.3 in
    let came : limited_items limits (map Ok events)
    ≡ map Ok events = ap (λ f. f (map Ok events)) (sym fresh)
    ∙ run-passes limited_by IsLimitReached (λ _. refl) (λ _ _ _. refl) inner_gives
    (iterator_of budgeted) (iterator_of first.1) first.0 events inside first.3 in
    let long = few limits 0 0 events (omega arith) (passes limits 0 0 events came) in
    (after, taken, rest, yields, built, (omega arith, light bytes events fits))
