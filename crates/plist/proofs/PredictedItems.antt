-- The value to which predicted items are collected.
use Rattle.std.proofs.Common.{◌≡◌, List, [], ◌∷◌, ◌++◌, Option, Some, None, Result, Ok, Err, inl, inr, map, refl, sym, ap, ◌∙◌, subst, append_assoc, append-nil}
use Rattle.std.specs.Prelude.{⊤}
use Rattle.std.specs.Iterator.{Yields}
use Rattle.std.proofs.lemmas.List.{map_push}
use Rattle.std.proofs.lemmas.Option.{IfSome_then, none-some}
use Rattle.plist_base.specs.declared.error.Error.{Error}
use Rattle.plist_base.specs.Events.{PlainEvent, Item}
use Rattle.plist_base.specs.Faults.{FaultKind, Fault, MatchFault, OutOfMemory, fault_of, fault_without_offset}
use Rattle.plist_base.specs.Trees.{Tree}
use Rattle.plist_base.specs.Bracketing.{bracketing, without_length, AreAlike}
use Rattle.plist.specs.Building.{Unfinished, events_so_far, refusal_at, IsNested}
use Rattle.plist.specs.Collecting.{Collects, IsRefusal, RefusesOne, item_by}
use Rattle.plist.proofs.Following.{refused-ends}
use Rattle.plist.specs.ValueOfItems.{AreItemsOfTree, IsPredicted, IsValueOf, IsReadIfKnown, IsReadBack, PredictsItems}
use Rattle.plist_base.specs.FirstItems.{GivesFirst, GivesFirstIfKnown}
use Rattle.plist.specs.LastWins.{last_wins}
use Rattle.plist_base.proofs.OneTree.{one_tree}
use Rattle.plist_base.proofs.FirstItems.{first_weaker_if_known}
use Rattle.plist_base.proofs.Lengths.{alike_with}
use Rattle.plist_base.proofs.Refusals.{MatchFault-weaker, MatchFault-all, MatchFault-at}

pub event-more : (events : List PlainEvent) (e : PlainEvent) (after : List Item)
    → map Ok events ++ Ok e ∷ after ≡ map Ok (events ++ e ∷ []) ++ after
event-more events e after =
    sym (ap (λ l. l ++ after) (map_push Ok _ e)
    ∙ append_assoc (map Ok events) (Ok e ∷ []) after)

-- ---- the end

pub all-events : (events others : List PlainEvent) (next : List Item)
    → map Ok events ++ next ≡ map Ok others → (more : List PlainEvent) × (next ≡ map Ok more)
    × (others ≡ events ++ more)
all-events [] others next e = (others, e, refl)
all-events (x ∷ events) [] next e = absurd (cc e)
all-events (x ∷ events) (y ∷ others) next e =
    let r = all-events events others _ (cc e) in (r.0, r.1, cc (e, r.2))

pub no-events : (es : List PlainEvent) → ◌≡◌ {A = List Item} [] (map Ok es) → es ≡ []
no-events [] p = refl
no-events (x ∷ es) p = cc p

-- items with an error among them aren't those of a tree
no-tree-error : (all : List Item) (events : List PlainEvent) (error : Fault) (more : List Item)
    → all ≡ map Ok events ++ Err error ∷ more → (tree : Tree) → AreItemsOfTree all tree → ⊥
no-tree-error all events error more is tree (others, same, alike) =
    let r = all-events _ _ _ (sym is ∙ same) in never r.0 r.1
  where
    never : (es : List PlainEvent) → Err error ∷ more ≡ map Ok es → ⊥
    never [] p = cc
    never (x ∷ es) p = cc

no-tree-event : (all : List Item) (events : List PlainEvent) (unfinished : Unfinished) (e : PlainEvent)
    (kind : FaultKind) (more : List Item) → all ≡ map Ok events ++ Ok e ∷ more → IsNested unfinished
    → AreAlike (events_so_far unfinished) events → refusal_at unfinished e ≡ Some kind
    → (tree : Tree) → AreItemsOfTree all tree → ⊥
no-tree-event all events unfinished e kind more is ok alike r tree (others, same, like) =
    let s = all-events events others (Ok e ∷ more) (sym is ∙ same) in
    let rest = first s.0 s.1 in
    refused-ends unfinished e ok (λ n. none-some kind (sym n ∙ r)) (
      rest.0,
      tree,
      alike_with (events_so_far unfinished) events (e ∷ rest.0) alike
          ∙ ap (λ l. map without_length (events ++ l)) (sym rest.1)
          ∙ ap (map without_length) (sym s.2) ∙ like,
    )
  where
    first : (es : List PlainEvent) → Ok e ∷ more ≡ map Ok es → (rest : List PlainEvent)
        × (es ≡ e ∷ rest)
    first [] p = absurd (cc p)
    first (x ∷ es) p = (es, cc p)

no-tree-end : (all : List Item) (events : List PlainEvent) → all ≡ map Ok events
    → ((tree : Tree) → AreAlike events (bracketing tree) → ⊥) → (tree : Tree) → AreItemsOfTree all tree → ⊥
no-tree-end all events is none tree (others, same, like) =
    let s = all-events events others [] (append-nil _ ∙ sym is ∙ same) in
    let e : others ≡ events = s.2 ∙ ap (λ l. events ++ l) (no-events s.0 s.1) ∙ append-nil events in
    none tree (ap (map without_length) (sym e) ∙ like)

-- ---- what is predicted

-- the first item is one that is predicted
pub predicted : {E : Type 0} (plain : E → PlainEvent) (io memory : (before after : List Item) → Type 0)
    (before after : Option (List Item)) (item : Option (Result E Error))
    → GivesFirstIfKnown plain io memory before item after → IsPredicted plain before item after
predicted plain io memory before after None h = IfSome_then before h (λ all h. h.2.0)
predicted plain io memory before after (Some answer) h =
    first_weaker_if_known plain io memory (λ _ _. ⊤) (λ _ _. ⊤) (λ _ _ _. tt) (λ _ _ _. tt)
    before after (Some answer) h

-- an item is the first of those that remained, whatever is true after `Io` and `OutOfMemory`
abbrev First : {E : Type 0} → (plain : E → PlainEvent) → List Item → Result E Error → List Item
    → Type 0
First plain before answer after =
    GivesFirst plain (λ _ _. ⊤) (λ _ _. ⊤) before (Some answer) after

-- ---- an event is rejected

-- the item after these events isn't taken
pub stops-there : {E : Type 0} (plain : E → PlainEvent) (all left after : List Item)
    (events : List PlainEvent) (unfinished : Unfinished) (item : Result E Error) (fault : Fault)
    → IsNested unfinished → AreAlike (events_so_far unfinished) events
    → all ≡ map Ok events ++ left → First plain left item after
    → RefusesOne unfinished (item_by plain item) fault → IsValueOf all (Err fault)
stops-there plain all left after events unfinished (Ok event) fault ok alike is b r =
    by (refusal_at unfinished e) refl r
  where
    e : PlainEvent
    e = plain event

    here : all ≡ map Ok events ++ Ok e ∷ after
    here = is ∙ ap (λ l. map Ok events ++ l) b

    by : (o : Option FaultKind) → refusal_at unfinished e ≡ o → IsRefusal o fault
        → IsValueOf all (Err fault)
    by None q h =
        MatchFault-at _ _ _ _ _ (ap (λ (f : Fault). f.kind) h) tt
    by (Some kind) q h =
        MatchFault-all fault.kind tt tt (
          (events, Ok e ∷ after, unfinished, here, ok, alike, r),
          no-tree-event all events unfinished e kind after here ok alike q,
        )
stops-there plain all left after events unfinished (Err error) fault ok alike is b r =
    let why = fault_of error in
    MatchFault-weaker fault.kind (λ _. tt) (λ _. tt)
    (λ b. let here : all ≡ map Ok events ++ Err why ∷ after = is
    ∙ ap (λ l. map Ok events ++ l) b in (
      (events, Err why ∷ after, unfinished, here, ok, alike, r),
      no-tree-error all events why after here,
    ))
    (subst (λ k. MatchFault k ⊤ ⊤ (left ≡ Err why ∷ after)) (ap (λ (f : Fault). f.kind) (sym r)) b)

-- an event of a tree isn't rejected after those before it
never-rejected : {E : Type 0} (plain : E → PlainEvent) (tree : Tree) (left after : List Item)
    (events : List PlainEvent) (unfinished : Unfinished) (item : Result E Error)
    (event : PlainEvent) (fault : Fault) → IsNested unfinished
    → AreAlike (events_so_far unfinished) events
    → map Ok (bracketing tree) ≡ map Ok events ++ left → item_by plain item ≡ Ok event
    → First plain left item after → IsRefusal (refusal_at unfinished event) fault
    → fault ≡ fault_without_offset OutOfMemory
never-rejected plain tree left after events unfinished (Err error) event fault ok alike is same b r =
    absurd (cc same)
never-rejected plain tree left after events unfinished (Ok given) event fault ok alike is same b r =
    by (refusal_at unfinished event) refl r
  where
    here : map Ok (bracketing tree) ≡ map Ok events ++ Ok event ∷ after
    here = is ∙ ap (λ l. map Ok events ++ l) (b ∙ ap (λ i. i ∷ after) same)

    by : (o : Option FaultKind) → refusal_at unfinished event ≡ o → IsRefusal o fault
        → fault ≡ fault_without_offset OutOfMemory
    by None q h = h
    by (Some kind) q h =
        absurd (no-tree-event (map Ok (bracketing tree)) events unfinished event kind after here ok
        alike q tree (bracketing tree, refl, refl))

-- ---- what was collected is the value of the items

module _ {E I : Type 0} (plain : E → PlainEvent)
    (gives : I → Option (Result E Error) → I → Type 0) (coming : I → Option (List Item))
    (shows : PredictsItems plain gives coming) where
  asked : (old : I) (answer : Result E Error) (new : I) (all : List Item)
      → coming old ≡ Some all → gives old (Some answer) new → (left : List Item)
      × (coming new ≡ Some left) × First plain all answer left
  asked old answer new all c g =
      subst (λ o. IsPredicted plain o (Some answer) (coming new)) c (shows old (Some answer) new g)

  ended : (old new : I) (all : List Item) → coming old ≡ Some all → gives old None new → all ≡ []
  ended old new all c g =
      subst (λ o. IsPredicted plain o None (coming new)) c (shows old None new g)

  first : (x : Result E Error) (d : PlainEvent) (taken : List (Result E Error))
      (more all left : List Item) → map (item_by plain) (x ∷ taken) ≡ Ok d ∷ more
      → First plain all x left → all ≡ Ok d ∷ left
  first (Ok event) d taken more all left e b = cc (e, b)
  first (Err error) d taken more all left e b = cc e

  -- these events were yielded, and then nothing
  drained : (events : List PlainEvent) (taken : List (Result E Error)) (iter t u : I)
      (all : List Item) → coming iter ≡ Some all → Yields gives iter taken t → gives t None u
      → map (item_by plain) taken ≡ map Ok events → all ≡ map Ok events
  drained [] [] iter t u all c y end e = ended t u all (ap coming (sym y) ∙ c) end
  drained (d ∷ events) (x ∷ taken) iter t u all c (mid, s, y) end e =
      let g = asked iter x mid all c s in
      first x d taken (map Ok events) all g.0 e g.2
      ∙ ap (λ l. Ok d ∷ l) (drained events taken mid t u g.0 g.1 y end (cc e))
  drained events taken iter t u all c y end e = cc e

  -- these events were yielded, and then an item
  following : (events : List PlainEvent) (taken : List (Result E Error)) (iter t : I) (item : Item)
      (all : List Item) → coming iter ≡ Some all → Yields gives iter taken t
      → map (item_by plain) taken ≡ map Ok events ++ item ∷ []
      → (x : Result E Error) × (item_by plain x ≡ item) × (left after : List Item)
      × (all ≡ map Ok events ++ left) × First plain left x after
  following [] (x ∷ taken) iter t item all c (mid, s, y) e =
      let g = asked iter x mid all c s in
      (x, cc e, all, g.0, refl, g.2)
  following (d ∷ events) (x ∷ taken) iter t item all c (mid, s, y) e =
      let g = asked iter x mid all c s in
      let (last, same, left, after, split, gives) = following events taken mid t item g.0 g.1 y (cc e) in (
        last,
        same,
        left,
        after,
        first x d taken (map Ok events ++ item ∷ []) all g.0 e g.2 ∙ ap (λ l. Ok d ∷ l) split,
        gives,
      )
  following events taken iter t item all c y e = absurd (cc e)

  read : (iter : I) (all : List Item) → coming iter ≡ Some all → (answer : Result Tree Fault)
      → Collects plain gives iter answer → IsValueOf all answer
  read iter all c (Ok tree) (u, (taken, t, y, (events, whole, is, end, alike, last))) =
      (whole, (events, drained events taken iter t u all c y end is, alike), last)
  read iter all c (Err fault) (u, (taken, t, y, (events, unfinished, ok, alike, inl (is, stop)))) =
      let (x, same, left, after, split, gives) = following events taken iter t (Err fault) all c y is in
      stops-there plain all left after events unfinished x fault ok alike split gives
      (subst (λ i. RefusesOne unfinished i fault) (sym same) refl)
  read iter all c (Err fault)
      (u, (taken, t, y, (events, unfinished, ok, alike, inr (inl (event, is, stop, r))))) =
      let (x, same, left, after, split, gives) = following events taken iter t (Ok event) all c y is in
      stops-there plain all left after events unfinished x fault ok alike split gives
      (subst (λ i. RefusesOne unfinished i fault) (sym same) r)
  read iter all c (Err fault)
      (u, (taken, t, y, (events, unfinished, ok, alike, inr (inr (is, end, why, none))))) =
      let e = drained events taken iter t u all c y end is in
      MatchFault-all fault.kind tt tt (
        (events, [], unfinished, e ∙ sym (append-nil _), ok, alike, (why, none)),
        no-tree-end all events e none,
      )

  -- the error that was yielded last
  last-error : (events : List PlainEvent) (taken : List (Result E Error)) (iter t : I)
      (fault : Fault) → Yields gives iter taken t
      → map (item_by plain) taken ≡ map Ok events ++ Err fault ∷ []
      → (error : Error) × (fault_of error ≡ fault) × (old : I) × (new : I)
      × gives old (Some (Err error)) new
  last-error [] [] iter t fault y e = absurd (cc e)
  last-error [] (x ∷ taken) iter t fault (mid, s, y) e = by x (cc e) s
    where
      by : (x : Result E Error) → item_by plain x ≡ Err fault → gives iter (Some x) mid
          → (error : Error) × (fault_of error ≡ fault) × (old : I) × (new : I)
          × gives old (Some (Err error)) new
      by (Ok event) same given = absurd (cc same)
      by (Err error) same given = (error, cc same, iter, mid, given)
  last-error (d ∷ events) [] iter t fault y e = absurd (cc e)
  last-error (d ∷ events) (x ∷ taken) iter t fault (mid, s, y) e =
      last-error events taken mid t fault y (cc e)

  -- if the items are the events of a tree, and the iterator yields no error except `OutOfMemory`,
  -- the result is no other error
  pub only-memory : (tree : Tree) (iter : I) → coming iter ≡ Some (map Ok (bracketing tree))
      → ((old new : I) (error : Error) → gives old (Some (Err error)) new
      → fault_of error ≡ fault_without_offset OutOfMemory) → (fault : Fault)
      → Collects plain gives iter (Err fault) → fault ≡ fault_without_offset OutOfMemory
  only-memory tree iter c errors fault
      (u, (taken, t, y, (events, unfinished, ok, alike, inl (is, stop)))) =
      let (error, same, old, new, given) = last-error events taken iter t fault y is in
      sym same ∙ errors old new error given
  only-memory tree iter c errors fault
      (u, (taken, t, y, (events, unfinished, ok, alike, inr (inl (event, is, stop, r))))) =
      let all = map Ok (bracketing tree) in
      let (x, same, left, after, split, given) = following events taken iter t (Ok event) all c y is in
      never-rejected plain tree left after events unfinished x event fault ok alike split same given r
  only-memory tree iter c errors fault
      (u, (taken, t, y, (events, unfinished, ok, alike, inr (inr (is, end, why, none))))) =
      let all = map Ok (bracketing tree) in
      absurd (no-tree-end all events (drained events taken iter t u all c y end is) none tree
      (bracketing tree, refl, refl))

  pub as-seen : (iter : I) (answer : Result Tree Fault) → Collects plain gives iter answer
      → IsReadIfKnown (coming iter) answer
  as-seen iter answer h = by (coming iter) refl
    where
      by : (o : Option (List Item)) → coming iter ≡ o → IsReadIfKnown o answer
      by None c = tt
      by (Some all) c = read _ all c _ h

-- ---- the events of a value

back-ok : (tree t : Tree) (all : List Item) → all ≡ map Ok (bracketing tree) → IsValueOf all (Ok t)
    → t ≡ last_wins tree
back-ok tree t all is (whole, (events, same, alike), last) =
    let s = all-events (bracketing tree) events []
    (append-nil (map Ok (bracketing tree)) ∙ sym is ∙ same) in
    let e : events ≡ bracketing tree = s.2 ∙ ap (λ l. bracketing tree ++ l) (no-events s.0 s.1)
    ∙ append-nil (bracketing tree) in
    last ∙ ap last_wins (one_tree whole tree (sym alike ∙ ap (map without_length) e))

-- the value that is built from a value's events is that value
pub back : (tree : Tree) (all : List Item) (answer : Result Tree Fault) → last_wins tree ≡ tree
    → all ≡ map Ok (bracketing tree) → IsValueOf all answer → IsReadBack tree answer
back tree all (Ok t) twice is h = back-ok tree t all is h ∙ twice
back tree all (Err fault) twice is h =
    MatchFault-weaker fault.kind (λ _. tt) (λ _. tt) (λ s. s.1 tree (bracketing tree, is, refl)) h
