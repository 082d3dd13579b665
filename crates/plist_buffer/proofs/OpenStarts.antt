-- Which starts are open after some events, and where the tree that begins at an index ends.
use Rattle.std.proofs.Common.{◌≡◌, ◌≢◌, ℕ, suc, ◌+◌, ◌<◌, ◌≤◌, Bool, true, false, List, [], ◌∷◌, ◌++◌, length, drop, take, refl, ap, sym, ◌∙◌, subst, arith, length-append, length-drop, add-zero, rules}
use Rattle.std.specs.List.{AllByRecursion}
use Rattle.std.proofs.lemmas.Bool.Decides.{nat_tests}
use Rattle.std.proofs.lemmas.List.{take-append-drop, length-take-le}
use Rattle.plist_base.specs.Events.{PlainEvent, StartArray, StartDictionary, EndCollection}
use Rattle.plist_base.specs.Trees.{Tree, Leaf, Array, Dictionary, Trees, NoTrees, TreeAnd, Members, NoMembers, MemberAnd}
use Rattle.plist_base.specs.Bracketing.{lengthless, lengthless_items, lengthless_pairs}
use Rattle.plist_buffer.specs.EventTable.{event_at}
use Rattle.plist_buffer.specs.Occurrences.{event_count, OccursAt}
use Rattle.plist_buffer.specs.inner.UnclosedStarts.{unclosed_after_event, unclosed_from, unclosed_after, skip_after_event, skip_from, skip_after}
use Rattle.plist_buffer.proofs.TreeOccurrences.{past_one}
use Rattle.plist_buffer.proofs.TreeStarts.{first_event, occurs_within, size_positive}

-- ---- after events in two parts

open_append : (a b : List PlainEvent) (p : ℕ) (unclosed : List ℕ)
    → unclosed_from (a ++ b) p unclosed ≡ unclosed_from b (p + length a) (unclosed_from a p unclosed)
open_append [] b p unclosed = ap (λ k. unclosed_from b k _) (sym (add-zero p))
open_append (e ∷ a) b p unclosed =
    grind (arith, open_append a b (p + 1) (unclosed_after_event e p unclosed))

skip_append : (a b : List PlainEvent) (p : ℕ) (unclosed : List ℕ) (q given : ℕ)
    → skip_from (a ++ b) p unclosed q given
    ≡ skip_from b (p + length a) (unclosed_from a p unclosed) q (skip_from a p unclosed q given)
skip_append [] b p unclosed q given = ap (λ k. skip_from b k _ q _) (sym (add-zero p))
skip_append (e ∷ a) b p unclosed q given =
    grind (arith, skip_append a b (p + 1) (unclosed_after_event e p unclosed) q (skip_after_event e p unclosed q given))

-- one more event changes the open starts as `unclosed_after_event` says
pub open_more : (es : List PlainEvent) (e : PlainEvent)
    → unclosed_after (es ++ e ∷ []) ≡ unclosed_after_event e (length es) (unclosed_after es)
open_more es e =
    grind (arith, open_append es (e ∷ []) 0 [])

pub skip_more : (es : List PlainEvent) (e : PlainEvent) (q : ℕ) → skip_after (es ++ e ∷ []) q
    ≡ skip_after_event e (length es) (unclosed_after es) q (skip_after es q)
skip_more es e q =
    grind (arith, skip_append es (e ∷ []) 0 [] q (q + 1))

-- ---- trees

mutual
  -- after a tree's events the same starts are open
  open_tree : (t : Tree) (p : ℕ) (unclosed : List ℕ) → unclosed_from (lengthless t) p unclosed ≡ unclosed
  open_tree (Leaf x) p unclosed = refl
  open_tree (Array ts) p unclosed =
      let inside = open_items ts (p + 1) (p ∷ unclosed) in
      cc (inside, open_append (lengthless_items ts) (EndCollection ∷ []) (p + 1) (p ∷ unclosed))
  open_tree (Dictionary ms) p unclosed =
      let inside = open_pairs ms (p + 1) (p ∷ unclosed) in
      cc (inside, open_append (lengthless_pairs ms) (EndCollection ∷ []) (p + 1) (p ∷ unclosed))

  open_items : (ts : Trees) (p : ℕ) (unclosed : List ℕ) → unclosed_from (lengthless_items ts) p unclosed
      ≡ unclosed
  open_items NoTrees p unclosed = refl
  open_items (TreeAnd t ts) p unclosed =
      open_append (lengthless t) _ p _
      ∙ open_items ts _ _ ∙ open_tree t p _

  open_pairs : (ms : Members) (p : ℕ) (unclosed : List ℕ) → unclosed_from (lengthless_pairs ms) p unclosed
      ≡ unclosed
  open_pairs NoMembers p unclosed = refl
  open_pairs (MemberAnd k t ms) p unclosed =
      open_append (lengthless t) (lengthless_pairs ms) (p + 1) unclosed
      ∙ open_pairs ms (p + 1 + event_count t) (unclosed_from (lengthless t) (p + 1) unclosed)
      ∙ open_tree t (p + 1) unclosed

-- a tree ends after the end that belongs to its start
skip_end : (body : List PlainEvent) (q given : ℕ) (unclosed : List ℕ)
    → unclosed_from body (q + 1) (q ∷ unclosed) ≡ q ∷ unclosed
    → skip_from (body ++ EndCollection ∷ []) (q + 1) (q ∷ unclosed) q given
    ≡ q + suc (length (body ++ EndCollection ∷ []))
skip_end body q given unclosed h =
    grind (arith, nat_tests, skip_append body (EndCollection ∷ []) (q + 1), length-append body)

skip_tree : (t : Tree) (q : ℕ) (unclosed : List ℕ) → skip_from (lengthless t) q unclosed q (q + 1)
    ≡ q + event_count t
skip_tree (Leaf x) q unclosed = refl
skip_tree (Array ts) q unclosed =
    skip_end _ q _ unclosed (open_items ts (q + 1) (q ∷ unclosed))
skip_tree (Dictionary ms) q unclosed =
    skip_end _ q _ unclosed (open_pairs ms (q + 1) (q ∷ unclosed))

-- ---- an index at which no open tree begins

abbrev Lacks : ℕ → List ℕ → Type 0
Lacks q indices = AllByRecursion (λ index. index ≢ q) indices

one_apart : (e : PlainEvent) (p q given : ℕ) (unclosed : List ℕ) → p ≢ q → Lacks q unclosed
    → Lacks q (unclosed_after_event e p unclosed) × (skip_after_event e p unclosed q given ≡ given)
one_apart e p q given unclosed off l = grind (arith, nat_tests)

-- no other event begins the tree at this index, or ends it
apart : (es : List PlainEvent) (p q given : ℕ) (unclosed : List ℕ)
    → ((k : ℕ) → k < length es → p + k ≢ q) → Lacks q unclosed
    → Lacks q (unclosed_from es p unclosed) × (skip_from es p unclosed q given ≡ given)
apart [] p q given unclosed off l = (l, refl)
apart (e ∷ es) p q given unclosed off l =
    let one = one_apart e p q given unclosed (λ h. off 0 (omega arith) (omega (arith, h))) l in
    let all = apart es (p + 1) q (skip_after_event e p unclosed q given) (unclosed_after_event e p unclosed)
    (λ k lt h. off (suc k) (omega (arith, lt)) (omega (arith, h))) one.0 in
    (all.0, all.1 ∙ one.1)

-- ---- where trees end

module _ (es : List PlainEvent) (q : ℕ) (le : q ≤ length es) where
  abbrev before : List ℕ
  before = unclosed_from (take q es) 0 []

  before_apart : Lacks q before × (skip_after (take q es) q ≡ q + 1)
  before_apart =
      apart (take q es) 0 q (q + 1) [] (λ k lt h. omega (arith, lt, h, length-take-le q es le)) tt

  -- where the tree ends depends only on the events from q on
  from_there : skip_after es q ≡ skip_from (drop q es) q before q (q + 1)
  from_there =
      grind (
        arith,
        take-append-drop q es,
        length-take-le q es le,
        skip_append (take q es) (drop q es) 0 [] q (q + 1),
        before_apart.1,
      )

pub skip_ends : (es : List PlainEvent) (t : Tree) (q : ℕ) → OccursAt es t q
    → skip_after es q ≡ q + event_count t
skip_ends es t q s =
    let le : q ≤ length es = omega (arith, occurs_within s) in
    let b = before es q le in
    from_there es q le ∙ ap (λ l. skip_from l q b q (q + 1)) s.is
    ∙ skip_append (lengthless t) s.rest q b q (q + 1)
    ∙ (λ i. skip_from s.rest (q + event_count t) (open_tree t q b i) q (skip_tree t q b i))
    ∙ (apart s.rest (q + event_count t) q (q + event_count t) b
    (λ k lt h. omega (arith, h, size_positive t)) (before_apart es q le).0).1

one_within : (e : PlainEvent) (p q given n : ℕ) (unclosed : List ℕ) → q ≤ p → p < n → q < given
    → given ≤ n → (q < skip_after_event e p unclosed q given) × (skip_after_event e p unclosed q given ≤ n)
one_within e p q given n unclosed a b c d = grind (arith, nat_tests)

all_within : (es : List PlainEvent) (p q given n : ℕ) (unclosed : List ℕ) → q ≤ p → p + length es ≤ n
    → q < given → given ≤ n
    → (q < skip_from es p unclosed q given) × (skip_from es p unclosed q given ≤ n)
all_within [] p q given n unclosed a b c d = (c, d)
all_within (e ∷ es) p q given n unclosed a b c d =
    let one = one_within e p q _ n _ a (omega arith) c d in
    all_within es _ q _ n _ (omega arith) (omega arith) one.0 one.1

pub skip_forward : (es : List PlainEvent) (q : ℕ) → q < length es
    → (q < skip_after es q) × (skip_after es q ≤ length es)
skip_forward es q lt =
    let le : q ≤ length es = omega arith in
    rw (from_there es q le)
    (all_within (drop q es) q q (q + 1) (length es) (before es q le) (omega arith)
    (omega (arith, length-drop q es)) (omega arith) (omega arith))

-- ---- an open index is that of a start

abbrev pub is_start : PlainEvent → Bool
is_start (StartArray hint) = true
is_start (StartDictionary hint) = true
is_start e = false

module _ (all : List PlainEvent) where
  abbrev Starts : List ℕ → Type 0
  Starts indices = AllByRecursion (λ q. is_start (event_at all q) ≡ true) indices

  one_starts : (e : PlainEvent) (p : ℕ) (unclosed : List ℕ) → event_at all p ≡ e → Starts unclosed
      → Starts (unclosed_after_event e p unclosed)
  one_starts e p unclosed is a = search rules

  all_start : (es : List PlainEvent) (p : ℕ) (unclosed : List ℕ) → drop p all ≡ es → Starts unclosed
      → Starts (unclosed_from es p unclosed)
  all_start [] p unclosed is a = a
  all_start (e ∷ es) p unclosed is a =
      all_start es _ _ (past_one e es all p is)
      (one_starts e p unclosed (first_event all p e es is) a)

  pub innermost_starts : (q : ℕ) (outer : List ℕ) → unclosed_after all ≡ q ∷ outer
      → is_start (event_at all q) ≡ true
  innermost_starts q outer is = (subst Starts is (all_start all 0 [] refl tt)).0
