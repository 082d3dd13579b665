-- Events with and without the lengths of their starts.
use Rattle.std.proofs.Common.{◌≡◌, List, [], ◌∷◌, ◌++◌, map, refl, sym, ◌∙◌, rules}
use Rattle.std.proofs.lemmas.List.{map-append}
use Rattle.plist_base.specs.Events.{PlainEvent}
use Rattle.plist_base.specs.Trees.{Tree, Leaf, Array, Dictionary, Trees, NoTrees, TreeAnd, Members, NoMembers, MemberAnd}
use Rattle.plist_base.specs.Bracketing.{bracketing, bracketing_of_items, bracketing_of_pairs, lengthless, lengthless_items, lengthless_pairs, without_length, AreAlike, AreTreeEvents, CanContinue, ContinueAlike}

pub without_length-twice : (e : PlainEvent) → without_length (without_length e) ≡ without_length e
without_length-twice e = search rules

pub all-without_length-twice : (es : List PlainEvent) → map without_length (map without_length es)
    ≡ map without_length es
all-without_length-twice [] = refl
all-without_length-twice (e ∷ es) = rw (without_length-twice e, all-without_length-twice es) refl

mutual
  -- a tree's events without their lengths are those of `lengthless`
  pub lengthless-is : (t : Tree) → map without_length (bracketing t) ≡ lengthless t
  lengthless-is (Leaf s) = refl
  lengthless-is (Array ts) = rw (map-append without_length, lengthless-of-items-is ts) refl
  lengthless-is (Dictionary ms) = rw (map-append without_length, lengthless-of-pairs-is ms) refl

  pub lengthless-of-items-is : (ts : Trees) → map without_length (bracketing_of_items ts)
      ≡ lengthless_items ts
  lengthless-of-items-is NoTrees = refl
  lengthless-of-items-is (TreeAnd t ts) = rw (
    map-append without_length,
    lengthless-is t,
    lengthless-of-items-is ts,
  ) refl

  pub lengthless-of-pairs-is : (ms : Members) → map without_length (bracketing_of_pairs ms)
      ≡ lengthless_pairs ms
  lengthless-of-pairs-is NoMembers = refl
  lengthless-of-pairs-is (MemberAnd k t ms) = rw
      (map-append without_length, lengthless-is t, lengthless-of-pairs-is ms) refl

-- alike events stay alike when the same events follow them
pub alike_with : (left right more : List PlainEvent) → AreAlike left right
    → AreAlike (left ++ more) (right ++ more)
alike_with left right more p =
    rw (map-append, map-append, p) refl

pub alike_behind : (front left right : List PlainEvent) → AreAlike left right
    → AreAlike (front ++ left) (front ++ right)
alike_behind front left right p =
    rw (map-append, map-append, p) refl

pub whole_alike : (left right : List PlainEvent) → AreAlike left right → AreTreeEvents left
    → AreTreeEvents right
whole_alike left right p (t, alike) = (t, sym p ∙ alike)

continue_with : (left right : List PlainEvent) → AreAlike left right → (e : PlainEvent)
    → CanContinue left e → CanContinue right e
continue_with left right p e (more, t, alike) =
    (more, t, sym (alike_with _ _ _ p) ∙ alike)

pub continue_alike : (left right : List PlainEvent) → AreAlike left right → ContinueAlike left right
continue_alike left right p e = (continue_with _ _ p e, continue_with _ _ (sym p) e)

pub alike_without_length : (events : List PlainEvent) → AreAlike (map without_length events) events
alike_without_length events = all-without_length-twice _

pub alike_last : (events : List PlainEvent) (e : PlainEvent)
    → AreAlike (events ++ without_length e ∷ []) (events ++ e ∷ [])
alike_last events e = alike_behind events _ _ (all-without_length-twice (e ∷ []))
