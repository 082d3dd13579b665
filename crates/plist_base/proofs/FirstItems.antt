-- The first of the items that remain, as it is seen through views, limits and known bytes.
use Rattle.std.proofs.Common.{◌≡◌, Bool, false, cond, List, [], ◌∷◌, Option, None, Some, Result, Ok, Err, IfSome, option_map, refl, sym, ap, ◌∙◌, subst}
use Rattle.plist_base.specs.declared.error.Error.{Error}
use Rattle.plist_base.specs.declared.event.Event.{Event}
use Rattle.plist_base.specs.Allowances.{PassesNext}
use Rattle.plist_base.specs.Events.{PlainEvent, Item, event_of}
use Rattle.plist_base.specs.Faults.{Fault, kind_of, error_kind_of, fault_of}
use Rattle.plist_base.specs.FirstItems.{GivesFirst, GivesFirstIfKnown}
use Rattle.plist_base.specs.Visits.{plain_item}
use Rattle.plist_base.proofs.Refusals.{MatchFault-all, MatchFault-weaker}

-- when `Io` or `OutOfMemory` is possible, and what it leaves
abbrev Leaves : Type 1
Leaves = (before after : List Item) → Type 0

-- what is true of the items of known bytes is true of the items if they are known
pub first_of_known : {E K : Type 0} (shown : E → PlainEvent) (io memory : Leaves) (k l : Option K)
    (before after : K → List Item) (item : Option (Result E Error)) → l ≡ k
    → IfSome k (λ bytes. GivesFirst shown io memory (before bytes) item (after bytes))
    → GivesFirstIfKnown shown io memory (option_map before k) item (option_map after l)
first_of_known shown io memory None l before after item same h = tt
first_of_known shown io memory (Some bytes) l before after item same h =
    (after bytes, ap (option_map after) same, h)

-- less is said about `Io` and `OutOfMemory`
module _ {E : Type 0} (shown : E → PlainEvent) (io memory wide_io wide_memory : Leaves)
    (widens_io : (before after : List Item) → io before after → wide_io before after)
    (widens : (before after : List Item) → memory before after → wide_memory before after) where
  pub first_weaker : (before after : List Item) (item : Option (Result E Error))
      → GivesFirst shown io memory before item after
      → GivesFirst shown wide_io wide_memory before item after
  first_weaker before after None h = h
  first_weaker before after (Some (Ok event)) h = h
  first_weaker before after (Some (Err error)) h =
      MatchFault-weaker (kind_of (error_kind_of error)) (widens_io before after)
      (widens before after) (λ same. same) h

  pub first_weaker_if_known : (before after : Option (List Item)) (item : Option (Result E Error))
      → GivesFirstIfKnown shown io memory before item after
      → GivesFirstIfKnown shown wide_io wide_memory before item after
  first_weaker_if_known None after item h = tt
  first_weaker_if_known (Some all) after item h = (h.0, h.1, first_weaker all h.0 item h.2)

-- the item of an iterator is seen without its memory
pub plain_first : (io memory : Leaves) (before after : Option (List Item))
    (item : Option (Result Event Error)) → GivesFirstIfKnown event_of io memory before item after
    → GivesFirstIfKnown (λ event. event) io memory before (plain_item item) after
plain_first io memory None after item h = tt
plain_first io memory (Some all) after None h = h
plain_first io memory (Some all) after (Some (Ok event)) h = h
plain_first io memory (Some all) after (Some (Err error)) h = h

-- ---- under an allowance

-- `lets` maps an empty list to an empty one, and ends at a fault; if `memory` is true of the inner
-- items, `allows` is true of those that are allowed
module _ {A : Type 0} (lets : A → List Item → List Item) (may_reach : Fault → Type 0)
    (io memory wide_io allows : Leaves) (ends : (allowance : A) → lets allowance [] ≡ [])
    (stops : (allowance : A) (fault : Fault) (items : List Item)
    → lets allowance (Err fault ∷ items) ≡ Err fault ∷ [])
    (over : (items : List Item) → wide_io items [])
    (keeps : (allowance : A) (before after : List Item) → memory before after
    → allows (lets allowance before) [])
    (alone : (fault : Fault) → allows (Err fault ∷ []) []) (old new : A) where
  -- the items that are allowed, or none after the end
  abbrev allowed : Bool → A → List Item → List Item
  allowed ended allowance items = cond ended [] (lets allowance items)

  first_allowed : (was now : Bool) (before after : List Item)
      (asked item : Option (Result Event Error)) → was ≡ false
      → GivesFirst event_of io memory before asked after
      → PassesNext lets may_reach old asked item (new, now)
      → GivesFirst event_of wide_io allows (allowed was old before) item (allowed now new after)
  first_allowed was now before after None item w b p = rw (p.0, w, p.2, b.0) (ends old, refl)
  first_allowed was now before after (Some (Ok asked)) None w b p = absurd p
  first_allowed was now before after (Some (Ok asked)) (Some (Ok passed)) w b p =
      rw (w, p.2) (ap (lets old) b ∙ p.1 after
      ∙ ap (λ v. Ok (event_of v) ∷ lets new after) (sym p.0))
  first_allowed was now before after (Some (Ok asked)) (Some (Err error)) w b p =
      let shows : lets old before ≡ Err (fault_of error) ∷ [] = ap (lets old) b ∙ p.0.1 after in
      rw (w, p.1) (MatchFault-all (kind_of (error_kind_of error)) (over (lets old before))
      (subst (λ items. allows items []) (sym shows) (alone (fault_of error))) shows)
  first_allowed was now before after (Some (Err fault)) None w b p = absurd p
  first_allowed was now before after (Some (Err fault)) (Some given) w b p =
      rw (p.0, w, p.1) (MatchFault-weaker (kind_of (error_kind_of fault))
      (λ _. over (lets old before)) (keeps old before after)
      (λ c. ap (lets old) c ∙ stops old _ after) b)

  -- the first of the items that are allowed is yielded if the inner iterator yields its first
  pub first_allowed_if_known : (was now : Bool) (before after : Option (List Item))
      (asked item : Option (Result Event Error)) → was ≡ false
      → GivesFirstIfKnown event_of io memory before asked after
      → PassesNext lets may_reach old asked item (new, now)
      → GivesFirstIfKnown event_of wide_io allows (option_map (allowed was old) before) item
      (option_map (allowed now new) after)
  first_allowed_if_known was now None after asked item w g p = tt
  first_allowed_if_known was now (Some all) after asked item w (left, is, b) p = (
    allowed now new left,
    ap (option_map (allowed now new)) is,
    first_allowed was now all left asked item w b p,
  )

-- after the end, no item is allowed, and none is yielded
pub none_allowed : {E : Type 0} (shown : E → PlainEvent) (io memory : Leaves)
    (allowed : List Item → List Item) (known : Option (List Item))
    → ((items : List Item) → allowed items ≡ [])
    → GivesFirstIfKnown shown io memory (option_map allowed known) None (option_map allowed known)
none_allowed shown io memory allowed None is = tt
none_allowed shown io memory allowed (Some all) is = (allowed all, refl, (is all, is all))
