-- What is expected after the buffered events, and how one more event changes that.
use Rattle.std.proofs.Common.{◌≡◌, ◌≢◌, List, [], ◌∷◌, ◌++◌, Option, IfSome, map, option_and_then, None, Some, true, refl, sym, ap, ◌∙◌, rules, arith}
use Rattle.std.specs.Option.{is_none}
use Rattle.plist_base.specs.Bracketing.{without_length, AreTreeEvents, CanContinue}
use Rattle.plist_base.specs.Events.{PlainEvent, EndCollection}
use Rattle.plist_buffer.specs.Expects.{transition_of, changed, step, expected_after, expected_inside, innermost, all_expected, ExpectsNext, change_on, next_expected}
use Rattle.plist_buffer.specs.declared.expects.Expect.{Expect}
use Rattle.plist_buffer.specs.declared.expects.Expect.TheVariants.{OneValue}
use Rattle.plist_buffer.specs.declared.expects.Transition.{Transition}
use Rattle.plist_buffer.specs.declared.expects.Transition.TheVariants.{Refused}
use Rattle.plist_base.proofs.Lengths.{alike_last}
use Rattle.plist_buffer.proofs.Grammar.{none_is, wanted_alike, can_continue, continues, bracketed, all_taken, complete_of_whole, steps_snoc}
use Rattle.plist_buffer.specs.declared.event_buffer.EventBuffer.{EventBuffer}
use Rattle.plist_buffer.specs.EventBuffers.{buffered_events, is_whole, TestsWhole}
use Rattle.plist_buffer.proofs.Innermost.{OpenKind, OpenArray, OpenDictionary, open_after_event, open_after, expects_in, inside_is}

-- ---- open collections

-- what is expected, without the value after a key
abbrev inside_of : List Expect → List Expect
inside_of (OneValue ∷ rest) = rest
inside_of expects = expects

inside_alone : (kinds : List OpenKind) → inside_of (map expects_in kinds) ≡ map expects_in kinds
inside_alone [] = refl
inside_alone (OpenArray ∷ outer) = refl
inside_alone (OpenDictionary ∷ outer) = refl

inside_same : (kinds : List OpenKind) (expects : List Expect) → map expects_in kinds ≡ expects
    → map expects_in kinds ≡ inside_of expects
inside_same kinds expects is = grind (arith, inside_alone)

open_snoc : (es : List PlainEvent) (e : PlainEvent) (kinds : List OpenKind)
    → open_after (es ++ e ∷ []) kinds ≡ open_after_event e (open_after es kinds)
open_snoc [] e kinds = refl
open_snoc (x ∷ es) e kinds = open_snoc es e _

open_alike : (e : PlainEvent) (kinds : List OpenKind)
    → open_after_event (without_length e) kinds ≡ open_after_event e kinds
open_alike e kinds = search rules

-- ---- one more event

-- what is expected after the event
abbrev Goes : Option Expect → (kinds : List OpenKind) → (after : List Expect) → Type 0
Goes next kinds after = (map expects_in kinds ≡ inside_of after) × (next ≡ innermost after)

ended : (top : Expect) (rest : List Expect) (kinds : List OpenKind)
    → map expects_in kinds ≡ top ∷ rest
    → Goes (innermost (map expects_in (open_after_event EndCollection kinds)))
    (open_after_event EndCollection kinds) rest
ended top rest kinds is = grind (arith, inside_same)

goes : (top : Expect) (rest : List Expect) (e : PlainEvent) (kinds : List OpenKind)
    → map expects_in kinds ≡ inside_of (top ∷ rest)
    → IfSome (changed (transition_of top e) top rest) (Goes (next_expected (transition_of top e) (Some top)
    (innermost (map expects_in (open_after_event e kinds)))) (open_after_event e kinds))
goes top rest e kinds is = grind (arith, inside_same, ended)

-- while something is expected, this is expected in the open collections
inside_all : (next : Option Expect) (e : PlainEvent) (kinds : List OpenKind)
    → change_on next e ≢ Refused
    → map expects_in kinds ≡ inside_of (all_expected next (map expects_in kinds))
inside_all next e kinds n = grind (arith, inside_alone)

changed_to : {P : List Expect → Type 0} (c : Transition) (top : Expect) (rest : List Expect)
    → c ≢ Refused → IfSome (changed c top rest) P
    → (new : List Expect) × (changed c top rest ≡ Some new) × P new
changed_to c top rest n p = search rules

-- an event that isn't rejected leads to a new stack
stepped : (next : Option Expect) (expects : List Expect) (e : PlainEvent) (kinds : List OpenKind)
    → next ≡ innermost expects → map expects_in kinds ≡ inside_of expects
    → change_on next e ≢ Refused
    → (new : List Expect) × (step expects e ≡ Some new) × Goes (next_expected (change_on next e) next
    (innermost (map expects_in (open_after_event e kinds)))) (open_after_event e kinds) new
stepped next [] e kinds first is n = absurd (n (ap (λ o. change_on o e) first))
stepped next (top ∷ rest) e kinds first is n =
    rw first (changed_to (transition_of top e) top rest (rw first at n) (goes top rest e kinds is))

rejected : (expects : List Expect) (e : PlainEvent) → change_on (innermost expects) e ≡ Refused
    → step expects e ≡ None
rejected expects e r = search rules

all_again : (expects : List Expect) → all_expected (innermost expects) (inside_of expects) ≡ expects
all_again expects = search rules

-- nothing is expected if and only if the events are a tree's
tests_whole : (es : List PlainEvent) (expects : List Expect) → expected_after es ≡ Some expects
    → TestsWhole (is_none (innermost expects)) es
tests_whole es [] w = complete_of_whole es (bracketed es w)
tests_whole es (x ∷ rest) w = λ whole. cc (all_taken es _ whole.1)

-- if the buffered events are those of a tree, nothing more is expected
pub whole_of_tree : (s : EventBuffer) → AreTreeEvents (buffered_events s) → is_whole s ≡ true
whole_of_tree s whole =
    cc (all_taken (buffered_events s) _ whole.1, s.wanted.all, s.wanted.first)

-- the length of a start doesn't matter
same_wants : (es : List PlainEvent) (e : PlainEvent)
    → expected_after (es ++ without_length e ∷ []) ≡ expected_after (es ++ e ∷ [])
same_wants es e = wanted_alike _ _ (alike_last es e)

-- an event is rejected if and only if it can't follow
module _ (s : EventBuffer) (e : PlainEvent) where
  abbrev held : List PlainEvent
  held = buffered_events s

  abbrev kinds : List OpenKind
  kinds = open_after held []

  wanted : (expected_after held ≡ Some (all_expected s.expects (map expects_in kinds)))
      × (s.expects ≡ innermost (all_expected s.expects (map expects_in kinds)))
  wanted = rw (sym (inside_is held)) (s.wanted.all, s.wanted.first)

  after : expected_after (held ++ e ∷ []) ≡ step (all_expected s.expects (map expects_in kinds)) e
  after = steps_snoc held (OneValue ∷ []) e ∙ ap (option_and_then (λ t. step t e)) wanted.0

  pub cannot_take : change_on s.expects e ≡ Refused → CanContinue held e → ⊥
  cannot_take r can =
      let g = continues _ e can in
      none_is _ g.0 (after ∙ rejected _ e (ap (λ o. change_on o e) (sym wanted.1) ∙ r)) g.1

  module _ {c : Transition} (is : c ≡ change_on s.expects e) (allowed : c ≢ Refused) where
    accepted : change_on s.expects e ≢ Refused
    accepted r = allowed (is ∙ r)

    abbrev went : (new : List Expect)
        × (step (all_expected s.expects (map expects_in kinds)) e ≡ Some new)
        × Goes (next_expected (change_on s.expects e) s.expects
        (innermost (map expects_in (open_after_event e kinds)))) (open_after_event e kinds) new
    went = stepped s.expects _ e kinds wanted.1 (inside_all s.expects e kinds accepted) accepted

    abbrev new : List Expect
    new = went.0

    is_new : expected_after (held ++ e ∷ []) ≡ Some new
    is_new = after ∙ went.1

    pub can_take : CanContinue held e
    can_take = can_continue _ e new is_new

    -- the event was buffered, and what is expected after it was computed
    module _ {events : List PlainEvent} {next : Option Expect}
        (more : events ≡ held ++ without_length e ∷ [])
        (found : next ≡ next_expected c s.expects (innermost (expected_inside events))) where
      now_open : open_after events [] ≡ open_after_event e kinds
      now_open = ap (λ l. open_after l []) more ∙ open_snoc held (without_length e) []
          ∙ open_alike e kinds

      is_next : next ≡ innermost new
      is_next = cc (inside_is events, ap (map expects_in) now_open, went.2.1)

      all_new : all_expected next (expected_inside events) ≡ new
      all_new = cc (inside_is events, is_next, now_open, went.2.0, all_again new)

      pub expects_next : ExpectsNext events next
      expects_next = record {
        all = ap expected_after more ∙ same_wants held e ∙ is_new ∙ ap Some (sym all_new);
        first = is_next ∙ ap innermost (sym all_new);
      }

      pub tests_next : TestsWhole (is_none next) (held ++ e ∷ [])
      tests_next = rw is_next (tests_whole _ new is_new)
