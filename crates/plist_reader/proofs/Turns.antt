-- Events that the chosen reader of one format hands to a visitor.
use Rattle.std.proofs.Common.{◌≡◌, ℕ, List, [], ◌∷◌, ◌++◌, Option, None, Some, Result, Ok, Err, ap, refl, rules, subst, sym}
use Rattle.std.specs.declared.alloc.Global.{Global}
use Rattle.std.specs.declared.borrow.CowSlice.TheVariants as slice
use Rattle.std.specs.declared.borrow.CowStr.TheVariants as string
use Rattle.plist_base.specs.declared.error.Error.{Error}
use Rattle.plist_base.specs.declared.event.Event.{Event}
use Rattle.plist_base.specs.declared.source.Source.{Ghosts}
use Rattle.plist_base.specs.declared.visitor.Visited.{Visited}
use Rattle.plist_base.specs.declared.event.Event.TheVariants as event
use Rattle.plist_base.specs.Events.{PlainEvent, EndCollection, ScalarEvent, StartArray, StartDictionary, event_of}
use Rattle.plist_base.specs.Trees.{Boolean, Data, Date, Integer, Real, String, Uid}
use Rattle.plist_base.specs.Visits.{Flow, HandsOverAll, PlainItem, TakesTurn, Visits, YieldsPlain, last_turn, plain_item}
use Rattle.plist_binread.specs.BinaryReader.{GivesBinary, Steps}
use Rattle.plist_binread.proofs.ReaderCalls.{gives_binary}
use Rattle.plist_reader.specs.declared.reader.Reader.{Reader}
use Rattle.plist_reader.specs.declared.reader.State.{State}
use Rattle.plist_reader.specs.declared.reader.State.TheVariants as state
use Rattle.plist_reader.specs.Reader.{AsciiGives, AsciiReaderOf, BinaryReaderOf, Gives, StateGives}
use Rattle.plist_reader.proofs.AsciiItems.{ascii-gives}
use Rattle.plist_reader.proofs.BinaryItems.{binary-gives}

module _ {I V : Type 0} (yields : I → PlainItem → I → Type 0)
    (step : V → PlainEvent → Flow → V → Type 0) where
  -- events are handed over one by one, and then others
  hands_then : (old now new : I × V) (events others : List PlainEvent)
      → HandsOverAll yields step old events now → HandsOverAll yields step now others new
      → HandsOverAll yields step old (events ++ others) new
  hands_then old now new [] others is more =
      subst (λ (first : I × V). HandsOverAll yields step first others new) is more
  hands_then old now new (event ∷ events) others (next, one, rest) more =
      (next, one, hands_then next now new events others rest more)

  -- a visit is continued by another one
  pub visits_then : (old now new : I × V) (events : List PlainEvent)
      (answer : Result Visited Error) → HandsOverAll yields step old events now
      → Visits yields step now answer new → Visits yields step old answer new
  visits_then old now new events answer handed visit = record {
    events = events ++ visit.events;
    left = visit.left;
    handed = hands_then old now visit.left events visit.events handed visit.handed;
    ended = visit.ended;
  }

-- a turn of one source is a turn of another that yields the same item
turn_of : {I J V : Type 0} (yields : I → PlainItem → I → Type 0)
    (others : J → PlainItem → J → Type 0) (step : V → PlainEvent → Flow → V → Type 0) (from to : I)
    (old new : J) → ((item : PlainItem) → yields from item to → others old item new) → (v w : V)
    (turn : Option (Result Flow Error)) → TakesTurn yields step (from, v) turn (to, w)
    → TakesTurn others step (old, v) turn (new, w)
turn_of yields others step from to old new same v w None (none, is) = (same None none, is)
turn_of yields others step from to old new same v w (Some (Ok flow)) (event, one) =
    (event, record { given = same _ one.given; taken = one.taken })
turn_of yields others step from to old new same v w (Some (Err error)) (fault, is) =
    (same _ fault, is)

-- ---- the reader of ASCII

module _ {R : Type 0} {g : Ghosts R} (known : R → Option (List ℕ)) (failed : R → ℕ) where
  -- what the reader of ASCII yields is what the reader that chose it yields
  ascii_yields : (old new : Reader R g) (from to : AsciiReaderOf R)
      → old.state ≡ state.Ascii from → new.state ≡ state.Ascii to → (item : PlainItem)
      → YieldsPlain (AsciiGives known failed) from item to
      → YieldsPlain (Gives {R = R} {g = g} known failed) old item new
  ascii_yields old new from to before after item (given, gives, is) = (
    given,
    subst (λ (s : State R g). StateGives known failed s given new.state) (sym before)
        (subst (λ (s : State R g). StateGives known failed (state.Ascii from) given s) (sym after)
        (ascii-gives known failed from to given gives)),
    is,
  )

  -- a turn of the reader of ASCII is a turn of the reader that chose it
  pub ascii_turn : {V : Type 0} (step : V → PlainEvent → Flow → V → Type 0) (old new : Reader R g)
      (from to : AsciiReaderOf R) (v w : V) (turn : Option (Result Flow Error))
      → old.state ≡ state.Ascii from → new.state ≡ state.Ascii to
      → TakesTurn (YieldsPlain (AsciiGives known failed)) step (from, v) turn (to, w)
      → TakesTurn (YieldsPlain (Gives {R = R} {g = g} known failed)) step (old, v) turn (new, w)
  ascii_turn step old new from to v w turn before after =
      turn_of (YieldsPlain (AsciiGives known failed)) (YieldsPlain (Gives known failed)) step from to
      old new (ascii_yields old new from to before after) v w turn

-- ---- the reader of binary files

-- contracts see this of some event
some_event : (event : PlainEvent) → (handed : Event) × (event_of handed ≡ event)
some_event (StartArray length) = (event.StartArray length, refl)
some_event (StartDictionary length) = (event.StartDictionary length, refl)
some_event EndCollection = (event.EndCollection, refl)
some_event (ScalarEvent (Boolean value)) = (event.Boolean value, refl)
some_event (ScalarEvent (Data bytes)) =
    (event.Data (slice.Borrowed (record { ref_ptr = (0, 0); now = bytes })), refl)
some_event (ScalarEvent (Date date)) = (event.Date date, refl)
some_event (ScalarEvent (Integer number)) = (event.Integer number, refl)
some_event (ScalarEvent (Real bits)) = (event.Real bits, refl)
some_event (ScalarEvent (String text)) =
    (event.String (string.Borrowed (record { ref_ptr = (0, 0); now = text })), refl)
some_event (ScalarEvent (Uid number)) = (event.Uid number, refl)

some_given : (item : PlainItem) → (given : Option (Result Event Error)) × (plain_item given ≡ item)
some_given None = (None, refl)
some_given (Some (Ok event)) = let (handed, is) = some_event event in
    (Some (Ok handed), ap (λ (e : PlainEvent). Some (Ok e)) is)
some_given (Some (Err error)) = (Some (Err error), refl)

module _ {R : Type 0} {g : Ghosts R} where
  -- what a step yields is the item of `next`, seen without its memory
  gives_item : (from to : BinaryReaderOf R g) (given : Option (Result Event Error))
      → Steps from (plain_item given) to → GivesBinary from given to
  gives_item from to None step = let gives = step.gives in gives_binary from None to (search rules)
  gives_item from to (Some (Ok event)) step =
      let gives = step.gives in gives_binary from (Some (Ok event)) to (search rules)
  gives_item from to (Some (Err error)) step =
      let gives = step.gives in gives_binary from (Some (Err error)) to (search rules)

module _ {R : Type 0} {g : Ghosts R} (alloc : Global) where
  -- the reader that has chosen this one
  abbrev pub chosen : BinaryReaderOf R g → Reader R g
  chosen reader = record { alloc = alloc; state = state.Binary reader }

  abbrev Yields : Reader R g → PlainItem → Reader R g → Type 0
  Yields = YieldsPlain (Gives g.known g.failures)

  yields_item : (from to : BinaryReaderOf R g) (item : PlainItem) → Steps from item to
      → Yields (chosen from) item (chosen to)
  yields_item from to item step =
      let (given, is) = some_given item in (
        given,
        binary-gives from to given (gives_item from to given
            (subst (λ (i : PlainItem). Steps from i to) (sym is) step)),
        sym is,
      )

  module _ {V : Type 0} (step : V → PlainEvent → Flow → V → Type 0) where
    hands_all : (from to : BinaryReaderOf R g) (v w : V) (events : List PlainEvent)
        → HandsOverAll Steps step (from, v) events (to, w)
        → HandsOverAll Yields step (chosen from, v) events (chosen to, w)
    hands_all from to v w [] is = ap (λ (p : BinaryReaderOf R g × V). (chosen p.0, p.1)) is
    hands_all from to v w (event ∷ events) (next, one, rest) = (
      (chosen next.0, next.1),
      record { given = yields_item from next.0 _ one.given; taken = one.taken },
      hands_all next.0 to next.1 w events rest,
    )

    -- a visit by the reader of binary files is one by the reader that chose it
    pub binary_visit : (answer : Result Visited Error) (from to : BinaryReaderOf R g) (v w : V)
        → Visits Steps step (from, v) answer (to, w)
        → Visits Yields step (chosen from, v) answer (chosen to, w)
    binary_visit answer from to v w visit = let left = visit.left in record {
      events = visit.events;
      left = (chosen left.0, left.1);
      handed = hands_all from left.0 v left.1 visit.events visit.handed;
      ended = turn_of Steps Yields step left.0 to (chosen left.0) (chosen to)
          (yields_item left.0 to) left.1 w (last_turn answer) visit.ended;
    }
