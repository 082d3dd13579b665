-- The events of a value are collected, and their file is written.
use Rattle.std.proofs.Common.{◌≡◌, ℕ, List, ◌∷◌, [], ◌++◌, Option, Some, Result, Ok, Err, map, refl, sym, ap, ◌∙◌, subst, append_assoc, append-nil, None, IfErr}
use Rattle.plist_base.specs.Bracketing.{bracketing, without_length, lengthless, AreAlike, AreTreeEvents}
use Rattle.plist_base.specs.declared.error.Error.{Error}
use Rattle.plist_base.specs.declared.event.Event.{Event}
use Rattle.plist_base.specs.Events.{PlainEvent, event_of}
use Rattle.plist_base.specs.Faults.{FaultKind, Fault, Io, OutOfMemory, PlistTooLarge, fault_without_offset, fault_of}
use Rattle.plist_base.specs.Trees.{Tree}
use Rattle.plist_base.specs.Writing.{Answer, answer_of}
use Rattle.plist_base.proofs.Lengths.{alike_without_length, lengthless-is}
use Rattle.plist.specs.declared.stream.events.Events.{Events}
use Rattle.plist.specs.Events.{GivesEvent, remaining_events}
use Rattle.plist.proofs.GivenEvents.{event_comes}
use Rattle.plist.specs.SendingValues.{StopsSending, SendsTree}
use Rattle.plist_binwrite.specs.SendingAs.{FailsAs, SendsAs}
use Rattle.plist_binwrite.specs.Files.{least_files}

-- the events that were collected, and those that remain without lengths, are these
abbrev pub GatheredSoFar : List PlainEvent → (stored : List PlainEvent) → (left : Events) → Type 0
GatheredSoFar all stored left = stored ++ map without_length (remaining_events left) ≡ all

-- one more event was collected
pub gathered_more : (all stored new : List PlainEvent) (before after : Events)
    (item : Result Event Error) (event : Event) → GatheredSoFar all stored before
    → GivesEvent before (Some item) after → item ≡ Ok event
    → new ≡ stored ++ without_length (event_of event) ∷ [] → GatheredSoFar all new after
gathered_more all stored new before after item event so gives is grown =
    let given = event_comes (subst (λ i. GivesEvent before (Some i) after) is gives) in
    ap (λ l. l ++ map without_length (remaining_events after)) grown
    ∙ append_assoc stored (without_length (event_of event) ∷ []) (map without_length
    (remaining_events after))
    ∙ ap (λ l. stored ++ map without_length l) (sym given) ∙ so

-- if no events remain, all of them were collected
pub gathered_all : {all : List PlainEvent} (stored left : List PlainEvent)
    → stored ++ map without_length left ≡ all → left ≡ [] → stored ≡ all
gathered_all stored left so none = cc (append-nil stored)

pub gathered_alike : (tree : Tree) (es : List PlainEvent) → es ≡ lengthless tree
    → AreAlike es (bracketing tree)
gathered_alike tree es is =
    ap (map _) (is ∙ sym (lengthless-is _)) ∙ alike_without_length _

-- ---- writing them

module _ (tree : Tree) (es : List PlainEvent) (alike : AreAlike es (bracketing tree)) where
  pub whole_tree : AreTreeEvents es
  whole_tree = (tree, alike)

  module _ {W : Type 0} (contents : W → Option (List ℕ)) (old new : W) where
    stops : (kind : FaultKind) → FailsAs least_files contents kind es old new
        → StopsSending contents kind tree old new
    stops Io f = (f.0, f.1.1 _ alike, f.2)
    stops PlistTooLarge f = (f.0.1 _ alike, f.1)
    stops OutOfMemory f = (tt, f)
    stops kind f = absurd f

    pub sends_tree : (answer : Answer) → SendsAs least_files contents es answer old new
        → SendsTree contents tree answer old new
    sends_tree (Ok done) s = (s.0, s.1.1 _ alike, s.2)
    sends_tree (Err fault) s = (s.0, stops _ s.1)

pub wants_memory : {W : Type 0} (contents : W → Option (List ℕ)) (tree : Tree) (fault : Fault)
    (w : W) → fault ≡ fault_without_offset OutOfMemory → SendsTree contents tree (Err fault) w w
wants_memory contents tree fault w is =
    rw is (refl, (tt, refl))

-- an I/O error is possible after the whole file was written
stops_after : {W : Type 0} (contents : W → Option (List ℕ)) (tree : Tree) (fault : Fault)
    (old new : W) → SendsTree contents tree (Ok tt) old new → fault ≡ fault_without_offset Io
    → (fault.offset ≡ None) × StopsSending contents fault.kind tree old new
stops_after contents tree fault old new sent is =
    rw is (refl, (sent.0, sent.1, (sent.0, [], sent.2, sym (append-nil _))))

pub stored : {W : Type 0} (contents : W → Option (List ℕ)) (tree : Tree)
    (answer : Result (Unit {0}) Error) (old new : W) → SendsTree contents tree (Ok tt) old new
    → IfErr answer (λ error. fault_of error ≡ fault_without_offset Io)
    → SendsTree contents tree (answer_of answer) old new
stored contents tree (Ok done) old new sent is = sent
stored contents tree (Err error) old new sent is =
    stops_after contents _ (fault_of error) old new sent is

pub ruleset gathering = (gathered_more, gathered_all, lengthless-is)

pub ruleset sending = (gathered_alike, whole_tree, sends_tree, wants_memory)
