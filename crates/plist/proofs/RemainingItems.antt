-- How the readers, and the events of a value, predict the items that remain.
use Rattle.std.proofs.Common.{◌≡◌, ℕ, List, Option, Some, None, Result, Ok, Err, IfSome, map, refl, ap, ◌∙◌, subst, option_map, ◌++◌}
use Rattle.std.specs.Bool.{⊤}
use Rattle.plist_base.specs.declared.error.Error.{Error}
use Rattle.plist_base.specs.declared.event.Event.{Event}
use Rattle.plist_base.specs.Events.{Item, event_of}
use Rattle.plist_base.specs.Faults.{Fault, fault_of}
use Rattle.plist_base.specs.Outcomes.{OnlyMemory}
use Rattle.plist_base.specs.Trees.{Tree}
use Rattle.plist_ascii.specs.declared.reader.AsciiReader.{AsciiReader}
use Rattle.plist_ascii.specs.Ascii.{BeginsWithText, items_of_ascii}
use Rattle.plist_ascii.specs.declared.dialect.Dialect.{Dialect}
use Rattle.plist_ascii.specs.Texts.{ends_bare}
use Rattle.plist_base.specs.declared.source.Source.{Ghosts}
use Rattle.plist_binread.specs.declared.reader.BinaryReader.{BinaryReader}
use Rattle.plist_base.specs.Unfolding.{items_of_file}
use Rattle.plist_reader.specs.Reader.{Gives, items_of_dialect, reader_items}
use Rattle.plist_decode.specs.Formats.{input_front, format_of}
use Rattle.plist_reader.specs.declared.reader.Reader.{Reader}
use Rattle.plist_binread.specs.Remaining.{AllocatesNext, SomeRemain}
use Rattle.plist.specs.declared.stream.events.Events.{Events}
use Rattle.plist.specs.Collecting.{Collects, built_tree}
use Rattle.plist.specs.declared.value.Value.{Value}
use Rattle.plist.specs.ValueOfItems.{IsPredicted, IsValueOf, IsReadIfKnown, ReadsBackIn}
use Rattle.plist_base.specs.FirstItems.{StopsIf}
use Rattle.plist.specs.Events.{BeginsWithStart, GivesEvent, remaining_events}
use Rattle.plist_decode.specs.declared.counter.DecodeCounter.{Ghosts as CounterGhosts}
use Rattle.plist_base.specs.Bracketing.{bracketing}
use Rattle.plist_base.specs.Container.{magic}
use Rattle.plist_binwrite.specs.Written.{IsWrittenAs}
use Rattle.plist.specs.ValueTrees.{tree_of}
use Rattle.plist.proofs.PredictedItems.{back, only-memory, predicted}
use Rattle.plist.proofs.ValueLastWins.{itself}
use Rattle.plist_ascii.specs.AsciiReader as ascii
use Rattle.plist_binread.specs.BinaryReader as binary
use Rattle.plist_decode.specs.declared.format.Format.TheVariants as format

abbrev Given : Type 0
Given = Option (Result Event Error)

-- ---- known bytes

pub joined : {A B C : Type 0} (f : B → C) (g : A → B) (k : Option A)
    → option_map f (option_map g k) ≡ option_map (λ x. f (g x)) k
joined f g None = refl
joined f g (Some x) = refl

-- the result is the value of the items of these bytes
pub of-items : (f : List ℕ → List Item) (k : Option (List ℕ)) (items : Option (List Item))
    (answer : Result Tree Fault) → items ≡ option_map f k → IsReadIfKnown items answer
    → IfSome k (λ bytes. IsValueOf (f bytes) answer)
of-items f None items answer e h = tt
of-items f (Some bytes) items answer e h = subst (λ o. IsReadIfKnown o answer) e h

-- ---- a reader of ASCII property lists

pub ascii-shows : {R : Type 0} (known : R → Option (List ℕ)) (failed : R → Option ℕ)
    (old new : AsciiReader R) (item : Given) → ascii.GivesAscii known failed old item new
    → IsPredicted event_of (ascii.ascii_items_to_come known old) item
    (ascii.ascii_items_to_come known new)
ascii-shows known failed old new item gives =
    predicted event_of (StopsIf (λ _. ⊤)) (StopsIf BeginsWithText)
    (ascii.ascii_items_to_come known old) (ascii.ascii_items_to_come known new) item gives.items

pub ascii-start : (now given : Dialect) (k left : Option (List ℕ)) (place : ℕ) → now ≡ given
    → left ≡ option_map input_front k → place ≡ 0
    → option_map (λ bytes. items_of_ascii (ends_bare now) bytes place) left
    ≡ option_map (λ bytes. items_of_ascii (ends_bare given) (input_front bytes) 0) k
ascii-start now given k left place d e z =
    (λ i. option_map (λ bytes. items_of_ascii (ends_bare (d i)) bytes (z i)) (e i))
    ∙ joined _ input_front k

-- ---- a reader of binary property lists

pub binary-shows : {R C : Type 0} {g : Ghosts R} {h : CounterGhosts C}
    (old new : BinaryReader R C g h) (item : Given) → binary.GivesBinary old item new
    → IsPredicted event_of (binary.file_items g.known old) item (binary.file_items g.known new)
binary-shows {g = g} old new item gives =
    predicted event_of (StopsIf SomeRemain) (StopsIf (AllocatesNext (binary.is_new old)))
    (binary.file_items g.known old) (binary.file_items g.known new) item gives.items

pub of-binary : {R C : Type 0} {g : Ghosts R} {h : CounterGhosts C} (known : R → Option (List ℕ))
    (source : R) (iter new : BinaryReader R C g h) (answer : Result Tree Fault) → iter ≡ new
    → binary.file_items known new ≡ option_map items_of_file (known source)
    → IsReadIfKnown (binary.file_items known iter) answer
    → IfSome (known source) (λ bytes. IsValueOf (items_of_file bytes) answer)
of-binary known source iter new answer is items seen =
    of-items items_of_file (known source) (binary.file_items known iter) answer
    (ap (binary.file_items known) is ∙ items) seen

-- ---- the events of a value

-- the items that remain of a value's events
abbrev pub events_coming : Events → Option (List Item)
events_coming events = Some (map Ok (remaining_events events))

pub events-show : (before after : Events) (item : Given) → GivesEvent before item after
    → IsPredicted event_of (events_coming before) item (events_coming after)
events-show before after item h =
    predicted event_of (λ _ _. ⊥) (StopsIf (λ _. BeginsWithStart (remaining_events before)))
    (events_coming before) (events_coming after) item
    (map Ok (remaining_events after), refl, h.items)

-- ---- a reader of either format

pub reader-shows : {R : Type 0} {g : Ghosts R} (known : R → Option (List ℕ)) (failed : R → ℕ)
    (old new : Reader R g) (item : Given) → Gives known failed old item new
    → IsPredicted event_of (reader_items known old) item (reader_items known new)
reader-shows known failed old new item gives =
    predicted event_of (StopsIf (λ _. ⊤)) (StopsIf SomeRemain) (reader_items known old)
    (reader_items known new) item gives.items

-- building a value from a value's events fails only with `OutOfMemory`
pub memory-alone : (tree : Tree) (events : Events) (answer : Result Value Error)
    → remaining_events events ≡ bracketing tree
    → Collects event_of GivesEvent events (built_tree answer) → OnlyMemory answer
memory-alone tree events (Ok value) is collected = tt
memory-alone tree events (Err error) is collected =
    only-memory event_of GivesEvent events_coming
    (λ old item new gives. events-show old new item gives) tree events
    (ap (λ l. Some (map Ok l)) is) (λ old new why gives. gives.memory) (fault_of error) collected

begins-binary : (file rest : List ℕ) → file ≡ magic ++ rest → format_of file ≡ format.Binary
unfolding format_of
begins-binary file rest e = ap format_of e

input-is : (dialect : Dialect) (tree : Tree) (file : List ℕ) → IsWrittenAs tree file
    → items_of_dialect dialect file ≡ map Ok (bracketing tree)
input-is dialect tree file w = cc (begins-binary file _ w.is)

pub reads-back : (dialect : Dialect) (k : Option (List ℕ)) (answer : Result Tree Fault)
    → IfSome k (λ bytes. IsValueOf (items_of_dialect dialect bytes) answer)
    → ReadsBackIn k answer
reads-back dialect None answer h = tt
reads-back dialect (Some file) answer h =
    λ value w. back (tree_of value) (items_of_dialect dialect file) answer (itself value)
    (input-is dialect (tree_of value) file w) h
