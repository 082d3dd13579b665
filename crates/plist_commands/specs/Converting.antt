-- What is written for a source's property list if no value is made of it, and what is buffered for
-- that, whatever the source returns.
use Rattle.std.specs.Prelude.{◌≡◌, ◌⊎◌, ℕ, Bool, true, false, List, map, Option, None, Some, Result, Ok, Err, IfErr, IfOk, IfSome, MatchResult, ⊤}
use Rattle.std.specs.Option.{option_map, option_map_or}
use Rattle.plist_base.specs.Bracketing.{bracketing, without_length, AreAlike, AreTreeEvents}
use Rattle.plist_base.specs.declared.error.Error.{Error}
use Rattle.plist_base.specs.declared.source.Source.{Ghosts}
use Rattle.plist_base.specs.Events.{PlainEvent, Item}
use Rattle.plist_base.specs.Faults.{Fault, OutOfMemory, fault_without_offset, fault_of, offset_of}
use Rattle.plist_base.specs.Trees.{Tree}
use Rattle.plist_base.specs.Visits.{YieldsAll, YieldsPlain, PlainItem}
use Rattle.plist_base.specs.Writing.{Answer}
use Rattle.plist_ascii.specs.declared.dialect.Dialect.TheVariants.{Lax}
use Rattle.plist_reader.specs.declared.reader.Reader.{Reader}
use Rattle.plist_reader.specs.Reader.{reader_source, Gives, IsNewReader, items_of_input}
use Rattle.plist_print.specs.Printing.{CountsReads}
use Rattle.plist.specs.ValueOfItems.{AreItemsOfTree, IsReadIfKnown}
use Rattle.plist.specs.LastWins.{last_wins}
use Rattle.plist.specs.FromReader.{IsReadFromFile}
use Rattle.plist.specs.SendingValues.{IsUnstored, SendsTree}
use Rattle.plist_commands.specs.declared.convert.FastPath.{FastPath}
use Rattle.plist_commands.specs.declared.convert.FastPath.TheVariants.{NotApplicable, Sent}

-- the bytes are a property list in which no dictionary has a key twice
abbrev pub BytesHaveKeysOnce : List ℕ → Type 0
BytesHaveKeysOnce bytes =
    (tree : Tree) × AreItemsOfTree (items_of_input bytes) tree × (last_wins tree ≡ tree)

-- nothing was written; if the bytes are known, they aren't a property list without repeated keys
abbrev pub LeavesToValue : {W : Type 0} → (known : Option (List ℕ)) → (old new : W) → Type 0
LeavesToValue known old new = (new ≡ old) × IfSome known (λ bytes. BytesHaveKeysOnce bytes → ⊥)

-- the bytes, if they are known, are read as some tree, and writing a file of it had this result
abbrev pub SendsRead : {W : Type 0} → (contents : W → Option (List ℕ)) → (known : Option (List ℕ))
    → Answer → (old new : W) → Type 0
SendsRead contents known answer old new =
    (tree : Tree) × IsReadIfKnown (option_map items_of_input known) (Ok tree)
    × SendsTree contents tree answer old new

-- if the call returned `Ok` with this value, the fact is true
abbrev pub IfOkIs : {A E : Type 0} → Result A E → A → Type 0 → Type 0
IfOkIs answer wanted P = IfOk answer (λ found. found ≡ wanted → P)

-- What converting the bytes does. If it writes a file, this is a file of the tree that is read from
-- the bytes. If it needs a value, nothing was written. If it fails, the error is that of reading or
-- of writing.
pub record Converts {W : Type 0} (contents : W → Option (List ℕ)) (known : Option (List ℕ))
    (answer : Result FastPath Error) (old new : W) : Type 0 where
  pub sent : IfOkIs answer Sent (SendsRead contents known (Ok tt) old new)
  pub left : IfOkIs answer NotApplicable (LeavesToValue known old new)
  pub refused : IfErr answer (λ error. ((new ≡ old)
      × IsReadIfKnown (option_map items_of_input known) (Err (fault_of error)))
      ⊎ SendsRead contents known (Err (fault_of error)) old new)

-- ---- the buffered events of a reader

-- the buffered events are those of a tree, and known items are those of the same tree
abbrev pub HoldsTree : (items : Option (List Item)) → (held : List PlainEvent) → Type 0
HoldsTree items held =
    AreTreeEvents held × IfSome items (λ all.
    (tree : Tree) × AreItemsOfTree all tree × AreAlike held (bracketing tree))

-- What collecting items does. If it returns `true`, the buffered events are those of the items'
-- tree. If it returns `false`, the items aren't those of a tree. If it fails, reading a value from
-- the items may fail with the same error.
pub record CollectsItems (items : Option (List Item)) (answer : Result Bool Error)
    (events : List PlainEvent) : Type 0 where
  pub held : IfOkIs answer true (HoldsTree items events)
  pub none : IfOkIs answer false (IfSome items (λ all. (tree : Tree) → AreItemsOfTree all tree → ⊥))
  pub refused : IfErr answer (λ error. IsReadIfKnown items (Err (fault_of error)))

module _ {I : Type 0} (gives : I → PlainItem → I → Type 0) where
  -- The source yielded events, and then nothing, or one that isn't buffered. If the result is
  -- `true`, nothing followed them, and they are buffered. Or the source yielded the error that is
  -- returned. Or an allocation failed.
  abbrev pub BuffersRun : (old : I) → Result Bool Error → (new : I) → (held : List PlainEvent)
      → Type 0
  BuffersRun old answer new held =
      (events : List PlainEvent) × (left : I) × YieldsAll gives old events left × MatchResult answer
      (λ whole. (gives left None new ⊎ ((event : PlainEvent) × gives left (Some (Ok event)) new))
      × (whole ≡ true → gives left None new × (held ≡ map without_length events)))
      (λ error. gives left (Some (Err error)) new
      ⊎ ((fault_of error ≡ fault_without_offset OutOfMemory) × (new ≡ left)))

-- the number of failed calls of a reader's source, or 0 if it has none
abbrev pub failures_in : {S : Type 0} {g : Ghosts S} → (failures : S → ℕ) → Reader S g → ℕ
failures_in failures reader = option_map_or failures (reader_source reader) 0

module _ {S : Type 0} (known : S → Option (List ℕ)) (failed : S → ℕ) where
  -- the events of a new reader of this source were buffered, and its failed reads were counted
  abbrev pub ReadsSource : (source : S) → Result Bool Error → (held : List PlainEvent) → Type 0
  ReadsSource source answer held =
      (reader : Reader S (record { known = known; failures = failed }))
      × (left : Reader S (record { known = known; failures = failed }))
      × IsNewReader reader source
      × BuffersRun (YieldsPlain (Gives known failed)) reader answer left held
      × CountsReads answer (failures_in failed reader) (failures_in failed left)

-- The result of a conversion, given that of buffering the events. If the events are those of a
-- whole property list, a file of them was written, or a value is needed, or writing failed. If they
-- aren't, a value is needed. If buffering failed, its error is returned.
abbrev pub ComesOfReading : (sent : Type 0) → Result Bool Error → Result FastPath Error → Type 0
ComesOfReading sent (Ok true) answer =
    MatchResult answer (λ found. found ≡ Sent → sent) (λ error. offset_of error ≡ None)
ComesOfReading sent (Ok false) answer = answer ≡ Ok NotApplicable
ComesOfReading sent (Err error) answer = answer ≡ Err error

-- a source's events were buffered, and this is the result of the conversion; `sends` says what was
-- written for them
abbrev pub ConvertsSource : {S : Type 0} (known : S → Option (List ℕ)) (failed : S → ℕ)
    (source : S) → Result FastPath Error → (sends : List PlainEvent → Type 0) → Type 0
ConvertsSource known failed source answer sends =
    (read : Result Bool Error) × (held : List PlainEvent)
    × ReadsSource known failed source read held × ComesOfReading (sends held) read answer

-- ---- the conversion of a file by its value

-- the result of storing a value with this tree: `Ok`, or why it isn't stored
abbrev pub StoresTree : Tree → Answer → Type 0
StoresTree tree (Ok done) = ⊤
StoresTree tree (Err fault) = IsUnstored tree fault

-- the result of a conversion, given what was read: that of storing the tree, or the fault
abbrev pub StoresRead : Result Tree Fault → Answer → Type 0
StoresRead (Ok tree) answer = StoresTree tree answer
StoresRead (Err fault) answer = answer ≡ Err fault

-- a file was read in the lax dialect if it is ASCII, and this is the result of storing what was read
abbrev pub ConvertsValue : (F : Type 0) → Answer → Type 0
ConvertsValue F answer =
    (read : Result Tree Fault) × IsReadFromFile F Lax read × StoresRead read answer
