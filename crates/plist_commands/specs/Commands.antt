-- The commands of the program, why they fail, what is reported, and how a run ends.
use Rattle.std.specs.Prelude.{◌≡◌, ◌≢◌, ℕ, Bool, true, false, List, [], ◌∷◌, ◌++◌, Option, Result, Ok, Err, String, codes, map, string_bytes}
use Rattle.std.specs.Io.KnownBytes.{Appends}
use Rattle.std.specs.declared.alloc.Global.{Global}
use Rattle.plist_base.specs.Faults as faults
use Rattle.plist_base.specs.Faults.{fault_of, fault_text}
use Rattle.plist_base.specs.Prefixes.{AppendsPrefix}
use Rattle.plist_keyed.specs.declared.error.KeyedError.{KeyedError}
use Rattle.plist_keyed.specs.Archives.{text_of_error}
use Rattle.plist_commands.specs.declared.commands.Command.{Command}
use Rattle.plist_commands.specs.declared.commands.Command.TheVariants as command
use Rattle.plist_commands.specs.declared.messages.Failure.{Failure}
use Rattle.plist_commands.specs.declared.messages.Failure.TheVariants as failure
use Rattle.plist_commands.specs.declared.messages.Message.{Message}
use Rattle.plist_commands.specs.declared.messages.Message.TheVariants as message

-- ---- why a command fails

-- the error of a property list, the error of an archive, or a key that names no object
pub data PlainFailure : Type 0 where
  OfPlist : faults.Fault → PlainFailure
  OfArchive : KeyedError → PlainFailure
  NoSuchTop : PlainFailure

-- what contracts see of a failure
abbrev pub plain_failure_of : Failure → PlainFailure
plain_failure_of (failure.Plist error) = OfPlist (fault_of error)
plain_failure_of (failure.Keyed error) = OfArchive error
plain_failure_of failure.NoSuchTop = NoSuchTop

-- the printed form of a failure
abbrev pub failure_text : PlainFailure → List ℕ
failure_text (OfPlist fault) = fault_text fault
failure_text (OfArchive error) = text_of_error error
failure_text NoSuchTop = codes "NoSuchTop"

-- the result of a command, as contracts see it
abbrev pub CommandOutcome : Type 0
CommandOutcome = Result (Unit {0}) PlainFailure

-- what contracts see of a result
abbrev pub outcome_of : {A : Type 0} → Result A Failure → CommandOutcome
outcome_of (Ok done) = Ok tt
outcome_of (Err failure) = Err (plain_failure_of failure)

-- ---- the messages that the program writes to standard error

-- how the program is used, or why a command failed
pub data PlainMessage : Type 0 where
  Usage : PlainMessage
  Fault : PlainFailure → PlainMessage

-- what contracts see of a message
abbrev pub plain_message_of : Message → PlainMessage
plain_message_of message.Usage = Usage
plain_message_of (message.Fault failure) = Fault (plain_failure_of failure.now)

-- the text of a message
abbrev pub message_text : PlainMessage → List ℕ
message_text Usage =
    codes "Usage: plist_tool print FILE | convert IN OUT | keyed FILE KEY\n"
message_text (Fault failure) = codes "Error: " ++ failure_text failure ++ codes "\n"

-- the whole message was written, or a prefix of it because a write failed
abbrev pub TakesMessage : PlainMessage → (whole : Bool) → (old new : Option (List ℕ)) → Type 0
TakesMessage said true old new = Appends old new (message_text said)
TakesMessage said false old new = AppendsPrefix old new (message_text said)

-- ---- the command that the arguments ask for

-- the commands of the program
pub data PlainCommand : Type 0 where
  Print : (file : List ℕ) → PlainCommand
  Convert : (from to : List ℕ) → PlainCommand
  Keyed : (file key : List ℕ) → PlainCommand

-- the arguments that ask for a command
abbrev pub words_for : PlainCommand → List (List ℕ)
words_for (Print file) = codes "print" ∷ file ∷ []
words_for (Convert from to) = codes "convert" ∷ from ∷ to ∷ []
words_for (Keyed file key) = codes "keyed" ∷ file ∷ key ∷ []

-- the arguments ask for no command
abbrev pub IsNoCommand : (words : List (List ℕ)) → Type 0
IsNoCommand words = (asked : PlainCommand) → ¬ (words ≡ words_for asked)

-- what contracts see of a command
abbrev pub plain_command_of : Command → PlainCommand
plain_command_of (command.Print file) = Print file.now
plain_command_of (command.Convert from to) = Convert from.now to.now
plain_command_of (command.Keyed file key) = Keyed file.now key.now

-- ---- how a run ends

-- how the program ends after this result of a command: with status 0 and without a report if it
-- succeeded; with status 1 if it failed, after its error was reported
abbrev pub IsStatusAfter : {E : Type 0} → (reports : E → PlainMessage → Bool → E → Type 0)
    → CommandOutcome → (status : ℕ) → (old new : E) → Type 0
IsStatusAfter reports (Ok done) status old new = (status ≡ 0) × (new ≡ old)
IsStatusAfter reports (Err failure) status old new =
    (status ≡ 1) × ((whole : Bool) × reports old (Fault failure) whole new)

-- the command may have this result, after which these are the known bytes of the output
abbrev pub MayEnd : {O : Type 0}
    → (answers : PlainCommand → Option (List ℕ) → CommandOutcome → Option (List ℕ) → Type 0)
    → (contents : O → Option (List ℕ)) → PlainCommand → (old : O) → CommandOutcome → (new : O)
    → Type 0
MayEnd answers contents command old answer new =
    answers command (contents old) answer (contents new)

-- the arguments ask for a command that may end with this result
abbrev pub Answered : {O : Type 0} → (ends : PlainCommand → O → CommandOutcome → O → Type 0)
    → (words : List (String Global)) → (old : O) → CommandOutcome → (new : O) → Type 0
Answered ends words old answer new =
    (asked : PlainCommand) × (map string_bytes words ≡ words_for asked) × ends asked old answer new

-- Unless the status is 2, the arguments ask for a command that may have some result, and the status
-- and the reports are those after this result. `before` and `after` are the output and the writer
-- of messages.
abbrev pub RunEnds : {O E : Type 0} → (ends : PlainCommand → O → CommandOutcome → O → Type 0)
    → (reports : E → PlainMessage → Bool → E → Type 0) → (words : List (String Global))
    → (status : ℕ) → (before after : O × E) → Type 0
RunEnds ends reports words status before after = status ≢ 2 → (answer : CommandOutcome)
    × Answered ends words before.0 answer after.0
    × IsStatusAfter reports answer status before.1 after.1
