-- What is written when a property list is complete, given the kind of file.
use Rattle.std.specs.Prelude.{◌≡◌, ℕ, ◌^◌, ◌≤◌, List, Option, None, Ok, Err}
use Rattle.std.specs.Io.KnownBytes.{Appends}
use Rattle.plist_base.specs.Bracketing.{bracketing, AreAlike, AreComplete}
use Rattle.plist_base.specs.Events.{PlainEvent}
use Rattle.plist_base.specs.Faults.{FaultKind, Io, OutOfMemory, PlistTooLarge}
use Rattle.plist_base.specs.Prefixes.{AppendsPrefix}
use Rattle.plist_base.specs.Trees.{Tree}
use Rattle.plist_base.specs.Writing.{Answer}

-- a kind of file: which bytes are a file of a tree, and how many bytes such a file has
pub record FileKind : Type 1 where
  pub IsFile : Tree → List ℕ → Type 0
  pub size : Tree → ℕ

-- the events are exactly those of a tree, of which this is true
abbrev pub IsOfTree : List PlainEvent → (says : Tree → Type 0) → Type 0
IsOfTree events says =
    AreComplete events × ((tree : Tree) → AreAlike events (bracketing tree) → says tree)

module _ (files : FileKind) {W : Type 0} (contents : W → Option (List ℕ)) where
  -- a file of the tree with these events was written
  abbrev pub SendsFileAs : (events : List PlainEvent) (old new : W) → Type 0
  SendsFileAs events old new = (file : List ℕ) × IsOfTree events (λ tree. files.IsFile tree file)
      × Appends (contents old) (contents new) file

  -- what a call that failed has written: a prefix of a file for `Io`, and nothing for any other
  -- error
  abbrev pub FailsAs : FaultKind → (events : List PlainEvent) (old new : W) → Type 0
  FailsAs Io events old new = (file : List ℕ) × IsOfTree events (λ tree. files.IsFile tree file)
      × AppendsPrefix (contents old) (contents new) file
  FailsAs PlistTooLarge events old new =
      IsOfTree events (λ tree. 2 ^ 64 ≤ files.size tree) × (new ≡ old)
  FailsAs OutOfMemory events old new = new ≡ old
  FailsAs kind events old new = ⊥

  -- what writing the file of a tree's events does
  abbrev pub SendsAs : (events : List PlainEvent) → Answer → (old new : W) → Type 0
  SendsAs events (Ok done) old new = SendsFileAs events old new
  SendsAs events (Err fault) old new =
      (fault.offset ≡ None) × FailsAs fault.kind events old new
