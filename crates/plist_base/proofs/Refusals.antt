-- Facts about the kind of a fault.
use Rattle.std.proofs.Common.{◌≡◌, subst, sym}
use Rattle.plist_base.specs.Faults.{FaultKind, Io, OutOfMemory, MatchFault, IsIo}

pub MatchFault-weaker : (kind : FaultKind) {A B C A' B' C' : Type 0} → (A → A') → (B → B')
    → (C → C') → MatchFault kind A B C → MatchFault kind A' B' C'
MatchFault-weaker Io f g h x = f x
MatchFault-weaker OutOfMemory f g h x = g x
MatchFault-weaker kind f g h x = h x

pub MatchFault-all : (kind : FaultKind) {A B C : Type 0} → A → B → C → MatchFault kind A B C
MatchFault-all Io a b c = a
MatchFault-all OutOfMemory a b c = b
MatchFault-all kind a b c = c

-- a fact about a known kind is one about any kind that is equal to it
pub MatchFault-at : (kind known : FaultKind) (A B C : Type 0) → kind ≡ known
    → MatchFault known A B C → MatchFault kind A B C
MatchFault-at kind known A B C is h = subst (λ k. MatchFault k A B C) (sym is) h

-- for an I/O error, the fact for I/O errors is enough
pub MatchFault-from_io : (kind : FaultKind) (A B C : Type 0) → IsIo kind → A → MatchFault kind A B C
MatchFault-from_io kind A B C h a =
    MatchFault-weaker kind (λ _. a) (λ none. absurd none) (λ none. absurd none) h
