-- Facts about bytes that may be unknown.
use Rattle.std.proofs.Common.{Option, None, Some, IfSome}

-- a fact that is true of all bytes is true of bytes that may be unknown
pub IfSome-all : {X : Type 0} (known : Option X) {P : X → Type 0} → ((bytes : X) → P bytes)
    → IfSome known P
IfSome-all None f = tt
IfSome-all (Some bytes) f = f _

-- a fact under a premise that is never true is true of bytes that may be unknown
pub IfSome-never : {X : Type 0} (known : Option X) {A : Type 0} (P : X → Type 0) → (A → ⊥)
    → IfSome known (λ bytes. A → P bytes)
IfSome-never known P f = IfSome-all known (λ bytes a. absurd (f a))

-- a fact that follows from two others is true if they are true of the same bytes
pub IfSome-both : {X : Type 0} (known : Option X) {P Q S : X → Type 0} → IfSome known P
    → IfSome known Q → ((bytes : X) → P bytes → Q bytes → S bytes) → IfSome known S
IfSome-both None p q f = tt
IfSome-both (Some bytes) p q f = f _ p q

-- a fact that follows from three others is true if they are true of the same bytes
pub IfSome-three : {X : Type 0} (known : Option X) {P Q R S : X → Type 0} → IfSome known P
    → IfSome known Q → IfSome known R → ((bytes : X) → P bytes → Q bytes → R bytes → S bytes)
    → IfSome known S
IfSome-three None p q r f = tt
IfSome-three (Some bytes) p q r f = f _ p q r
