-- A writer's bytes after some writes.
use Rattle.std.proofs.Common.{◌≡◌, ℕ, ◌+◌, List, [], take, drop, Option, sym, append-nil}
use Rattle.std.specs.Io.KnownBytes.{Appends, Keeps}
use Rattle.std.proofs.KnownBytes.{Appends-kept, Appends-trans}
use Rattle.std.proofs.Math.Seq.{take-add}
use Rattle.std.proofs.lemmas.List.{take-append-drop}
use Rattle.plist_base.specs.Prefixes.{AppendsPrefix}

pub Appends-at : (old new : Option (List ℕ)) (xs ys : List ℕ) → xs ≡ ys → Appends old new xs
    → Appends old new ys
Appends-at old new xs ys same h = rw (← same) h

-- ---- a prefix of some bytes

pub Appends-part : (a b c : Option (List ℕ)) (bytes : List ℕ) (done count : ℕ)
    → Appends a b (take done bytes) → Appends b c (take count (drop done bytes))
    → Appends a c (take (done + count) bytes)
Appends-part a b c bytes done count h g =
    Appends-at a c _ _ (sym (take-add _ _ _)) (Appends-trans a b c _ _ h g)

-- a write fails
pub front_kept : (a b c : Option (List ℕ)) (bytes : List ℕ) (done : ℕ)
    → Appends a b (take done bytes) → Keeps b c → AppendsPrefix a c bytes
front_kept a b c bytes done h kept = (
  take done bytes,
  drop done bytes,
  Appends-kept a b c _ h kept,
  sym
      (take-append-drop done bytes),
)

-- a write takes no byte
pub front_none : (a b c : Option (List ℕ)) (bytes : List ℕ) (done : ℕ)
    → Appends a b (take done bytes) → Appends b c [] → AppendsPrefix a c bytes
front_none a b c bytes done h none = (
  take done bytes,
  drop done bytes,
  Appends-at a c _ _ (append-nil (take done bytes))
      (Appends-trans a b c _ _ h none),
  sym (take-append-drop done bytes),
)
