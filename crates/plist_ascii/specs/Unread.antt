-- The bytes that an input hasn't taken yet, what a read or a part of a token takes of them, and how
-- the count of failures changes.
use Rattle.std.specs.Prelude.{◌≡◌, ℕ, ◌-◌, ◌^◌, Bool, true, false, not, ◌==◌, List, [], ◌∷◌, take, Option, Some, IfSome, IsSomeAnd, MatchOption}
use Rattle.std.specs.Io.KnownBytes.{Consumes, IsAtEnd}
use Rattle.std.specs.List.{cons_option}
use Rattle.std.specs.Option.{option_map}
use Rattle.plist_base.specs.Sources.{Rises}
use Rattle.plist_ascii.specs.declared.input.Input.{Input}
use Rattle.plist_ascii.specs.declared.stop.Stop.{Stop}
use Rattle.plist_ascii.specs.declared.stop.Stop.TheVariants as stop
use Rattle.plist_ascii.specs.TokenPrefixes.{code_of}
use Rattle.plist_ascii.specs.Texts.{ends_bare, ends_run}
use Rattle.plist_ascii.specs.Ascii.{is_blank}

-- the byte that was returned is removed from the known bytes; `None` is returned only at their end
abbrev pub GivesByte : Option (List ℕ) → Option ℕ → Option (List ℕ) → Type 0
GivesByte old byte new = MatchOption byte (Consumes old new [] × IsAtEnd new)
    (λ byte. Consumes old new (byte ∷ []))

-- if failures are counted, their count rose or is at its maximum
abbrev pub RisesIfCounted : Option ℕ → Option ℕ → Type 0
RisesIfCounted old new = IfSome old (λ old. IsSomeAnd new (Rises old))

-- ---- bytes that were not taken yet

-- the bytes that can be taken: one that was looked at, if any, and then the others, up to a total
-- of 2^64 - 1
abbrev pub readable_with : Option ℕ → (taken : ℕ) → List ℕ → List ℕ
readable_with peeked taken bytes = take (2 ^ 64 - 1 - taken) (cons_option peeked bytes)

-- the bytes not taken yet, if they are known; none after the input has ended
unfoldable pub unread_of : Option (List ℕ) → (ended : Bool) → Option ℕ → (taken : ℕ)
    → Option (List ℕ)
unread_of known true peeked taken = Some []
unread_of known false peeked taken = option_map (λ bytes. readable_with peeked taken bytes) known

-- the bytes that an input hasn't taken yet
abbrev pub unread : {R : Type 0} → (R → Option (List ℕ)) → Input R → Option (List ℕ)
unread known input = unread_of (known input.inner) input.ended input.peeked input.taken

-- a fact about the bytes, if they are known
abbrev pub IfKnown : Option (List ℕ) → (List ℕ → Type 0) → Type 0
IfKnown known P = (bytes : List ℕ) → known ≡ Some bytes → P bytes

-- does the byte end a run?
abbrev pub stops : Stop → ℕ → Bool
stops stop.Lead c = not (is_blank c)
stops (stop.Bare dialect) c = ends_bare dialect c
stops stop.LineEnd c = c == code_of "\n"
stops stop.Star c = c == code_of "*"
stops (stop.Quoted quote) c = ends_run quote c
