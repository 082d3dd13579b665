use Rattle.std.proofs.Common.{◌≡◌, ℕ, List, Result, Ok, Err, sym, ◌∙◌}
use Rattle.std.specs.Prelude.{MatchResult}
use Rattle.std.specs.Result.{is_ok}
use Rattle.std.specs.Str.{IsUtf8, is_utf8}
use Rattle.std.proofs.lemmas.Str.{is_utf8-from_IsUtf8}
use Rattle.plist_decode.proofs.Contents.{not_utf8}
use Rattle.plist_decode.proofs.counted_content.is_utf8.Goals as goal

-- the call succeeds if and only if the bytes are UTF-8
told : {A E : Type 0} (bytes : List ℕ) (P : A → Type 0) (Q : E → Type 0) (answer : Result A E)
    → MatchResult answer (λ text. P text × IsUtf8 bytes) (λ e. (IsUtf8 bytes → ⊥) × Q e)
    → is_ok answer ≡ is_utf8 bytes
told bytes P Q (Ok text) h = sym (is_utf8-from_IsUtf8 bytes h.1)
told bytes P Q (Err e) h = sym (not_utf8 bytes h.0)

pub returns : goal.returns
returns c = c.is_ok.ensures.value ∙ told c.args.bytes.now _ _ c.from_utf8.result c.from_utf8.ensures.cases
