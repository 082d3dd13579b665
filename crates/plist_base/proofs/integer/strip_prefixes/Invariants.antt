use Rattle.std.proofs.Common.{◌≡◌, length}
use denote.Text.{Utf8}
use denote.Shadow.{shadow}
use Rattle.plist_base.specs.IntegerText.{without_prefixes}
use Rattle.plist_base.proofs.integer.strip_prefixes.Given as goal

abbrev pub invariant-prefixes : goal.invariant-prefixes
invariant-prefixes l = shadow (Utf8 l.rest) × (without_prefixes l.rest ≡ without_prefixes l.fn.text)

abbrev pub decreases-prefixes : goal.decreases-prefixes
decreases-prefixes l = length l.rest
