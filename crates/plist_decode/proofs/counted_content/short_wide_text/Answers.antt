use Rattle.std.proofs.Common.{◌≡◌, rules}
use Rattle.plist_base.specs.PackedScalars.{scalar_of_packed}
use Rattle.plist_base.specs.Trees.{String}
use Rattle.plist_base.specs.Utf16Strings.{string_of_utf16}
use Rattle.plist_decode.proofs.Decoding.{means_small}
use Rattle.plist_decode.proofs.counted_content.short_wide_text.Goals as goal

pub returns : goal.returns
returns c =
    let is : scalar_of_packed c.unwrap.result ≡ String (string_of_utf16 c.in-Some.text) = search rules in
    means_small c.small.result is c.in-Some.ensures.string c.small.ensures
