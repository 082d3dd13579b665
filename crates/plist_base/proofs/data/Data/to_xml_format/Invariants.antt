use Rattle.std.proofs.Common.{◌≡◌, string_bytes}
use Rattle.std.specs.List.{join_with_byte}
use Rattle.plist_base.specs.DataText.{first_lines}
use Rattle.plist_base.proofs.data.Data.to_xml_format.Given as goal

abbrev pub invariant-loop-line : goal.invariant-loop-line
invariant-loop-line l = string_bytes l.text ≡ join_with_byte 10 (first_lines l.line l.bytes)
