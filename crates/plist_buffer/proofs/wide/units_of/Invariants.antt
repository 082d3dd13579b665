use Rattle.std.proofs.Common.{◌≡◌, ◌++◌, IsUtf8}
use Rattle.std.specs.Str.Iter.{chars_rest}
use Rattle.plist_base.specs.Utf16.{utf16_form}
use Rattle.plist_buffer.proofs.wide.units_of.Given as goal

-- the units of the characters so far are appended
abbrev pub invariant-loop-c : goal.invariant-loop-c
invariant-loop-c l = record {
  utf8 : IsUtf8 (chars_rest l.c-iterator);
  units : l.units.items ++ utf16_form (chars_rest l.c-iterator) ≡ utf16_form l.text;
}
