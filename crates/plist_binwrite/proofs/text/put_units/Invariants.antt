use Rattle.std.proofs.Common.{◌≡◌, ◌++◌, ℕ, List, IsUtf8}
use Rattle.std.specs.Str.Iter.{chars_rest}
use Rattle.plist_base.specs.Sinks.{Puts}
use Rattle.plist_base.specs.Utf16.{units_of}
use Rattle.plist_binwrite.specs.Forms.{table_form}
use Rattle.plist_binwrite.proofs.text.put_units.Given as goal

abbrev pub invariant-loop-c : goal.invariant-loop-c
invariant-loop-c g l = record {
  utf8 : IsUtf8 (chars_rest l.c-iterator);
  done : List ℕ;
  put : Puts g.W.Write.contents l.fn.sink (table_form 2 done) l.sink;
  left : done ++ units_of (chars_rest l.c-iterator) ≡ units_of l.text;
}
