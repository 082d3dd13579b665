-- Worked examples: the formats that some first bytes indicate.
use Rattle.std.specs.Prelude.{◌≡◌, [], ◌∷◌, codes, refl}
use Rattle.plist_decode.specs.declared.format.Format.TheVariants.{Binary, Xml, Ascii}
use Rattle.plist_decode.specs.Formats.{format_of}

example_binary : format_of (codes "bplist00") ≡ Binary
unfolding format_of
example_binary = refl

example_short : format_of (codes "bplist0") ≡ Ascii
unfolding format_of
example_short = refl

example_empty : format_of [] ≡ Ascii
unfolding format_of
example_empty = refl

example_xml : format_of (codes " <plist/>") ≡ Xml 1
unfolding format_of
example_xml = refl

example_mark : format_of (0xEF ∷ 0xBB ∷ 0xBF ∷ 60 ∷ []) ≡ Xml 3
unfolding format_of
example_mark = refl

example_marked_text : format_of (0xEF ∷ 0xBB ∷ 0xBF ∷ 123 ∷ 125 ∷ []) ≡ Ascii
unfolding format_of
example_marked_text = refl
