use Rattle.std.proofs.Common.{◌≡◌, ◌++◌, [], ap, append-nil, append_assoc, sym, ◌∙◌}
use Rattle.std.specs.Char.Escape.{encode_utf16}
use Rattle.std.specs.Int.{bytes_high_first}
use Rattle.std.specs.Str.Iter.{chars_rest}
use Rattle.std.proofs.lemmas.Grind.{flat_map-append}
use Rattle.std.proofs.lemmas.Str.{IsUtf8-past_char}
use Rattle.plist_base.proofs.SinkSteps.{puts_as, puts_none, puts_then}
use Rattle.plist_base.specs.Utf16.{units_of}
use Rattle.plist_binwrite.specs.Forms.{table_form}
use Rattle.plist_buffer.proofs.TextUnits.{units_empty, units_step}
use Rattle.plist_binwrite.proofs.text.put_units.Goals as goal

pub loop-c-init : goal.loop-c-init
loop-c-init g c =
    let is : chars_rest c.into_iter-c-iterator.result ≡ c.args.text.now =
    cc (c.into_iter-c-iterator.ensures.into_iter_gives, c.chars-c-items.ensures.rest) in
    record {
      utf8 = rw is c.utf8.text;
      done = [];
      put = puts_none;
      left = ap units_of is;
    }

pub loop-c-preserved : goal.loop-c-preserved
loop-c-preserved g c =
    let i = c.loop-c.invariant in
    let parts = c.in-Some.ensures.steps.0 in
    let x = c.in-Some.c in
    record {
      utf8 = IsUtf8-past_char _ _ x i.utf8 parts;
      done = i.done ++ encode_utf16 x;
      put = puts_as (sym (flat_map-append (bytes_high_first 2) i.done (encode_utf16 x)))
          (puts_then i.put c.put_char.ensures);
      left = append_assoc i.done (encode_utf16 x) _
          ∙ ap (λ l. i.done ++ l) (sym (units_step _ _ x i.utf8 parts)) ∙ i.left;
    }

pub returns : goal.returns
returns g c =
    let i = c.loop-c.invariant in
    let none = units_empty _ c.in-None.ensures.steps.0.0 in
    puts_as (ap (table_form 2) (cc (append-nil i.done, none, i.left))) i.put
