use Rattle.std.proofs.Common.{Some, ap, rules}
use Rattle.plist_decode.specs.Reading.{IsFrontAt}
use Rattle.plist_decode.proofs.Decoding.{seen_decodes, seen_fits}
use Rattle.plist_decode.proofs.Markers.{object_in-beyond}
use Rattle.plist_decode.proofs.UnknownBytes.{IfSome-all}
use Rattle.plist_decode.proofs.object.read_object.Goals as goal

pub returns-then-place-decoder-clause-refused : goal.returns-then-place-decoder-clause-refused
returns-then-place-decoder-clause-refused g c =
    let bounds = c.args.decoder.now.bounds in
    IfSome-all (g.S.Source.known c.args.source.now) (λ bytes fits. (
      object_in-beyond bytes bounds.reference_width bounds.trailer c.args.place fits
          c.if-place-decoder.true,
      ap Some c.fail_at.ensures,
    ))

pub returns-clause-decoded : goal.returns-clause-decoded
returns-clause-decoded g c =
    let front : IsFrontAt (g.S.Source.known c.args.source.now) c.args.decoder.now.bounds c.args.place
    c.read_exact_at.new.buf
    = record {
      front = record { starts = search rules; within = search rules; shown = search rules };
      lies = rw (← c.in_ok-keep_error.ensures.answer) at c.read_exact_at.ensures.bytes;
    } in
    seen_decodes _ c.args.decoder.now.bounds c.args.place _ c.decode_front.result front
    c.decode_front.ensures.decoded

pub returns-clause-fits : goal.returns-clause-fits
returns-clause-fits g c =
    seen_fits c.args.decoder.now.bounds c.args.place c.read_exact_at.new.buf c.decode_front.result
    (search rules) c.decode_front.ensures.decoded
