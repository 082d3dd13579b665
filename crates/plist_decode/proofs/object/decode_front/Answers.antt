use Rattle.std.proofs.Common.{◌-◌, ◌<◌, arith, length}
use Rattle.std.proofs.lemmas.Slice.{first_rest}
use Rattle.plist_decode.proofs.Decoding.{seen_after}
use Rattle.plist_decode.proofs.object.decode_front.Goals as goal

pub returns-clause-decoded : goal.returns-clause-decoded
returns-clause-decoded g c =
    let some : 0 < length c.args.seen.now = grind (arith, c.requires.starts, c.requires.shown) in
    seen_after c.args.decoder.now.bounds.reference_width _
    (c.args.decoder.now.bounds.trailer - c.args.place) c.args.seen.now _
    c.decode_after_marker-decoded.result (first_rest c.args.seen.now 0 some)
    c.decode_after_marker-decoded.ensures
