use Rattle.std.proofs.Common.{refl}
use Rattle.plist_base.specs.Events.{EndCollection}
use Rattle.plist_decode.proofs.Contents.{content_refused}
use Rattle.plist_decode.proofs.FaultOffsets.{passed}
use Rattle.plist_decode.specs.StepFaults.{error_of}
use Rattle.plist_binread.proofs.hand.hand_far.Goals as goal

pub returns-in_err-bytes-clause-handed : goal.returns-in_err-bytes-clause-handed
returns-in_err-bytes-clause-handed g c =
    rw (passed _ c.from_residual.ensures.1) (record {
      event = EndCollection;
      is = content_refused (g.S.Source.known c.args.source.now) c.args.content.kind c.args.place _ _
          (error_of c.in_err-bytes.field-0.0 c.read_content.new.decoder.details)
          c.in_err-bytes.ensures.refused;
      taken = refl;
    })
