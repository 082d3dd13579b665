use Rattle.std.proofs.Common.{◌-◌, arith}
use Rattle.plist_binread.proofs.ChildReferences.{number_in_run}
use Rattle.plist_binread.proofs.references.Run.find.Goals as goal

pub returns : goal.returns
returns c = λ known run.
    let near = c.args.self.now in
    number_in_run known near.at (c.args.place - near.at) c.args.width c.args.place
    c.number_from.result near.bytes (omega (arith, c.if-place-self.false))
    (omega (arith, c.if-place-self.false, near.short)) c.number_from.ensures.value
    (run (omega (arith, c.if-place-self.false)))
