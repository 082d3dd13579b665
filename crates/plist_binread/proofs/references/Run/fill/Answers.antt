use Rattle.plist_binread.proofs.ChildReferences.{known_prefix}
use Rattle.plist_binread.proofs.references.Run.fill.Goals as goal

pub returns-in-Some : goal.returns-in-Some
returns-in-Some g c _ =
    let front = c.in-Some.ensures.cases in
    rw front.same (known_prefix (g.S.Source.known c.args.source.now) c.args.place 40 _ front.enough
    c.buffered.ensures.bytes)
