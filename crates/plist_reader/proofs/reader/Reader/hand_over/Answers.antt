use Rattle.std.proofs.Common.{refl}
use Rattle.plist_reader.proofs.Turns.{ascii_turn}
use Rattle.plist_reader.proofs.reader.Reader.hand_over.Goals as goal

pub returns-in-Ascii-clause-turn : goal.returns-in-Ascii-clause-turn
returns-in-Ascii-clause-turn g c =
    ascii_turn g.R.Source.known g.R.Source.failures g.V.EventVisitor.step c.args.self.now _
    c.in-Ascii.reader c.hand_over.new.self c.args.visitor.now _ c.hand_over.result c.in-Ascii.is refl
    c.hand_over.ensures.turn
