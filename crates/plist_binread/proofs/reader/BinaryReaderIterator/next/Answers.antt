use Rattle.std.proofs.Common.{rules}
use Rattle.plist_binread.proofs.ReaderCalls.{gives_binary, gives_kept}
use Rattle.plist_binread.proofs.reader.BinaryReaderIterator.next.Goals as goal

pub returns-in-Some-clause-steps : goal.returns-in-Some-clause-steps
returns-in-Some-clause-steps g c =
    let turn = rw c.in-Some-Ok.field-0-is at c.in-Some-Ok.ensures.taken in
    rw c.in-Some.event-is (gives_kept c.args.self.now c.turn.new.self c.turn.new.visitor _ turn.0
    c.in-Some.event turn.1.taken c.in-Some.is turn.1.given)

pub returns-in-Some-Ok-clause-steps : goal.returns-in-Some-Ok-clause-steps
returns-in-Some-Ok-clause-steps g c = gives_binary _ _ _ (search rules)

pub returns-in-Some-Err-clause-steps : goal.returns-in-Some-Err-clause-steps
returns-in-Some-Err-clause-steps g c = gives_binary _ _ _ (search rules)

pub returns-clause-steps : goal.returns-clause-steps
returns-clause-steps g c = gives_binary _ _ _ (search rules)
