use Rattle.std.proofs.Common.{◌≡◌, length, rules}
use Rattle.plist_decode.proofs.NumberRuns.{numbers_more}
use Rattle.plist_decode.proofs.numbers.read_numbers.Goals as goal

pub take_buffered-requires-clause-items : goal.take_buffered-requires-clause-items
take_buffered-requires-clause-items g c =
    let read : c.len-in-loop-source.result ≡ length c.loop-source.numbers.items = search rules in
    rw c.read_number.ensures.unchanged (numbers_more _ c.loop-source.numbers.items _ c.args.place
    c.args.width c.in_ok-number.number c.push_reserved.ensures.items
    (rw (← read) c.in_ok-number.ensures.value) c.loop-source.invariant.items)
