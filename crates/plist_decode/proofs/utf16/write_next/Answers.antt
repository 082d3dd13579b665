use Rattle.std.proofs.Common.{◌≡◌, ◌+◌, arith, length, rules}
use Rattle.std.proofs.lemmas.Simd.{take_more_put_chunk}
use Rattle.plist_decode.proofs.Utf16Writing.{room_for_block, room_for_one, writes_block, writes_one, writes_then}
use Rattle.plist_decode.proofs.utf16.write_next.Goals as goal

pub store-text : goal.store-text
store-text c =
    let room = room_for_block c.args.size c.in-Some.block _ c.in-Some.ensures.yielded
    c.in-Some.ensures.ascii c.requires in
    search (rules, room)

pub returns-in-Some-clause-some : goal.returns-in-Some-clause-some
returns-in-Some-clause-some c =
    let size = c.args.size in
    let room = room_for_block size c.in-Some.block _ c.in-Some.ensures.yielded
    c.in-Some.ensures.ascii c.requires in
    let long : size + 8 ≡ size + length c.in-Some.block = search rules in
    writes_block c.in-Some.block c.in-Some.ensures.yielded c.in-Some.ensures.ascii
    (take_more_put_chunk size c.args.text.now c.in-Some.block (size + 8) long
    (omega (arith, long, room))) long (search rules) c.requires

pub write_wide_char-requires-clause-room : goal.write_wide_char-requires-clause-room
write_wide_char-requires-clause-room c =
    room_for_one c.loop-c.end c.in-Some-next.c c.in-Some-next.ensures.steps
    c.loop-c.invariant.written.room

pub returns-then-code-ge128-clause-some : goal.returns-then-code-ge128-clause-some
returns-then-code-ge128-clause-some c =
    let put = c.write_wide_char.ensures in
    let same : c.next_eight_ascii.new.self ≡ c.args.chars.now = search rules in
    rw same at (writes_then c.loop-c.invariant.written
    (writes_one c.in-Some-next.c c.in-Some-next.ensures.steps put.written put.size put.length
    c.loop-c.invariant.written.room))
