use Rattle.std.proofs.Common.{◌≡◌, ap, length, ℕ, zero, suc, ◌*◌, ◌%◌, ◌^◌, ◌<◌, ◌≤◌, arith}
use Rattle.std.proofs.lemmas.List.{length-drop, length-take-le}
use Rattle.plist_decode.proofs.Lengths.{length_cut, length_front, lies_behind, tail_whole}
use Rattle.plist_decode.proofs.counted_content.split_length.Goals as goal

power_small : (k : ℕ) → k < 4 → 2 ^ k ≤ 8
power_small zero h = omega arith
power_small (suc zero) h = omega arith
power_small (suc (suc zero)) h = omega arith
power_small (suc (suc (suc zero))) h = omega arith
power_small (suc (suc (suc (suc k)))) h = omega arith

-- the number of bytes as the code computes it
abbrev size : (byte : ℕ) → ℕ
size byte = 1 * 2 ^ (byte % 4) % 2 ^ 64

width : (byte : ℕ) → (size byte ≡ 2 ^ (byte % 4)) × (size byte ≤ 8)
width byte =
    let small = power_small (byte % 4) (omega arith) in (omega (arith, small), omega (arith, small))

pub returns-then-following-width-clause-cut : goal.returns-then-following-width-clause-cut
returns-then-following-width-clause-cut c =
    let w = width c.in_ok-byte.byte.now in
    length_cut c.args.low c.in_ok-byte.byte.now _ c.args.rest.now
    c.in_ok-byte.following.now (omega (arith, c.in_default.ensures)) c.in_ok-byte.ensures.cases.0
    w.0 w.1 c.if-following-width.true

pub returns-clause-length : goal.returns-clause-length
returns-clause-length c = λ more.
    rw c.number_from.ensures.value (length_front c.args.low c.in_ok-byte.byte.now
    _ c.args.rest.now c.in_ok-byte.following.now (omega (arith, c.in_default.ensures))
    c.in_ok-byte.ensures.cases.0 (width c.in_ok-byte.byte.now).0
    _ more c.if-following-width.false
    (tail_whole _ c.in_ok-byte.following.now))

pub returns-clause-after : goal.returns-clause-after
returns-clause-after c =
    lies_behind c.in_ok-byte.byte.now _ c.args.rest.now
    c.in_ok-byte.following.now _ c.in_ok-byte.ensures.cases.0 c.if-following-width.false
    (tail_whole _ c.in_ok-byte.following.now)

pub number_from-requires : goal.number_from-requires
number_from-requires c =
    let byte = c.in_ok-byte.byte.now in
    let small = (width byte).1 in
    let long = length-take-le (size byte) c.in_ok-byte.following.now c.if-following-width.false in
    omega (arith, small, long)

pub returns-clause-near : goal.returns-clause-near
returns-clause-near c =
    let byte = c.in_ok-byte.byte.now in
    let small = (width byte).1 in
    let rest = length-drop (size byte) c.in_ok-byte.following.now in
    rw (tail_whole (size byte) c.in_ok-byte.following.now)
    (omega (arith, small, rest, ap length c.in_ok-byte.ensures.cases.0))
