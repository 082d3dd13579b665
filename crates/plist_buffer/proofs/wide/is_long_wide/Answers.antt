use Rattle.std.proofs.Common.{◌≡◌, ◌≤◌, ◌+◌, ◌||◌, leb, false, true, length, ap, arith}
use Rattle.std.specs.Str.{encode_utf8_all}
use Rattle.plist_base.specs.Utf16Strings.{chars_left, string_of_utf16}
use Rattle.plist_buffer.specs.inner.LongContents.{is_ascii_text}
use Rattle.plist_buffer.proofs.TextUnits.{bytes_step, wide_first, wide_later}
use Rattle.plist_buffer.proofs.wide.is_long_wide.Goals as goal
use Rattle.plist_buffer.proofs.wide.is_long_wide.Goals.{After-saturating_add-count}

-- the string isn't ASCII if a character up to this one isn't
is_wide : (c : After-saturating_add-count) → (c.loop-c.is_wide || leb 128 c.in-Some.c) ≡ true
    → is_ascii_text (string_of_utf16 c.args.text) ≡ false
is_wide c h = grind (
  arith,
  c.loop-c.invariant.wide,
  c.loop-c.invariant.later,
  c.in-Some.ensures.steps,
  wide_first c.in-Some.c (chars_left c.next.new.self),
)

-- the string has the bytes that are counted
is_long : (c : After-saturating_add-count)
    → c.saturating_add-count.result + length (encode_utf8_all (chars_left c.next.new.self))
    ≤ length (string_of_utf16 c.args.text)
is_long c = grind (
  arith,
  c.loop-c.invariant.long,
  c.len_utf8.ensures.value,
  ap (λ cs. length (encode_utf8_all cs)) c.in-Some.ensures.steps,
  bytes_step c.in-Some.c (chars_left c.next.new.self),
)

pub loop-c-preserved : goal.loop-c-preserved
loop-c-preserved c =
    let a = (goal.at.loop-c-preserved c).After-saturating_add-count in
    record {
      long = is_long a;
      wide = is_wide a;
      later = λ later. c.loop-c.invariant.later (rw c.in-Some.ensures.steps
          (wide_later c.in-Some.c (chars_left c.next.new.self) later));
    }

pub returns-then-count-gt8-clause-wide : goal.returns-then-count-gt8-clause-wide
returns-then-count-gt8-clause-wide c =
    let a = (goal.at.returns-then-count-gt8-clause-wide c).After-saturating_add-count in
    λ found. is_wide a c.if-is_wide.true

pub returns-then-count-gt8-clause-long : goal.returns-then-count-gt8-clause-long
returns-then-count-gt8-clause-long c =
    let a = (goal.at.returns-then-count-gt8-clause-long c).After-saturating_add-count in
    λ found. omega (arith, is_long a)
