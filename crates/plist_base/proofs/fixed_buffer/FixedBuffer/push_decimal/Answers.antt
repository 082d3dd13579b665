use Rattle.std.proofs.Common.{◌≡◌, length, rules, arith, ap, ◌∙◌, ◌++◌, length-append}
use Rattle.std.specs.Fmt.{decimal}
use Rattle.std.proofs.lemmas.List.{length-take-le, with_items_is}
use Rattle.plist_base.proofs.Digits.{at_most_twenty, written_after}
use Rattle.plist_base.proofs.fixed_buffer.FixedBuffer.push_decimal.Goals as goal

pub write_digits-requires : goal.write_digits-requires
write_digits-requires c =
    let few = at_most_twenty c.args.number c.ranges.number.fits in
    let used = c.self.inside.used in
    let long = length-take-le used c.self.inside.bytes.items (omega (arith, c.self.invariant)) in
    omega (
      arith,
      few,
      long,
      ap length c.self.view_is,
      c.requires.room,
      c.self.invariant,
      c.digits_of.ensures,
      c.as_mut_slice.ensures.len,
    )

pub returns-clause-pushed : goal.returns-clause-pushed
returns-clause-pushed c =
    let bytes = c.self.inside.bytes in
    let same : length c.write_digits.new.buf ≡ bytes.len = search rules in
    rw (with_items_is bytes c.write_digits.new.buf same)
    (written_after _ _ _ _ _ c.self.inside.used _ c.write_digits.ensures.start
    (omega (arith, c.digits_of.ensures))
    (rw c.as_mut_slice.ensures.value at c.write_digits.ensures.before)
    c.write_digits.ensures.written
    ∙ ap (λ front. front ++ decimal c.args.number) c.self.view_is)

pub returns-clause-room : goal.returns-clause-room
returns-clause-room c =
    let few = at_most_twenty c.args.number c.ranges.number.fits in
    omega (
      arith,
      few,
      ap length (returns-clause-pushed c),
      length-append c.args.self.now (decimal c.args.number),
    )
