use Rattle.std.proofs.Common.{rules, ◌∙◌, ap, arith, eqb, ◌^◌, FitsSigned, w64}
use Rattle.std.specs.Prelude.{is_none}
use Rattle.std.proofs.lemmas.Int.{to_z-of_z}
use Rattle.plist_base.specs.Date.{has_fraction, second_of_bits, second_of_bytes}
use Rattle.plist_base.proofs.DateEncoding.{bytes_are, date_of_second}
use Rattle.plist_base.proofs.DateUnique.{one_date}
use Rattle.plist_base.proofs.date.Date.from_plist_secs.Goals as goal

pub invariant_of-result : goal.invariant_of-result
invariant_of-result c =
    let f : FitsSigned w64 c.args.second = search rules in
    let b = bytes_are c.to_be_bytes-bytes.result c.in_ok-bits.bits c.to_be_bytes-bytes.ensures (omega arith) in
    let is = simp to_z-of_z at c.in_ok-bits.ensures.in_range in
    let back = simp to_z-of_z at c.in_ok-bits.ensures.back in (
      (search rules, λ place. search rules),
      date_of_second (second_of_bytes c.to_be_bytes-bytes.result) c.to_be_bytes-bytes.result
          (ap is_none (ap second_of_bits b ∙ back.0))
          (ap (λ n. eqb n (2 ^ 63)) b ∙ is.1),
    )

pub returns-clause-only : goal.returns-clause-only
returns-clause-only c =
    let f : FitsSigned w64 c.args.second = search rules in
    let b = bytes_are c.to_be_bytes-bytes.result c.in_ok-bits.bits c.to_be_bytes-bytes.ensures (omega arith) in
    let back = simp to_z-of_z at c.in_ok-bits.ensures.back in
    λ other is whole second.
    one_date c.args.second c.to_be_bytes-bytes.result other (invariant_of-result c) is
    (ap has_fraction b ∙ back.1) whole (ap second_of_bits b ∙ back.0) second

pub returns-clause-date : goal.returns-clause-date
returns-clause-date c = invariant_of-result c
