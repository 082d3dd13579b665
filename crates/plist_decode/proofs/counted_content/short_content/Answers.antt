use Rattle.std.proofs.Common.{◌≡◌, ◌-◌, ◌*◌, ◌%◌, ◌^◌, ◌<◌, ℕ, ap, arith, get_or, length, rules, subst, sym, take, ◌∙◌}
use Rattle.std.proofs.lemmas.List.{length-take-le, take-take}
use Rattle.std.proofs.lemmas.Nat.{pow_below}
use Rattle.plist_base.specs.PackedScalars.{scalar_of_packed}
use Rattle.plist_base.specs.Packing.{content_of, padded}
use Rattle.plist_base.specs.Trees.{Data}
use Rattle.plist_decode.proofs.Contents.{padded_back, small_take}
use Rattle.plist_decode.proofs.FirstBytes.{cut_eight}
use Rattle.plist_decode.proofs.counted_content.short_content.Goals as goal

pub returns-in-Some : goal.returns-in-Some
returns-in-Some c =
    let eight = c.in-Some.eight.now in
    let count = c.args.count in
    let number = c.from_be_bytes-number in
    let bits = 64 - 8 * count in
    let below : 2 ^ bits < 2 ^ 64 = pow_below bits 64 (omega (arith, c.if-count-gt0.true)) in
    let power : 1 * 2 ^ bits % 2 ^ 64 ≡ 2 ^ bits = omega (arith, below) in
    let front : eight ≡ take 8 c.args.bytes.now = search rules in
    let size : length eight ≡ 8 = search rules in
    let small = subst (λ xs. (i : ℕ) → get_or xs i 0 < 256) (sym front)
    (small_take 8 c.args.bytes.now (search rules)) in
    let long = length-take-le count eight (omega (arith, size, c.requires.0)) in
    padded_back (take count eight) _ (omega (arith, long, c.requires.0))
    (small_take count eight small)
    (sym (cut_eight eight count size small c.if-count-gt0.true c.requires.0)
    ∙ ap (λ n. n - n % 2 ^ bits) (sym number.ensures)
    ∙ ap (λ p. number.result - number.result % p) (sym power))
    ∙ ap padded (ap (take count) front ∙ take-take count 8 c.args.bytes.now c.requires.0)

pub returns-in_default : goal.returns-in_default
returns-in_default c =
    let count = c.args.count in
    let bytes = c.args.bytes.now in
    let is : scalar_of_packed c.unwrap.result ≡ Data (take count bytes) = search rules in
    padded_back (take count bytes) c.content.result
    (omega (arith, length-take-le count bytes c.requires.1, c.requires.0))
    (small_take count bytes (search rules))
    (sym (ap content_of is) ∙ c.unwrap.result.packed.contained ∙ sym c.content.ensures)
