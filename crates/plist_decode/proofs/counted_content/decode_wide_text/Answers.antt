use Rattle.std.proofs.Common.{refl, arith, ap, ◌∙◌, ◌≡◌, ◌++◌, ◌*◌, ◌≤◌, length, take}
use Rattle.std.proofs.lemmas.List.{take-append-le}
use Rattle.plist_base.specs.Object.{wide_text}
use Rattle.plist_decode.specs.Decoding.{is_small_object}
use Rattle.plist_decode.specs.declared.decoded.ContentKind.TheVariants.{WideText as KindWideText}
use Rattle.plist_decode.proofs.Contents.{large_content}
use Rattle.plist_decode.proofs.Decoding.{content_enough, few_bytes, long_decoded}
use Rattle.plist_decode.proofs.counted_content.decode_wide_text.Goals as goal
use Rattle.plist_decode.proofs.counted_content.decode_wide_text.Goals.{In-Some}

pub returns-then-count-gt8 : goal.returns-then-count-gt8
returns-then-count-gt8 c = λ width first more whole.
    let found = c.in-Some.ensures.count more whole in
    long_decoded KindWideText c.args.low c.in-Some.count first
    c.args.rest.bytes.now c.in-Some.following.now more found.0 found.1 c.in-Some.ensures.short
    c.in-Some.ensures.after (large_content KindWideText c.in-Some.count _ (omega arith) found.1) width

-- all units are among the bytes that were read
units_seen : (c : In-Some) → c.in-Some.count ≤ 8
    → 2 * c.in-Some.count ≤ length c.in-Some.following.now
units_seen c few = content_enough (2 * c.in-Some.count) c.args.rest.to_trailer _ _ c.args.rest.shown
    (omega (arith, c.in-Some.ensures.within)) c.in-Some.ensures.short c.in-Some.ensures.near
    (omega arith)

pub returns-in-None : goal.returns-in-None
returns-in-None c = λ width first more whole.
    let found = c.in-Some.ensures.count more whole in
    let count = c.in-Some.count in
    let following = c.in-Some.following.now in
    let seen = units_seen (goal.at.returns-in-None c).In-Some c.if-count-gt8.false in
    let two : count * 2 ≡ 2 * count = omega arith in
    let same : take (count * 2) (following ++ more) ≡ take (2 * count) following =
    ap (λ k. take k (following ++ more)) two ∙ take-append-le (2 * count) following more seen in
    long_decoded KindWideText c.args.low count first
    c.args.rest.bytes.now following more found.0 found.1 c.in-Some.ensures.short
    c.in-Some.ensures.after (ap (λ content. is_small_object (wide_text content)) same ∙ c.in-None.ensures)
    width

pub returns-in-Some-short_wide_text : goal.returns-in-Some-short_wide_text
returns-in-Some-short_wide_text c = λ width first more whole.
    let found = c.in-Some.ensures.count more whole in
    let two : 2 * c.in-Some.count ≡ c.in-Some.count * 2 = omega arith in
    few_bytes KindWideText c.args.low c.in-Some.count _ first c.args.rest.bytes.now
    c.in-Some.following.now _ more c.in-Some-short_wide_text.short found.0 two
    (units_seen (goal.at.returns-in-Some-short_wide_text c).In-Some c.if-count-gt8.false) refl
    c.in-Some-short_wide_text.ensures width
