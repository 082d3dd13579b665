use Rattle.std.proofs.Common.{refl, arith, ◌≤◌, length}
use Rattle.plist_decode.specs.declared.decoded.ContentKind.TheVariants.{Text as KindText}
use Rattle.plist_decode.proofs.Contents.{large_content}
use Rattle.plist_decode.proofs.Decoding.{content_enough, few_bytes, long_decoded}
use Rattle.plist_decode.proofs.counted_content.decode_text.Goals as goal

pub returns-then-count-gt8 : goal.returns-then-count-gt8
returns-then-count-gt8 c = λ width first more whole.
    let found = c.in-Some.ensures.count more whole in
    long_decoded KindText c.args.low c.in-Some.count first
    c.args.rest.bytes.now c.in-Some.following.now more found.0 found.1 c.in-Some.ensures.short
    c.in-Some.ensures.after (large_content KindText c.in-Some.count _ (omega arith) found.1) width

pub returns : goal.returns
returns c = λ width first more whole.
    let found = c.in-Some.ensures.count more whole in
    let seen : c.in-Some.count ≤ length c.in-Some.following.now =
    content_enough (c.in-Some.count) c.args.rest.to_trailer _ _ c.args.rest.shown
    (omega (arith, c.in-Some.ensures.within)) c.in-Some.ensures.short
    c.in-Some.ensures.near (omega arith) in
    few_bytes KindText c.args.low c.in-Some.count c.in-Some.count first c.args.rest.bytes.now
    c.in-Some.following.now _ more c.short_text.result found.0 (omega arith) seen refl c.short_text.ensures
    width
