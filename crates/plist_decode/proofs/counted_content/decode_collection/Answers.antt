use Rattle.plist_decode.proofs.Children.{collection_decoded, collection_refused}
use Rattle.plist_decode.proofs.counted_content.decode_collection.Goals as goal

pub returns-in-Some : goal.returns-in-Some
returns-in-Some c = λ first more whole.
    let found = c.in-Some.ensures.count more whole in
    collection_decoded c.args.kind c.args.width c.args.low c.in-Some.count first c.args.rest.bytes.now
    c.in-Some.following.now more c.requires.0 found.0 (rw c.children.ensures at found.1)
    c.in-Some.ensures.short c.in-Some.ensures.near c.in-Some.ensures.after

pub returns-in-None : goal.returns-in-None
returns-in-None c = rw c.faulty.ensures (λ first more whole. (
  collection_refused c.args.kind c.args.width c.args.low c.args.rest.to_trailer c.args.rest.bytes.now
      more whole (rw c.children.ensures at c.in-None.ensures.refused),
  tt,
))
