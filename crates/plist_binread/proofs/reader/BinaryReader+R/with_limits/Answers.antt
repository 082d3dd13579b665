use Rattle.std.proofs.Common.{refl}
use Rattle.plist_binread.specs.BinaryReader.{file_items}
use Rattle.plist_binread.proofs.UnlimitedSteps.{new_state}
use Rattle.plist_binread.proofs.reader.BinaryReader+R.with_limits.Goals as goal

pub returns-clause-items : goal.returns-clause-items
unfolding file_items
returns-clause-items g c =
    let fresh = new_state _ c.new-reader.ensures.new in
    rw (fresh, c.new-reader.ensures.source, ← c.new.ensures.items) refl
