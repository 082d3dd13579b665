use Rattle.plist_c.proofs.ReaderItems.{read_of}
use Rattle.std.proofs.Common.{Some}
use Rattle.plist_c.proofs.read.sizhetom_read.Goals as goal

pub returns : goal.returns
returns c = rw c.of_value.ensures at (read_of (λ s. Some s.now) _ _ _ _ _ c.new-reader.ensures.items _
    c.new-reader.ensures.source c.fill.ensures)
