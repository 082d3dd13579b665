use Rattle.plist_reader.proofs.BinaryItems.{begun-binary}
use Rattle.plist_reader.proofs.reader.begin_binary.Goals as goal

pub returns-clause-yields : goal.returns-clause-yields
returns-clause-yields g c dialect =
    begun-binary c.args.source c.args.limits dialect
    c.binary_reader-reader.result c.next-item.new.self c.next-item.result c.binary_reader-reader.ensures.source
    c.binary_reader-reader.ensures.new c.binary_reader-reader.ensures.limited c.requires
    c.binary_reader-reader.ensures.items c.binary_reader-reader.ensures.limits c.next-item.ensures.steps
