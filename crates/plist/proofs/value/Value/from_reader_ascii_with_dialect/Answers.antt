use Rattle.plist_ascii.specs.Texts.{ends_bare}
use Rattle.plist_ascii.specs.AsciiReader.{ascii_items_to_come}
use Rattle.plist_ascii.specs.Ascii.{items_of_ascii}
use Rattle.plist_decode.specs.Formats.{input_front}
use Rattle.plist.specs.Collecting.{built_tree}
use Rattle.plist.proofs.ReadFaults.{ascii-never, ascii-tells}
use Rattle.plist.proofs.RemainingItems.{of-items, ascii-start, ascii-shows}
use Rattle.plist.proofs.value.Value.from_reader_ascii_with_dialect.Goals as goal

pub returns-clause-value : goal.returns-clause-value
returns-clause-value g c =
    let reader = c.with_dialect.ensures in
    of-items (λ bytes. items_of_ascii (ends_bare c.args.dialect) (input_front bytes) 0) _ _
    (built_tree c.collect.result)
    (ascii-start _ c.args.dialect _ _ _ reader.dialect reader.bytes reader.place)
    (c.collect.ensures.shown (ascii_items_to_come g.R.ByteReader.remaining)
    (λ old item new gives. ascii-shows g.R.ByteReader.remaining g.R.ByteReader.failures old new item
    gives))

pub returns-clause-fault : goal.returns-clause-fault
returns-clause-fault g c =
    ascii-tells g.R.ByteReader.remaining g.R.ByteReader.failures c.with_dialect.result
    c.collect.result c.collect.ensures.value

pub returns-clause-never_io : goal.returns-clause-never_io
returns-clause-never_io g c never =
    ascii-never g.R.ByteReader.remaining g.R.ByteReader.failures never c.with_dialect.result
    c.collect.result c.collect.ensures.value
