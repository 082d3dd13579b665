use Rattle.plist_reader.proofs.ReaderItems.{io-gives, other-source, xml-gives}
use Rattle.plist_reader.proofs.reader.begin.Goals as goal

pub returns-in-Ok-Binary-clause-yields : goal.returns-in-Ok-Binary-clause-yields
returns-in-Ok-Binary-clause-yields g c =
    other-source g.R.Source.known g.R.Source.failures c.args.source c.format_of.new.source
    c.args.limits c.args.dialect _ _ c.format_of.ensures.unchanged c.in-Ok-Binary.ensures.failures
    (c.begin_binary.ensures.yields c.args.dialect)

pub returns-in-Ok-Ascii-clause-yields : goal.returns-in-Ok-Ascii-clause-yields
returns-in-Ok-Ascii-clause-yields g c =
    other-source g.R.Source.known g.R.Source.failures c.args.source c.format_of.new.source
    c.args.limits c.args.dialect _ _ c.format_of.ensures.unchanged c.in-Ok-Ascii.ensures.failures
    c.begin_ascii.ensures.yields

pub returns-in-Ok-Xml-clause-yields : goal.returns-in-Ok-Xml-clause-yields
returns-in-Ok-Xml-clause-yields g c =
    xml-gives g.R.Source.known g.R.Source.failures c.args.source c.format_of.new.source c.args.limits
    c.args.dialect c.in-Ok-Xml.place c.with_byte_offset.result c.with_byte_offset.ensures.fault
    (rw c.in-Ok-Xml.field-0-is at c.in-Ok-Xml.ensures.value) c.in-Ok-Xml.ensures.failures

pub returns-in-Err-clause-yields : goal.returns-in-Err-clause-yields
returns-in-Err-clause-yields g c =
    io-gives g.R.Source.known g.R.Source.failures c.args.source c.format_of.new.source c.args.limits
    c.args.dialect c.in-Err.error c.in-Err.ensures.refused c.in-Err.ensures.offset
    c.in-Err.ensures.failures
