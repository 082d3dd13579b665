use Rattle.std.proofs.Common.{sym, subst}
use Rattle.plist_reader.specs.Reader.{StateGives}
use Rattle.plist_reader.specs.declared.reader.State.TheVariants.{Binary, Ascii, Limited}
use Rattle.plist_reader.proofs.BinaryItems.{binary-gives}
use Rattle.plist_reader.proofs.AsciiItems.{ascii-gives, limited-gives}
use Rattle.plist_reader.proofs.reader.ReaderIterator.next.Goals as goal

pub returns-in-Binary-clause-steps : goal.returns-in-Binary-clause-steps
returns-in-Binary-clause-steps g c =
    subst (λ s. StateGives g.R.Source.known g.R.Source.failures s c.next.result
    (Binary c.next.new.self)) (sym c.in-Binary.is)
    (binary-gives c.in-Binary.reader c.next.new.self
    c.next.result c.next.ensures.steps)

pub returns-in-Ascii-clause-steps : goal.returns-in-Ascii-clause-steps
returns-in-Ascii-clause-steps g c =
    subst (λ s. StateGives g.R.Source.known g.R.Source.failures s c.next-in-Ascii.result
    (Ascii c.next-in-Ascii.new.self)) (sym c.in-Ascii.is)
    (ascii-gives g.R.Source.known g.R.Source.failures c.in-Ascii.reader c.next-in-Ascii.new.self
    c.next-in-Ascii.result c.next-in-Ascii.ensures.steps)

pub returns-in-Limited-clause-steps : goal.returns-in-Limited-clause-steps
returns-in-Limited-clause-steps g c =
    subst (λ s. StateGives g.R.Source.known g.R.Source.failures s c.next-in-Limited.result
    (Limited c.next-in-Limited.new.self)) (sym c.in-Limited.is)
    (limited-gives g.R.Source.known g.R.Source.failures c.in-Limited.reader
    c.next-in-Limited.new.self c.next-in-Limited.result c.next-in-Limited.ensures.steps)
