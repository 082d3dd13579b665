use Rattle.std.proofs.Common.{rules, subst, sym}
use Rattle.plist_reader.proofs.AsciiItems.{IsFresh, begun-ascii, begun-limited}
use Rattle.plist_reader.proofs.reader.begin_ascii.Goals as goal

pub returns-in-None-clause-yields : goal.returns-in-None-clause-yields
returns-in-None-clause-yields g c =
    rw c.in-None.is (begun-ascii g.R.Source.known g.R.Source.failures c.args.source c.args.dialect
    c.new.result c.with_dialect-reader.result c.next-item.new.self c.next-item.result (search rules)
    c.next-item.ensures.steps)

pub returns-in-Some-clause-yields : goal.returns-in-Some-clause-yields
returns-in-Some-clause-yields g c =
    rw c.in-Some.is (begun-limited g.R.Source.known g.R.Source.failures c.args.source c.in-Some.limits
    c.args.dialect c.new.result c.new-limited.result c.next-item-in-Some.new.self
    c.next-item-in-Some.result c.new-limited.ensures.items
    (subst (IsFresh g.R.Source.known c.args.source c.args.dialect c.new.result)
    (sym c.new-limited.ensures.inner) (search rules)) c.next-item-in-Some.ensures.steps)
