use Rattle.std.proofs.lemmas.Result.{err_from_is_err_and}
use Rattle.std.proofs.Common.{ℕ, List, None, Option, Some, IfSome}
use Rattle.std.specs.Prelude.{⊤}
use Rattle.plist_reader.specs.Reader.{reader_items}
use Rattle.plist_uses.proofs.Tallies.{begun, counted, all-counted, stopped}
use Rattle.plist_uses.proofs.counting.count.Goals as goal

pub loop-item-init : goal.loop-item-init
loop-item-init g c = begun _ _ c.none-counts.ensures

pub loop-item-preserved : goal.loop-item-preserved
loop-item-preserved g c =
    counted _ (reader_items g.R.Source.known c.loop-item.reader)
    (reader_items g.R.Source.known c.next.new.self) c.in-Some.item c.loop-item.counts
    c.take.new.self c.loop-item.invariant c.in-Some.ensures.steps.items c.in_ok-take.ensures.counted

pub returns-clause-value : goal.returns-clause-value
returns-clause-value g c =
    all-counted (g.R.Source.known c.args.source) (reader_items g.R.Source.known c.new-reader.result)
    (reader_items g.R.Source.known c.loop-item.reader)
    (reader_items g.R.Source.known c.next.new.self)
    c.loop-item.counts c.new-reader.ensures.items c.loop-item.invariant
    c.in_default.ensures.steps.items

asks-nothing : (known : Option (List ℕ)) → IfSome known (λ _. ⊤)
asks-nothing None = tt
asks-nothing (Some bytes) = tt

pub returns-in_err-take-clause-value : goal.returns-in_err-take-clause-value
returns-in_err-take-clause-value g c =
    let p = err_from_is_err_and c.from_residual.result c.from_residual.ensures.1 in
    rw p.1 (asks-nothing (g.R.Source.known c.args.source))

pub returns-in_err-take-clause-refused : goal.returns-in_err-take-clause-refused
returns-in_err-take-clause-refused g c =
    let p = err_from_is_err_and c.from_residual.result c.from_residual.ensures.1 in
    rw (p.1, p.2) (stopped (g.R.Source.known c.args.source)
    (reader_items g.R.Source.known c.new-reader.result)
    (reader_items g.R.Source.known c.loop-item.reader)
    (reader_items g.R.Source.known c.next.new.self) c.in-Some.item _ c.loop-item.counts
    c.new-reader.ensures.items c.loop-item.invariant c.in-Some.ensures.steps.items
    c.in_err-take.ensures.refused)
