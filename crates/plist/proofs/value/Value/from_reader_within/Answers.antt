use Rattle.plist_base.specs.Allowances.{iterator_of}
use Rattle.plist_base.specs.Budgets.{items_within_budget, within_bytes}
use Rattle.plist_base.specs.Limits.{GivesLimited, items_admitted, limited_items}
use Rattle.std.proofs.Common.{ap, ◌∙◌, option_map}
use Rattle.plist_reader.specs.Reader.{Gives, items_of_input, reader_items}
use Rattle.plist.specs.Collecting.{built_tree}
use Rattle.plist.specs.FromReader.{LimitedReader, budgeted_input}
use Rattle.plist.proofs.ReadFaults.{budgeted-tells, never-reading, reading}
use Rattle.plist.proofs.RemainingItems.{joined, of-items, reader-shows}
use Rattle.plist.proofs.LimitedValues.{budget-shows, built-within-budget, limited-shows, taken-within-budget}
use Rattle.plist.proofs.value.Value.from_reader_within.Goals as goal

pub returns-clause-value : goal.returns-clause-value
returns-clause-value g c =
    let known = g.R.Source.known in
    let gives = Gives known g.R.Source.failures in
    of-items (budgeted_input c.args.limits c.args.bytes) _ _ (built_tree c.collect.result)
    ((λ j. option_map (c.within_bytes.ensures.items j)
    (option_map (items_admitted (c.within_bytes.ensures.inner j))
    (reader_items known (iterator_of (c.within_bytes.ensures.inner j)))))
    ∙ ap (option_map (within_bytes c.args.bytes))
    ((λ j. option_map (c.new-limited.ensures.items j)
    ((ap (reader_items known) c.new-limited.ensures.inner ∙ c.new-reader.ensures.items) j))
    ∙ joined (limited_items c.args.limits) items_of_input _)
    ∙ joined (within_bytes c.args.bytes) (λ b. limited_items c.args.limits (items_of_input b)) _)
    (c.collect.ensures.shown (λ l. option_map (items_within_budget l)
    (option_map (items_admitted (iterator_of l)) (reader_items known (iterator_of (iterator_of l)))))
    (budget-shows (GivesLimited gives)
    (λ l. option_map (items_admitted l) (reader_items known (iterator_of l)))
    (limited-shows gives (reader_items known)
    (λ old item new gives.
    reader-shows g.R.Source.known g.R.Source.failures old new item gives))))

pub returns-clause-within : goal.returns-clause-within
returns-clause-within g c =
    built-within-budget (Gives g.R.Source.known g.R.Source.failures) c.args.limits c.args.bytes
    c.within_bytes.result (built_tree c.collect.result) c.within_bytes.ensures.items
    (ap items_admitted c.within_bytes.ensures.inner ∙ c.new-limited.ensures.items)
    c.collect.ensures.value

pub returns-clause-read : goal.returns-clause-read
returns-clause-read g c = (
  c.within_bytes.result,
  c.within_bytes.ensures.items,
  (
    ap items_admitted c.within_bytes.ensures.inner ∙ c.new-limited.ensures.items,
    ap (λ (l : LimitedReader g.R.Source.known g.R.Source.failures). (iterator_of l).state)
        c.within_bytes.ensures.inner
        ∙ ap (λ reader. reader.state) c.new-limited.ensures.inner ∙ c.new-reader.ensures.new,
  ),
  taken-within-budget (Gives g.R.Source.known g.R.Source.failures) c.args.limits c.args.bytes
      c.within_bytes.result (built_tree c.collect.result) c.within_bytes.ensures.items
      (ap items_admitted c.within_bytes.ensures.inner ∙ c.new-limited.ensures.items)
      c.collect.ensures.value,
)

pub returns-clause-fault : goal.returns-clause-fault
returns-clause-fault g c =
    budgeted-tells (reading g.R.Source.known g.R.Source.failures) c.within_bytes.result c.collect.result
    c.collect.ensures.value

pub returns-clause-never_io : goal.returns-clause-never_io
returns-clause-never_io g c never =
    budgeted-tells (never-reading g.R.Source.known g.R.Source.failures never) c.within_bytes.result
    c.collect.result c.collect.ensures.value
