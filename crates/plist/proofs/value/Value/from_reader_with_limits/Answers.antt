use Rattle.plist_base.specs.Allowances.{iterator_of}
use Rattle.plist_base.specs.Limits.{items_admitted, limited_items}
use Rattle.std.proofs.Common.{ap, ◌∙◌, option_map}
use Rattle.plist_reader.specs.Reader.{Gives, items_of_input, reader_items}
use Rattle.plist.specs.Collecting.{built_tree}
use Rattle.plist.proofs.ReadFaults.{limited-tells, never-reading, reading}
use Rattle.plist.proofs.RemainingItems.{joined, of-items, reader-shows}
use Rattle.plist.proofs.LimitedValues.{built-within, limited-shows, taken-within}
use Rattle.plist.proofs.value.Value.from_reader_with_limits.Goals as goal

pub returns-clause-value : goal.returns-clause-value
returns-clause-value g c =
    let known = g.R.Source.known in
    of-items (λ b. limited_items c.args.limits (items_of_input b)) _ _ (built_tree c.collect.result)
    ((λ j. option_map (c.new.ensures.items j)
    ((ap (reader_items known) c.new.ensures.inner ∙ c.new-reader.ensures.items) j))
    ∙ joined (limited_items c.args.limits) items_of_input _)
    (c.collect.ensures.shown (λ l. option_map (items_admitted l) (reader_items known (iterator_of l)))
    (limited-shows (Gives known g.R.Source.failures) (reader_items known)
    (λ old item new gives.
    reader-shows g.R.Source.known g.R.Source.failures old new item gives)))

pub returns-clause-within : goal.returns-clause-within
returns-clause-within g c =
    built-within (Gives g.R.Source.known g.R.Source.failures) c.args.limits c.new.result
    (built_tree c.collect.result) c.new.ensures.items c.collect.ensures.value

pub returns-clause-read : goal.returns-clause-read
returns-clause-read g c = (
  c.new.result,
  (
    c.new.ensures.items,
    ap (λ reader. reader.state) c.new.ensures.inner ∙ c.new-reader.ensures.new,
  ),
  taken-within (Gives g.R.Source.known g.R.Source.failures) c.args.limits c.new.result
      (built_tree c.collect.result) c.new.ensures.items c.collect.ensures.value,
)

pub returns-clause-fault : goal.returns-clause-fault
returns-clause-fault g c =
    limited-tells (reading g.R.Source.known g.R.Source.failures) c.new.result c.collect.result
    c.collect.ensures.value

pub returns-clause-never_io : goal.returns-clause-never_io
returns-clause-never_io g c never =
    limited-tells (never-reading g.R.Source.known g.R.Source.failures never) c.new.result
    c.collect.result c.collect.ensures.value
