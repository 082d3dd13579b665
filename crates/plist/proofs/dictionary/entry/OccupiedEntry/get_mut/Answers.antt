use Rattle.std.proofs.Common.{◌≡◌, length, refl, ◌<◌}
use Rattle.std.proofs.Props.{props}
use Rattle.indexmap.specs.Layout.{length-set_value_at}
use Rattle.plist.specs.declared.dictionary.entry.OccupiedEntry.{OccupiedEntry}
use Rattle.plist.specs.declared.value.Value.{Value}
use Rattle.plist.specs.Entries.{Occupied, dictionary_with, still_within, with_entry_value, with_value}
use Rattle.plist.proofs.dictionary.entry.OccupiedEntry.get_mut.Goals as goal

pub invariant_of-self-lent : goal.invariant_of-self-lent
invariant_of-self-lent c =
    let o = c.args.self.now in λ w. (rw (length-set_value_at _ _ w) o.within, tt)

same_entry : (o : OccupiedEntry) (w : Value) (p : o.at < length (with_value (Occupied o) w))
    → ◌≡◌ {A = OccupiedEntry} (record
    { pairs = record o.pairs { now = dictionary_with (Occupied o) w }; at = o.at; within = p })
    (with_entry_value o w)
same_entry o w p =
    let one : IsProp (o.at < length (with_value (Occupied o) w)) = hlevel props in
    λ i. record {
      pairs = record o.pairs { now = dictionary_with (Occupied o) w };
      at = o.at;
      within = one p (still_within o w) i;
    }

pub returns : goal.returns
returns c = (
  (refl, λ w. same_entry _ w _),
  record
      { writes_back = tt; value = c.value_at.ensures.value },
)
