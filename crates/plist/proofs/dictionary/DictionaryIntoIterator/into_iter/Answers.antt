use Rattle.std.proofs.Common.{◌∙◌, subst, bytes_eq}
use Rattle.std.specs.List.{IsDistinct}
use Rattle.std.specs.Map.{keys_of}
use Rattle.std_collections.proofs.IterRuns.{shows_in_order, shows_values_in_order}
use Rattle.plist_pairs.specs.Keys.{shown_owned_pair}
use Rattle.plist.proofs.dictionary.DictionaryIntoIterator.into_iter.Goals as goal

pub returns : goal.returns
returns c = record {
  into_iter_gives = (
    c.into_pairs.ensures.pairs ∙ c.into_inner.ensures,
    shows_in_order shown_owned_pair,
    shows_values_in_order shown_owned_pair,
    subst (λ ps. IsDistinct bytes_eq (keys_of ps)) c.into_inner.ensures
        c.into_pairs.ensures.distinct,
  );
}
