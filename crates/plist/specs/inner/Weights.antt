-- How many values have to be dropped.
use Rattle.std.specs.Prelude.{◌≡◌, ◌<◌, ◌≤◌, ◌⊎◌, ℕ, ◌+◌, List, [], ◌∷◌, map, sum, length, Option, MatchOption, Vec}
use Rattle.std.specs.declared.alloc.Global.{Global}
use Rattle.std.specs.Map.{values_of}
use Rattle.plist.specs.declared.value.Value.{Value, fold-Value}
use Rattle.plist.specs.declared.value.Value.TheOpen.{Dictionary-F, Value-F}

-- one more than the sum of the weights in a collection, or 1 for a scalar
abbrev pub weight_step : Value-F ℕ ℕ → ℕ
weight_step (Value-F.Array items) = 1 + sum items.items
weight_step (Value-F.Dictionary pairs) = 1 + pairs
weight_step other = 1

-- the sum of the weights of a dictionary's values
abbrev pub pairs_step : Dictionary-F ℕ ℕ → ℕ
pairs_step dictionary = sum (values_of dictionary.pairs)

-- the number of values in a value, including itself
abbrev pub weight : Value → ℕ
weight = fold-Value ℕ ℕ weight_step pairs_step

-- the number of values in these values, including themselves
abbrev pub weights : List Value → ℕ
weights values = sum (map weight values)

-- the values after the first
abbrev pub others : List Value → List Value
others [] = []
others (value ∷ values) = values

-- `joined` has the values of `left` and those of `below`, the content of a collection. It has fewer
-- values than `left`, the collection and `below` have together; or it has as many, and those after
-- the first one are no more than those in `below`.
abbrev pub IsLess : (joined left below : List Value) → Type 0
IsLess joined left below =
    (weights joined < weights left + 1 + weights below)
    ⊎ ((0 < length left) × (weights joined ≡ weights left + 1 + weights below)
    × (weights (others joined) ≤ weights below))

-- the content of a value, if it has any, weighs one less than the value
abbrev pub SplitsInto : Option (Vec Value Global) → Value → Type 0
SplitsInto found value =
    MatchOption found (weight value ≡ 1) (λ items. weight value ≡ 1 + weights items.items)
