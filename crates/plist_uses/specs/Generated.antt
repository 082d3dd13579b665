-- The property list of readings.
use Rattle.std.specs.Prelude.{List, [], ◌∷◌, codes, map, pos}
use Rattle.plist_base.specs.Trees.{Tree, Leaf, Array, Dictionary, Integer, members_of, trees_of}
use Rattle.plist_uses.specs.declared.generated.Reading.{Reading}

-- a dictionary of a reading's second and level
abbrev pub reading_tree : Reading → Tree
reading_tree reading =
    Dictionary (members_of (
    (codes "second", Leaf (Integer (pos reading.second)))
    ∷ (codes "level", Leaf (Integer (pos reading.level)))
    ∷ []
    ))

-- an array of the readings, in order
abbrev pub readings_tree : List Reading → Tree
readings_tree readings = Array (trees_of (map reading_tree readings))
