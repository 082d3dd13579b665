-- What is read from an untrusted file.
use Rattle.std.specs.Prelude.{ℕ, List}
use Rattle.plist_base.specs.Events.{Item}
use Rattle.plist.specs.FromReader.{budgeted_input}

-- the items of these bytes, up to 64 levels of collections, 100,000 events, and 16 MiB of strings
-- and data
abbrev pub items_of_upload : (bytes : List ℕ) → List Item
items_of_upload bytes = budgeted_input (record { depth = 64; items = 100000 }) 16777216 bytes
