-- What contracts see of settings.
use Rattle.std.specs.Prelude.{◌≡◌, ℕ, List, Option, None, Result, Ok, Err, IfSome, bytes_eq, option_and_then}
use Rattle.std.specs.Map.{lookup}
use Rattle.indexmap.specs.IndexMap.{insert_entry}
use Rattle.plist_base.specs.Faults.{Fault, fault_of}
use Rattle.plist_base.specs.Trees.{Tree, Dictionary}
use Rattle.plist_uses.specs.declared.settings.SettingsError.{SettingsError}
use Rattle.plist_uses.specs.declared.settings.SettingsError.TheVariants as settings_error
use Rattle.plist_binwrite.specs.Files.{IsFileOf}
use Rattle.plist.specs.declared.value.Value.{Value}
use Rattle.plist.specs.Accessors.{dictionary_in, text_in}
use Rattle.plist.specs.ValueTrees.{pair_trees, pairs_of, tree_of}
use Rattle.plist.specs.ValueOfItems.{IsValueOf}
use Rattle.plist_reader.specs.Reader.{items_of_input}
use Rattle.plist_uses.specs.declared.settings.Settings.{Settings}

-- the names with their settings, in order
abbrev pub settings_in : Settings → List (List ℕ × Value)
settings_in settings = pairs_of settings.pairs

-- the property list of the settings
abbrev pub tree_in : Settings → Tree
tree_in settings = Dictionary (pair_trees (settings_in settings))

-- if the bytes of a file are known, the result is the value of their items, or the fault is `Io` or
-- `OutOfMemory` or says why they have no value
abbrev pub IsReadOf : (known : Option (List ℕ)) → Result Tree Fault → Type 0
IsReadOf known answer = IfSome known (λ bytes. IsValueOf (items_of_input bytes) answer)

-- why a file has no settings: its fault, or its value isn't a dictionary
abbrev pub RefusesOpening : (known : Option (List ℕ)) → SettingsError → Type 0
RefusesOpening known (settings_error.Fault error) = IsReadOf known (Err (fault_of error))
RefusesOpening known settings_error.NoDictionary =
    (tree : Tree) × IsReadOf known (Ok tree) × (dictionary_in tree ≡ None)

-- the name has this setting; the others and their order are unchanged
abbrev pub Sets : Settings → (name : List ℕ) → (setting : Value) → Settings → Type 0
Sets old name setting new = settings_in new ≡ insert_entry bytes_eq (settings_in old) name setting

-- the string that a name has as its setting
abbrev pub text_at : (name : List ℕ) → Settings → Option (List ℕ)
text_at name settings =
    option_and_then (λ setting. text_in (tree_of setting)) (lookup (bytes_eq name) (settings_in settings))

-- the bytes are a file of another file's settings, except that the name has this setting
abbrev pub IsChanged : (known : Option (List ℕ)) → (name : List ℕ) → (setting : Value)
    → (bytes : List ℕ) → Type 0
IsChanged known name setting bytes =
    (pairs : List (List ℕ × Value)) × IsReadOf known (Ok (Dictionary (pair_trees pairs)))
    × IsFileOf (Dictionary (pair_trees (insert_entry bytes_eq pairs name setting))) bytes
