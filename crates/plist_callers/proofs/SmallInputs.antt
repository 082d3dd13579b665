-- The items of the small files and of the text.
use Rattle.std.proofs.Common.{◌≡◌, ℕ, Bool, List, [], ◌∷◌, Option, Result, Ok, None, Some, take, refl, ap, map}
use Rattle.std.specs.Prelude.{◌-◌, ◌^◌, negsuc, pos, true}
use Rattle.std.specs.Str.{is_utf8, chars}
use lib.Utf8.{encode}
use Rattle.std.specs.declared.alloc.Global.{Global}
use Rattle.std.specs.declared.borrow.CowStr.{CowStr}
use Rattle.plist_base.specs.declared.error.Error.{Error}
use Rattle.plist_base.specs.declared.event.Event.{Event}
use Rattle.plist_base.specs.declared.event.Event.TheVariants.{String}
use Rattle.plist_base.specs.Faults.{InvalidTrailerObjectOffsetSize, ObjectReferenceTooLarge}
use Rattle.plist_base.specs.Events.{StartArray}
use Rattle.plist_base.specs.IntegerText.{integer_of_text}
use Rattle.plist_base.specs.Trees.{Boolean, Integer, Real}
use Rattle.plist_base.specs.declared.real.RealBits.TheVariants.{Four}
use Rattle.plist_base.proofs.WorkedFiles.Files.{array, close, dictionary, refused, scalar, worked_files}
use Rattle.plist_base.specs.Unfolding.{items_of_file}
use Rattle.plist_ascii.specs.AsciiReader.{TakesItem}
use Rattle.plist_ascii.specs.Ascii.{items_in, items_of_ascii, token}
use Rattle.plist_ascii.specs.Escapes.{escape, octal_char}
use Rattle.plist_ascii.specs.Texts.{quoted_in, bare_event, lax_stops, quoted_event}
use Rattle.plist_callers.specs.SmallInputs.{comment_and_array, empty_array, five_at_true, five_byte_offsets, minus_one, missing_child, nested_arrays, root_is_second, four_byte_real}

pub of_root_is_second : items_of_file root_is_second
    ≡ array 2 ∷ scalar (Boolean true) ∷ scalar (Boolean true) ∷ close ∷ []
unfolding worked_files root_is_second
of_root_is_second = refl

pub of_five_byte_offsets : items_of_file five_byte_offsets ≡ refused InvalidTrailerObjectOffsetSize 14
unfolding worked_files five_byte_offsets
of_five_byte_offsets = refl

pub of_minus_one : items_of_file minus_one ≡ scalar (Integer (negsuc 0)) ∷ []
unfolding worked_files minus_one
of_minus_one = refl

pub of_missing_child : items_of_file missing_child ≡ array 1 ∷ refused ObjectReferenceTooLarge 8
unfolding worked_files missing_child
of_missing_child = refl

pub of_five_at_true : items_of_file five_at_true
    ≡ dictionary 1 ∷ scalar (Boolean true) ∷ scalar (Integer (pos 5)) ∷ close ∷ []
unfolding worked_files five_at_true
of_five_at_true = refl

pub of_nested_arrays : items_of_file nested_arrays
    ≡ array 1 ∷ array 1 ∷ scalar (Boolean true) ∷ close ∷ close ∷ []
unfolding worked_files nested_arrays
of_nested_arrays = refl

pub of_empty_array : items_of_file empty_array ≡ array 0 ∷ close ∷ []
unfolding worked_files empty_array
of_empty_array = refl

pub of_four_byte_real : items_of_file four_byte_real
    ≡ scalar (Real (Four (0x3F ∷ 0xC0 ∷ 0 ∷ 0 ∷ []))) ∷ []
unfolding worked_files four_byte_real
of_four_byte_real = refl

pub of_comment_and_array : items_of_ascii lax_stops (take (2 ^ 64 - 1) comment_and_array) 0
    ≡ Ok (StartArray None) ∷ []
unfolding items_in token bare_event integer_of_text quoted_in quoted_event escape octal_char is_utf8
    chars encode comment_and_array
of_comment_and_array = refl

-- the first item of the text isn't a string
pub no_string_first : (stops : ℕ → Bool) (bytes rest : List ℕ) (p q : ℕ)
    (item : Option (Result Event Error)) (text : CowStr Global) → item ≡ Some (Ok (String text))
    → stops ≡ lax_stops → bytes ≡ take (2 ^ 64 - 1) comment_and_array → p ≡ 0
    → TakesItem stops bytes p item rest q → ⊥
no_string_first stops bytes rest p q item text is lax known start takes =
    let first = rw is at takes in cc (ap (map (λ i. i.item)) first.ends, of_comment_and_array)
