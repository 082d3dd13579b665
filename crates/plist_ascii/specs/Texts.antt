-- Bare strings, quoted strings and comments, and their meaning.
use Rattle.std.specs.Prelude.{ℕ, zero, suc, Bool, false, if◌then◌else◌, ◌&&◌, ◌||◌, ◌==◌, List, [], ◌∷◌, ◌++◌, length, take, Option, None, Some, Result, Ok, Err}
use Rattle.std.specs.Option.{option_map, option_map_or}
use Rattle.std.specs.Result.{result_flatten, result_map_both}
use Rattle.std.specs.Str.{is_utf8}
use Rattle.plist_base.specs.Faults.{FaultKind, IncompleteComment, InvalidUtf8AsciiStream, UnclosedString}
use Rattle.plist_base.specs.Events.{PlainEvent, ScalarEvent}
use Rattle.plist_base.specs.Trees.{Scalar, Integer, String}
use Rattle.plist_base.specs.IntegerText.{integer_of_text}
use Rattle.plist_ascii.specs.declared.dialect.Dialect.{Dialect}
use Rattle.plist_ascii.specs.declared.dialect.Dialect.TheVariants as dialect
use Rattle.plist_ascii.specs.TokenPrefixes.{Taken, after_byte, code_of, in_sequence, is_one_of, past_one, run, taken}
use Rattle.plist_ascii.specs.Escapes.{escape}

-- a token: the number of bytes taken, and an event, no event or a fault
abbrev pub Token : Type 0
Token = Taken (Option PlainEvent)

-- does the byte end a bare string in the lax dialect?
abbrev pub lax_stops : ℕ → Bool
lax_stops c = is_one_of " )\r\t;," c

-- does the byte end a bare string in the tight dialect?
abbrev pub tight_stops : ℕ → Bool
tight_stops c = is_one_of " )\r\t;,\n}=" c

-- does the byte end a bare string in this dialect?
abbrev pub ends_bare : Dialect → ℕ → Bool
ends_bare dialect.Lax c = lax_stops c
ends_bare dialect.Tight c = tight_stops c

-- the scalar of a bare string: the integer that it spells, or the string if it spells none
abbrev pub scalar_of_text : List ℕ → Scalar
scalar_of_text text = option_map_or Integer (integer_of_text text) (String text)

-- the event of a scalar, or a fault if the bytes of its string aren't UTF-8
abbrev pub utf8_or_fault : List ℕ → Scalar → Result (Option PlainEvent) FaultKind
utf8_or_fault text scalar =
    if is_utf8 text then Ok (Some (ScalarEvent scalar)) else Err InvalidUtf8AsciiStream

-- the meaning of a bare string
unfoldable pub bare_event : List ℕ → Result (Option PlainEvent) FaultKind
bare_event text = utf8_or_fault text (scalar_of_text text)

-- the meaning of a quoted string
unfoldable pub quoted_event : List ℕ → Result (Option PlainEvent) FaultKind
quoted_event text = utf8_or_fault text (String text)

-- a bare string: its first byte, and the longest run after it without a stop
abbrev pub bare : (stops : ℕ → Bool) → ℕ → List ℕ → Token
bare stops c rest = taken (run stops rest) (bare_event (c ∷ take (run stops rest) rest))

-- ---- quoted strings, from the byte after the opening quote on

-- does a byte end a run of plain bytes, as the quote and a backslash do?
abbrev pub ends_run : ℕ → ℕ → Bool
ends_run quote c = (c == quote) || (c == code_of "\\")

-- the bytes `front` precede what a string denotes
abbrev pub prepended : (front : List ℕ) → Taken (List ℕ) → Taken (List ℕ)
prepended front t =
    taken t.bytes (result_map_both (λ more. front ++ more) (λ fault. fault) t.gives)

-- the closing quote, an escape after its backslash, or a byte that denotes itself, and then the
-- rest of the string; `fuel` is at least the number of bytes
unfoldable pub quoted_in : (quote fuel : ℕ) → List ℕ → Taken (List ℕ)
quoted_in quote zero = λ bytes. taken 0 (Err UnclosedString)
quoted_in quote (suc fuel) = after_byte (λ c rest.
    if c == quote then taken 0 (Ok [])
    else if c == code_of "\\" then
    in_sequence escape (λ text left. prepended text (quoted_in quote fuel left)) rest
    else prepended (c ∷ []) (quoted_in quote fuel rest))

-- the bytes of a quoted string up to its closing quote, or its first fault
abbrev pub quoted : (quote : ℕ) → List ℕ → Taken (List ℕ)
quoted quote bytes = quoted_in quote (length bytes) bytes

-- the token of a quoted string: the meaning of its bytes, or their fault
abbrev pub quoted_token : ℕ → List ℕ → Token
quoted_token quote rest = taken (quoted quote rest).bytes
    (result_flatten (result_map_both quoted_event (λ fault. fault) (quoted quote rest).gives))

-- ---- what a slash begins

-- is c the first byte?
abbrev pub begins_with : ℕ → List ℕ → Bool
begins_with c [] = false
begins_with c (d ∷ rest) = d == c

-- the offset of the first `*/`
abbrev pub close_at : List ℕ → Option ℕ
close_at [] = None
close_at (c ∷ rest) =
    if (c == code_of "*") && begins_with (code_of "/") rest then Some 0 else option_map suc (close_at rest)

-- a block comment, up to and including the first `*/`
abbrev pub block_comment : List ℕ → Token
block_comment rest = option_map_or (λ place. taken (suc (suc place)) (Ok None)) (close_at rest)
    (taken (length rest) (Err IncompleteComment))

-- the token that a slash begins: a line comment, up to the LF, which isn't taken, a block comment,
-- or a bare string
abbrev pub slash : (stops : ℕ → Bool) → List ℕ → Token
slash stops [] = taken 0 (Err IncompleteComment)
slash stops (c ∷ rest) =
    if c == code_of "/" then past_one (taken (run (λ c. c == code_of "\n") rest) (Ok None))
    else if c == code_of "*" then past_one (block_comment rest)
    else bare stops (code_of "/") (c ∷ rest)
