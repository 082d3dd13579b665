-- Strings that end among the bytes at hand.
use Rattle.std.proofs.Common.{drop-cons, get_or, ◌≡◌, ℕ, suc, ◌+◌, ◌-◌, ◌<◌, ◌≤◌, Bool, true, false, List, [], ◌∷◌, ◌++◌, length, take, drop, Option, Some, Ok, None, refl, sym, ap, ◌∙◌, subst, arith, length-drop}
use Rattle.std.proofs.lemmas.List.{take-append-le, drop-append-le}
use Rattle.std.specs.Str.{is_utf8}
use Rattle.std.specs.Prelude.{not}
use Rattle.plist_base.specs.declared.event.Event.{Event}
use Rattle.plist_base.specs.Events.{ScalarEvent, event_of}
use Rattle.plist_base.specs.Trees.{String}
use Rattle.plist_base.specs.IntegerText.{integer_of_text}
use Rattle.plist_ascii.specs.declared.stop.Stop.{Stop}
use Rattle.plist_ascii.specs.declared.stop.Stop.TheVariants as stop
use Rattle.plist_ascii.specs.declared.token.Lead.TheVariants as lead
use Rattle.plist_ascii.specs.Ascii.{is_blank, lead_of, token_by, IfBracket}
use Rattle.plist_ascii.specs.declared.input.Input.{Input}
use Rattle.plist_ascii.specs.declared.reader.AsciiReader.{AsciiReader}
use Rattle.plist_ascii.specs.AsciiReader.{GivesAscii}
use Rattle.plist_ascii.specs.TokenPrefixes.{past_one, run, taken}
use Rattle.plist_ascii.specs.Texts.{ends_run, quoted, bare_event, quoted_event}
use Rattle.plist_ascii.specs.Unread.{IfKnown, stops, unread}
use Rattle.plist_ascii.specs.inner.Inputs.{BeginWithText, LeadsToText, hand_of}
use Rattle.plist_ascii.proofs.Items.{IsFirst, TakesFirst, going_start, going_blanks, going_event}
use Rattle.plist_ascii.proofs.Quotes.{quoted_plain}
use Rattle.plist_ascii.proofs.Runs.{run_front}
use Rattle.plist_ascii.proofs.Yields.{gives_event}

-- the meaning of a bare string that spells no integer
bare_means : (text : List ℕ) → is_utf8 text ≡ true → integer_of_text text ≡ None
    → bare_event text ≡ Ok (Some (ScalarEvent (String text)))
unfolding bare_event
bare_means text utf8 none = rw (utf8, none) refl

-- a bare string is the first token, whatever follows it
pub bare_begins : (ends : ℕ → Bool) (c : ℕ) (cs : List ℕ) (n : ℕ) (text : List ℕ)
    → lead_of c ≡ lead.Bare → n ≡ suc (run ends cs) → run ends cs < length cs
    → text ≡ take n (c ∷ cs) → is_utf8 text ≡ true → integer_of_text text ≡ None
    → BeginWithText ends (c ∷ cs) n text
bare_begins ends c cs n text leads size less is utf8 none = λ more.
    let m = run ends cs in
    let le : m ≤ length cs = omega arith in
    let same : c ∷ take m cs ≡ text = sym (rw size at is) in
    ap (λ l. past_one (token_by ends l c (cs ++ more))) leads
    ∙ rw (run_front ends cs more less, take-append-le m cs more le, same)
    (rw (bare_means text utf8 none, size) refl)

-- the meaning of a quoted string
quoted_is : (text : List ℕ) → is_utf8 text ≡ true
    → quoted_event text ≡ Ok (Some (ScalarEvent (String text)))
unfolding quoted_event
quoted_is text utf8 = rw utf8 refl

-- a quoted string without escapes is the first token, whatever follows it
pub quoted_begins : (c : ℕ) (cs : List ℕ) (n : ℕ) (text : List ℕ) → lead_of c ≡ lead.Quote
    → n ≡ run (ends_run c) cs → n < length cs → c ≡ get_or cs n c → text ≡ take n cs
    → is_utf8 text ≡ true → (ends : ℕ → Bool) → BeginWithText ends (c ∷ cs) (n + 2) text
quoted_begins c cs n text leads size less end is utf8 ends = λ more.
    let ys = cs ++ more in
    let le : n ≤ length cs = omega arith in
    let same : run (ends_run c) ys ≡ n =
    run_front (ends_run c) cs more (rw size at less) ∙ sym size in
    let next : drop n cs ≡ c ∷ drop (suc n) cs = rw (← end) at (drop-cons cs n c less) in
    let rest : drop n ys ≡ c ∷ (drop (suc n) cs ++ more) =
    rw (drop-append-le n cs more le, next) refl in
    let closes : quoted c ys ≡ taken (n + 1) (Ok text) =
    quoted_plain c ys (drop (suc n) cs ++ more) (rw same rest)
    ∙ rw (same, take-append-le n cs more le, is) refl in
    let all : suc (n + 1) ≡ n + 2 = omega arith in
    ap (λ l. past_one (token_by ends l c ys)) leads
    ∙ rw (closes, quoted_is text utf8, all) refl

-- a token that is a string has at least one byte
pub begins_some : (ends : ℕ → Bool) (bytes : List ℕ) (n : ℕ) (text : List ℕ)
    → BeginWithText ends bytes n text → 0 < n
begins_some ends [] n text begins = absurd begins
begins_some ends (c ∷ cs) n text begins =
    let size : suc (token_by ends (lead_of c) c (cs ++ [])).bytes ≡ n =
    ap (λ t. t.bytes) (begins []) in
    omega (arith, size)

-- the string is the first token of all bytes that remain
pub front_leads : (ends : Stop) (bytes hand rest xs front : List ℕ) (blanks n count : ℕ)
    (text : List ℕ) → bytes ≡ hand → xs ≡ hand ++ rest → blanks ≡ run (stops stop.Lead) bytes
    → front ≡ drop blanks bytes → BeginWithText (stops ends) front n text → count ≡ blanks + n
    → LeadsToText (stops ends) xs count text
front_leads ends bytes hand rest xs [] blanks n count text same all blank dropped begins to =
    absurd begins
front_leads ends bytes hand rest xs (c ∷ cs) blanks n count text same all blank dropped begins to =
    let is = begins rest in
    let some : length (drop blanks bytes) ≡ suc (length cs) = ap length (sym dropped) in
    let less : blanks < length bytes = omega (arith, length-drop blanks bytes) in
    let le : blanks ≤ length bytes = omega arith in
    let whole : xs ≡ bytes ++ rest = rw (← same) at all in
    let after : drop blanks xs ≡ c ∷ (cs ++ rest) =
    rw whole (drop-append-le blanks bytes rest le ∙ ap (λ l. l ++ rest) (sym dropped)) in
    let is-blank : blanks ≡ run (stops stop.Lead) xs =
    blank
    ∙ sym (rw whole
    (run_front (stops stop.Lead) bytes rest (subst (λ k. k < length bytes) blank less))) in
    let size : suc (token_by (stops ends) (lead_of c) c (cs ++ rest)).bytes ≡ n =
    ap (λ t. t.bytes) is in
    record {
      byte = c;
      rest = cs ++ rest;
      next = subst (λ k. drop k xs ≡ c ∷ (cs ++ rest)) is-blank after;
      means = ap (λ t. t.gives) is;
      ends = omega arith;
    }

-- the string is the first item, and the others remain after it
pub borrowed_item : (stops : ℕ → Bool) (xs : List ℕ) (p q count : ℕ) (text : List ℕ)
    → LeadsToText stops xs count text → q ≡ p + count
    → IsFirst stops xs p (Ok (ScalarEvent (String text))) (drop count xs) q
borrowed_item stops xs p q count text ahead place =
    let ends = ahead.ends in
    let end : q ≡ p + run (λ c. not (is_blank c)) xs
    + suc (token_by stops (lead_of ahead.byte) ahead.byte ahead.rest).bytes = omega arith in
    let led = rw ahead.next at (going_blanks (going_start stops xs p)) in
    let first = going_event led end ahead.means in
    let many : q - p ≡ count = omega arith in
    subst (λ left. IsFirst stops xs p (Ok (ScalarEvent (String text))) left q)
    (first.1.rest ∙ ap (λ n. drop n xs) many) first

-- a string that was borrowed is what `next` would have yielded
pub borrowed_gives : {R : Type 0} (known : R → Option (List ℕ)) (failed : R → Option ℕ)
    (old : AsciiReader R) (new : Input R) (count : ℕ) (text : List ℕ) (event : Event)
    → event_of event ≡ ScalarEvent (String text)
    → IfKnown (unread known old.input)
    (λ bytes. LeadsToText (stops (stop.Bare old.dialect)) bytes count text)
    → old.input.ended ≡ false
    → IfKnown (unread known old.input) (λ bytes. unread known new ≡ Some (drop count bytes))
    → new.taken ≡ old.input.taken + count → 0 < count
    → new.peeked ≡ None → failed new.inner ≡ failed old.input.inner
    → GivesAscii known failed old (Some (Ok event))
    (record { input = new; alloc = old.alloc; dialect = old.dialect })
borrowed_gives known failed old new count text event is ahead going bytes place some peeked same =
    let first : TakesFirst known old (Ok (event_of event)) new = λ xs e. (
      drop count xs,
      bytes xs e,
      rw is (borrowed_item _ xs _ _ count text (ahead xs e) place),
    ) in
    gives_event refl going (omega arith) first same (rw is tt)
    (subst (λ e. IfBracket e (new.peeked ≡ None)) (sym is) tt) (λ xs e first. peeked)

-- an input with bytes at hand hasn't ended
pub some_going : (window : List ℕ) (ended : Bool) (peeked : Option ℕ) (p n : ℕ)
    → n ≤ length (hand_of window ended peeked p) → 0 < n → ended ≡ false
unfolding hand_of
some_going window true peeked p n within some = absurd (let none : ⊥ = omega arith in none)
some_going window false peeked p n within some = refl
