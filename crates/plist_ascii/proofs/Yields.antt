-- What one call of `next` yields and takes.
use Rattle.std.proofs.Common.{rules, ◌≡◌, ◌<◌, ◌≤◌, ℕ, Bool, true, false, List, [], ◌∷◌, Option, None, Some, Result, Ok, Err, refl, sym, ap, subst, ◌∙◌, arith}
use Rattle.std.specs.Prelude.{⊤}
use Rattle.std.specs.Option.{option_map}
use Rattle.plist_base.specs.declared.error.Error.{Error}
use Rattle.plist_base.specs.declared.event.Event.{Event}
use Rattle.plist_base.specs.Events.{Item, event_of}
use Rattle.plist_base.specs.Faults.{Fault, FaultKind, Io, OutOfMemory, MatchFault, fault_at, fault_of, fault_without_offset}
use Rattle.plist_base.specs.FirstItems.{GivesFirst, GivesFirstIfKnown, StopsIf}
use Rattle.plist_ascii.specs.declared.fault.TokenFault.{TokenFault}
use Rattle.plist_ascii.specs.declared.fault.TokenFault.TheVariants as broken
use Rattle.plist_ascii.specs.declared.input.Input.{Input}
use Rattle.plist_ascii.specs.declared.reader.AsciiReader.{AsciiReader}
use Rattle.plist_ascii.specs.Texts.{ends_bare}
use Rattle.plist_ascii.specs.Ascii.{items_of_ascii, placed_items, BeginsWithText, FirstIsQuoted, IfBracket, IsAsciiEvent, IsFaultOfBytes}
use Rattle.plist_ascii.specs.AsciiReader.{BeginsWithItem, GivesAscii, HasEndedAscii, TakesItem, ascii_items_to_come, device_of, peeked_byte, place_of, untaken_bytes}
use Rattle.plist_ascii.specs.Unread.{IfKnown}
use Rattle.plist_ascii.specs.inner.Inputs.{CountsFailed, EndsInput, fault_after, kind_in_bytes}
use Rattle.plist_ascii.proofs.Items.{TakesFirst, no_items}

-- the item is the first of these bytes' items, and its bytes were taken
abbrev IsYielded : (stops : ℕ → Bool) (bytes : List ℕ) (p : ℕ) → Option (Result Event Error)
    → (rest : List ℕ) (q : ℕ) → Type 0
IsYielded stops bytes p item rest q =
    GivesFirst event_of (StopsIf (λ _. ⊤)) (StopsIf BeginsWithText)
    (items_of_ascii stops bytes p) item (items_of_ascii stops rest q)
    × TakesItem stops bytes p item rest q

-- if the bytes are known, the item is the first of their items, and its bytes were taken
pub record Takes {R : Type 0} (known : R → Option (List ℕ)) (old : AsciiReader R)
    (item : Option (Result Event Error)) (new : AsciiReader R) : Type 0 where
  pub dialect : new.dialect ≡ old.dialect
  pub first : IfKnown (untaken_bytes known old) (λ bytes. (rest : List ℕ)
      × (untaken_bytes known new ≡ Some rest)
      × IsYielded (ends_bare old.dialect) bytes (place_of old) item rest (place_of new))

-- a fact for each kind of error
by_fault : (f : TokenFault) (p : ℕ) (x : Fault) → x ≡ fault_after f p → {A B C : Type 0}
    → (f ≡ broken.Io → x ≡ fault_at Io p → A)
    → (f ≡ broken.OutOfMemory → x ≡ fault_without_offset OutOfMemory → B)
    → ((kind : FaultKind) → kind_in_bytes f ≡ Some kind → x ≡ fault_at kind p
    → IsFaultOfBytes kind → C)
    → MatchFault x.kind A B C
by_fault broken.Io p x is a b c = rw is (a refl is)
by_fault broken.OutOfMemory p x is a b c = rw is (b refl is)
by_fault f p x is a b c = rw is (c _ refl is tt)

-- only `Io` is counted
counts_same : {R : Type 0} (failed : R → Option ℕ) (old new : Input R) (f : TokenFault)
    {kind : FaultKind} → kind_in_bytes f ≡ Some kind
    → CountsFailed {A = Option Event} failed old (Err f) new → failed new.inner ≡ failed old.inner
counts_same failed old new f is counts = search rules

pub not_ended : {ended : Bool} {A : Type 0} → ended ≡ false → ended ≡ true → A
not_ended f t = absurd (cc)

-- the fault is that of the first item, or memory ran out for it, or a read failed
error_first : {R : Type 0} (known : R → Option (List ℕ)) (old new : AsciiReader R)
    (f : TokenFault) (x : Fault) (mid : Input R) → x ≡ fault_after f mid.taken
    → EndsInput known f mid new.input → place_of new ≡ mid.taken
    → (f ≡ broken.OutOfMemory → IfKnown (untaken_bytes known old)
    (λ xs. BeginsWithText (items_of_ascii (ends_bare old.dialect) xs (place_of old))))
    → ((kind : FaultKind) → kind_in_bytes f ≡ Some kind
    → TakesFirst known old (Err (fault_at kind mid.taken)) mid)
    → IfKnown (untaken_bytes known old) (λ xs. (rest : List ℕ)
    × (untaken_bytes known new ≡ Some rest)
    × (let before = items_of_ascii (ends_bare old.dialect) xs (place_of old) in
    let after = items_of_ascii (ends_bare old.dialect) rest (place_of new) in
    MatchFault x.kind (StopsIf (λ _. ⊤) before after) (StopsIf BeginsWithText before after)
    (before ≡ Err x ∷ after)
    × MatchFault x.kind (rest ≡ []) (rest ≡ [])
    (BeginsWithItem (ends_bare old.dialect) xs (place_of old) (Err x) rest (place_of new))))
error_first known old new broken.Io x mid is ends place memory first = λ xs e.
    ([], ends.1, rw is ((tt, no_items _ _), refl))
error_first known old new broken.OutOfMemory x mid is ends place memory first = λ xs e.
    ([], ends.1, rw is ((memory refl xs e, no_items _ _), refl))
error_first known old new f x mid is ends place memory first = λ xs e.
    let k = first _ refl xs e in (k.0, ends ∙ k.1, rw (is, place) k.2)

module _ {R : Type 0} {known : R → Option (List ℕ)} {old new : AsciiReader R} where
  module _ {item : Option (Result Event Error)} (takes : Takes known old item new) where
    items_come : GivesFirstIfKnown event_of (StopsIf (λ _. ⊤)) (StopsIf BeginsWithText)
        (ascii_items_to_come known old) item (ascii_items_to_come known new)
    items_come = rw takes.dialect (by (untaken_bytes known old) takes.first)
      where
        items : List ℕ → ℕ → List Item
        items = items_of_ascii (ends_bare old.dialect)

        by : (bytes : Option (List ℕ)) → IfKnown bytes (λ bytes. (rest : List ℕ)
            × (untaken_bytes known new ≡ Some rest)
            × IsYielded (ends_bare old.dialect) bytes (place_of old) item rest (place_of new))
            → GivesFirstIfKnown event_of (StopsIf (λ _. ⊤)) (StopsIf BeginsWithText)
            (option_map (λ bytes. items bytes (place_of old)) bytes) item
            (option_map (λ bytes. items bytes (place_of new)) (untaken_bytes known new))
        by None h = tt
        by (Some bytes) h =
            let k = h bytes refl in
            (items k.0 (place_of new), ap (option_map (λ b. items b (place_of new))) k.1, k.2.0)

    bytes_taken : IfKnown (untaken_bytes known old) (λ bytes. (rest : List ℕ)
        × (untaken_bytes known new ≡ Some rest)
        × TakesItem (ends_bare old.dialect) bytes (place_of old) item rest (place_of new))
    bytes_taken = λ xs e. let k = takes.first xs e in (k.0, k.1, k.2.1)

  module _ {failed : R → Option ℕ} (dialect : new.dialect ≡ old.dialect) where
    -- no item remained
    pub gives_none : IfKnown (untaken_bytes known old) (λ xs. (untaken_bytes known new ≡ Some [])
        × (items_of_ascii (ends_bare old.dialect) xs (place_of old) ≡ []))
        → place_of old ≤ place_of new → failed (device_of new) ≡ failed (device_of old)
        → HasEndedAscii new → (HasEndedAscii old → device_of new ≡ device_of old)
        → GivesAscii known failed old None new
    gives_none none rises same ended unasked =
        let takes : Takes known old None new = record {
          dialect = dialect;
          first = λ xs e. let k = none xs e in ([], k.0, ((k.1, no_items _ _), refl));
        } in
        record {
          items = items_come takes;
          failures = same;
          state = record { ended = λ _. refl; unasked = unasked; ends = ended };
          inner = record {
            takes = bytes_taken takes;
            dialect = dialect;
            rises = (rises, tt);
            kinds = tt;
            offset = tt;
            brackets = tt;
            quotes = λ xs e. tt;
          };
        }

    module _ (going : old.input.ended ≡ false) where
      -- the first item is an event
      pub gives_event : {event : Event} → place_of old < place_of new
          → TakesFirst known old (Ok (event_of event)) new.input
          → failed (device_of new) ≡ failed (device_of old) → IsAsciiEvent (event_of event)
          → IfBracket (event_of event) (peeked_byte new ≡ None)
          → IfKnown (untaken_bytes known old) (λ bytes. FirstIsQuoted
          (placed_items (ends_bare old.dialect) bytes (place_of old)) → peeked_byte new ≡ None)
          → GivesAscii known failed old (Some (Ok event)) new
      gives_event {event} rises first same kinds brackets quotes =
          let takes : Takes known old (Some (Ok event)) new =
          record { dialect = dialect; first = first } in
          record {
            items = items_come takes;
            failures = same;
            state = record { ended = not_ended going; unasked = not_ended going; ends = tt };
            inner = record {
              takes = bytes_taken takes;
              dialect = dialect;
              rises = (omega arith, rises);
              kinds = kinds;
              offset = tt;
              brackets = brackets;
              quotes = quotes;
            };
          }

      -- the error ends the reader, or is that of the first item
      pub gives_error : (error : Error) (f : TokenFault) (prev mid : Input R)
          → place_of old ≤ place_of new
          → fault_of error ≡ fault_after f mid.taken → EndsInput known f mid new.input
          → place_of new ≡ mid.taken → CountsFailed {A = Option Event} failed prev (Err f) mid
          → failed prev.inner ≡ failed (device_of old) → device_of new ≡ mid.inner
          → (f ≡ broken.OutOfMemory → IfKnown (untaken_bytes known old)
          (λ xs. BeginsWithText (items_of_ascii (ends_bare old.dialect) xs (place_of old))))
          → ((kind : FaultKind) → kind_in_bytes f ≡ Some kind
          → (place_of old < place_of new)
          × TakesFirst known old (Err (fault_at kind mid.taken)) mid)
          → GivesAscii known failed old (Some (Err error)) new
      gives_error error f prev mid rises is ends place counts before inner memory first =
          let takes : Takes known old (Some (Err error)) new = record {
            dialect = dialect;
            first = error_first known old new f (fault_of error) mid is ends place memory
                (λ kind some. (first kind some).1);
          } in
          record {
            items = items_come takes;
            failures = by_fault f mid.taken (fault_of error) is
                (λ io x. rw (before, ← inner) at (rw io at counts).0)
                (λ oom x. ap failed inner ∙ (rw oom at counts) ∙ before)
                (λ kind some x ok. ap failed inner ∙ counts_same failed prev mid f some counts
                ∙ before);
            state = record {
              ended = not_ended going;
              unasked = not_ended going;
              ends = by_fault f mid.taken (fault_of error) is (λ io x. (rw io at ends).0)
                  (λ oom x. (rw oom at ends).0) (λ kind some x ok. tt);
            };
            inner = record {
              takes = bytes_taken takes;
              dialect = dialect;
              rises = (
                rises,
                by_fault f mid.taken (fault_of error) is (λ io x. tt) (λ oom x. tt)
                    (λ kind some x ok. (first kind some).0),
              );
              kinds = by_fault f mid.taken (fault_of error) is (λ io x. tt) (λ oom x. tt)
                  (λ kind some x ok. subst (λ (x : Fault). IsFaultOfBytes x.kind) (sym x) ok);
              offset = by_fault f mid.taken (fault_of error) is
                  (λ io x. ap (λ (x : Fault). x.offset) x ∙ ap Some (sym place))
                  (λ oom x. ap (λ (x : Fault). x.offset) x)
                  (λ kind some x ok. ap (λ (x : Fault). x.offset) x ∙ ap Some (sym place));
              brackets = tt;
              quotes = λ xs e. tt;
            };
          }
