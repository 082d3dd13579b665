-- What an event writes to a hasher. Equal events write the same.
use Rattle.std.specs.Prelude.{◌≡◌, ◌==◌, ℕ, true, List, []}
use Rattle.std.proofs.Common.{ap, refl, rules}
use Rattle.std.specs.Bool.{Decides}
use Rattle.std.specs.Cmp.Rules.{comparing}
use Rattle.std.specs.Cow.{cow_str_bytes, cow_slice_items}
use Rattle.std.proofs.lemmas.Bool.Decides.{Decides-eqb}
use Rattle.std.proofs.lemmas.Slice.Eq.{bytes_eq-Decides, slice_eq-Decides}
use lib.Pointwise.{pointwise}
use Rattle.plist_base.specs.contracts.event.EventPartialEq.TheImpl as impl
use Rattle.plist_base.specs.declared.event.Event.{Event}
use Rattle.plist_base.specs.declared.event.Event.TheVariants as event
use Rattle.plist_base.specs.declared.real.RealBits.TheVariants as real
use Rattle.plist_base.specs.Events.{PlainEvent, ScalarEvent, event_of}
use Rattle.plist_base.specs.Scalars.{writes_of_scalar}
use Rattle.plist_base.specs.Trees.{Data, Date, Real, String}

-- the writes of an event: one write of its content, or none for a start or an end
abbrev pub writes_of : PlainEvent → List (List ℕ)
writes_of (ScalarEvent scalar) = writes_of_scalar scalar
writes_of event = []

-- the test of two lists of bytes decides whether they are equal
pub same_list : (a b : List ℕ) → Decides (pointwise (λ x y. x == y) a b) (a ≡ b)
same_list a b = slice_eq-Decides Decides-eqb a b _ refl

-- events that the code finds equal have the same content
pub same_event : (x y : Event) → (impl.ghosts).eq x y ≡ true → event_of x ≡ event_of y
same_event (event.Data a) (event.Data b) h =
    ap (λ l. ScalarEvent (Data l)) ((same_list (cow_slice_items a) (cow_slice_items b)).0 h)
same_event (event.String a) (event.String b) h =
    ap (λ l. ScalarEvent (String l)) ((same_list (cow_str_bytes a) (cow_str_bytes b)).0 h)
same_event (event.Date a) (event.Date b) h = ap (λ l. ScalarEvent (Date l)) ((same_list a b).0 h)
same_event (event.Real (real.Four a)) (event.Real (real.Four b)) h =
    ap (λ l. ScalarEvent (Real (real.Four l))) ((same_list a b).0 h)
same_event (event.Real (real.Eight a)) (event.Real (real.Eight b)) h =
    ap (λ l. ScalarEvent (Real (real.Eight l))) ((same_list a b).0 h)
same_event x y h = search (comparing, rules, bytes_eq-Decides, h)
