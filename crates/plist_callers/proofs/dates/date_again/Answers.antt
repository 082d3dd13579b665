use Rattle.std.specs.Prelude.{◌≡◌, Result, Ok, Err}
use Rattle.plist_callers.proofs.dates.date_again.Goals as goal

same_ok : {A E : Type 0} (a b : A) → ◌≡◌ {A = Result A E} (Ok a) (Ok b) → a ≡ b
same_ok a b p = cc

never_ok : {A E : Type 0} (a : A) (e : E) → ◌≡◌ {A = Result A E} (Err e) (Ok a) → ⊥
never_ok a e p = cc

pub unreachable-requires : goal.unreachable-requires
unreachable-requires c =
    never_ok c.args.date.now _
    (c.in-Err.ensures.back c.args.date.now (rw c.as_str.ensures.value c.in_ok-text.ensures.text))

pub returns : goal.returns
returns c =
    record {
      same = same_ok c.in-Ok.again c.args.date.now
          (c.in-Ok.ensures.back c.args.date.now
          (rw c.as_str.ensures.value c.in_ok-text.ensures.text));
    }
