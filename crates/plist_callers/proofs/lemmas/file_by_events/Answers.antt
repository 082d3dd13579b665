use Rattle.std.proofs.Common.{Global, List, ℕ, ◌++◌, ap, subst, sym, ◌∙◌}
use Rattle.std.specs.declared.vec.Vec.{Vec}
use Rattle.std.proofs.lemmas.Result.{err_from_is_err_and}
use Rattle.plist_base.specs.Faults.{fault_of}
use Rattle.plist.specs.ValueTrees.{tree_of}
use Rattle.plist.proofs.WriterFiles.{all-sent, all-stopped}
use Rattle.plist_callers.proofs.lemmas.file_by_events.Goals as goal

pub returns-in_err-write_value : goal.returns-in_err-write_value
returns-in_err-write_value g c =
    let made = c.new-writer.ensures in
    let f = err_from_is_err_and c.from_residual.result c.from_residual.ensures.1 in
    record {
      file = rw f.1 tt;
      refused = rw (f.1, f.2) (all-stopped (tree_of c.args.value.now) c.new.result
          c.new-writer.result c.write_value.new.writer (fault_of c.in_err-write_value.field-0.0)
          made.held made.failed made.inner c.in_err-write_value.ensures.written);
    }

pub returns : goal.returns
returns g c =
    let tree = tree_of c.args.value.now in
    let made = c.new-writer.ensures in
    let s = all-sent tree
    c.new.result c.new-writer.result c.write_value.new.writer made.held made.failed made.inner
    c.in_ok-write_value.ensures.written in
    record {
      file = subst (g.S.Sharing.kind.IsFile tree)
          (sym (ap (λ (v : Vec ℕ Global). v.items) c.into_inner.ensures.inner ∙ s.2
          ∙ ap (λ (l : List ℕ). l ++ s.0) c.new.ensures.items)) s.1;
      refused = tt;
    }
