use Rattle.std.proofs.Common.{◌≡◌, ℕ, ◌+◌, List, ◌++◌, length, take, Vec, ap, ◌∙◌, rules, arith}
use Rattle.std.specs.Vec.{with_items}
use Rattle.std.proofs.lemmas.List.{with_items_is}
use Rattle.std.proofs.Math.Seq.{take-append_seam, take-append-add}
use Rattle.plist_base.proofs.fixed_buffer.FixedBuffer.push_passing.Goals as goal

-- bytes that replace those after the first bytes of a vector are appended to them
replaced_after : {Z : Type 0} (vec : Vec ℕ Z) (front bytes rest : List ℕ)
    {old more : List ℕ} {end : ℕ}
    → length (front ++ (bytes ++ rest)) ≡ vec.len → end ≡ length front + length bytes
    → front ≡ old → bytes ≡ more
    → take end (with_items vec (front ++ (bytes ++ rest))).items ≡ old ++ more
replaced_after vec front bytes rest same ends is are =
    rw (with_items_is vec (front ++ (bytes ++ rest)) same, ends, ← is, ← are)
    (take-append-add front (bytes ++ rest) (length bytes)
    ∙ ap (λ l. front ++ l) (take-append_seam bytes rest))

pub returns-clause-pushed : goal.returns-clause-pushed
returns-clause-pushed g c = λ is.
    let used = c.self.inside.used in
    let whole = c.deref_mut.result.now in
    let target = c.copy_enclosed.new.target in
    let front : take used whole ≡ c.args.self.now = rw c.deref_mut.ensures.value c.self.view_is in
    let copied : target ≡ c.args.before ++ c.args.bytes.now ++ c.args.after = search rules in
    let long : length (take used whole) ≡ used = search rules in
    let size : length target ≡ g.row.BEFORE + length c.args.bytes.now + g.row.AFTER = search rules in
    replaced_after c.self.inside.bytes (take used whole) target _ (search rules)
    (omega (arith, long, size)) front copied
