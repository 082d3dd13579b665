use Rattle.std.proofs.Common.{◌≡◌, ℕ, ◌-◌, ◌≤◌, List, length, take, drop, ap, ◌∙◌, arith}
use Rattle.std.proofs.lemmas.List.{drop-take, length-drop, length-take-le}
use Rattle.std.proofs.lemmas.List.Edits.{take-paste}
use Rattle.std.specs.List.{copy_within}
use Rattle.plist_buffer.proofs.waiting.WaitingScalars.remove_first.Goals as goal

-- if the items from k up to n are moved to the front, they are the first n - k
moved : {A : Type 0} (xs : List A) (n k : ℕ) → k ≤ n → n ≤ length xs
    → take (n - k) (copy_within xs k n 0) ≡ drop k (take n xs)
moved xs n k le fits =
    grind (arith, take-paste xs 0 (drop k xs) (n - k), length-drop k xs, drop-take k (n - k) xs)

pub returns : goal.returns
returns c =
    let w = c.self.inside in
    let long = length-take-le w.count w.scalars (omega arith) in
    ap (take (w.count - c.args.count)) c.copy_within.ensures.after
    ∙ moved w.scalars w.count c.args.count
    (omega (arith, long, ap length c.self.view_is))
    (omega arith)
    ∙ ap (drop c.args.count) c.self.view_is
