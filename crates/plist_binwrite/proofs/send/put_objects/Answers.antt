use Rattle.std.proofs.Common.{◌≡◌, ◌+◌, ◌<◌, ◌⊎◌, ℕ, inl, inr, arith, sym, ◌∙◌}
use Rattle.std.proofs.lemmas.Bool.{cases_lt}
use Rattle.plist_binwrite.specs.Classes.{events_in}
use Rattle.plist_buffer.specs.EventTable.{HasItem}
use Rattle.plist_binwrite.proofs.TreeObjects.{items_apart}
use Rattle.plist_binwrite.proofs.PuttingObjects.{puts_before, puts_both, puts_nothing}
use Rattle.plist_binwrite.proofs.send.put_objects.Goals as goal
use Rattle.plist_binwrite.proofs.send.put_objects.Goals.{in-StartDictionary, in_default}

-- an index below the next one is the last one or below it
last_or_below : (Item : ℕ → Type 0) (index p : ℕ) → (p < index + 1) × Item p
    → ((p < index) × Item p) ⊎ (index ≡ p)
last_or_below Item index p (low, item) = elim (cases_lt p index) [
  | inl less ↦ inl (less, item)
  | inr least ↦ inr (omega arith)
]

pub loop-index-init : goal.loop-index-init
loop-index-init g c = puts_before (λ works p (low, item). absurd (omega (arith, low)))

pub returns-then-not-is_open : goal.returns-then-not-is_open
returns-then-not-is_open g c =
    puts_both (λ p item. inr item) c.loop-index.invariant
    (puts_nothing (sym c.is_open.ensures ∙ c.if-not-is_open.true))

pub loop-index-preserved-then-not-has_item : goal.loop-index-preserved-then-not-has_item
loop-index-preserved-then-not-has_item g c =
    let none = c.has_item.ensures.no c.if-not-has_item.true in
    let has = HasItem (events_in c.args.plan.now.given) in
    puts_both (λ p item. elim (last_or_below has c.loop-index.index p item) [
      | inl below ↦ inl below
      | inr last ↦ inr (items_apart _ item.1 none (sym last))
    ]) c.loop-index.invariant (puts_before (λ works p no. absurd no))

pub loop-index-preserved : goal.loop-index-preserved
loop-index-preserved g c =
    puts_both (last_or_below _ c.loop-index.index) c.loop-index.invariant
    (elim c.match-kind_at.branch [
      | in-StartDictionary w ↦ rw (w.sink-is, w.offsets-is)
          (puts_both (λ p is. inl is) c.put_once.ensures w.put_keys.ensures)
      | in_default w ↦ rw (w.sink-is, w.offsets-is) c.put_once.ensures
    ])

pub returns : goal.returns
returns g c =
    puts_both
    (λ p item. inl (omega (arith, item.0, c.loop-index-test.false, c.len-index-end.ensures), item))
    c.loop-index.invariant (puts_before (λ works p none. absurd none))
