use Rattle.std.proofs.Common.{◌≡◌, ◌-◌, arith, List, [], ◌∷◌, ◌++◌, Option, None, Some, IfSome, length, refl, sym, ◌∙◌, ap, reverse, take}
use Rattle.plist_binread.specs.Remaining.{with_innermost}
use Rattle.plist_binread.specs.declared.frames.Frame.{Frame}
use Rattle.std.proofs.lemmas.List.{reverse-append}
use Rattle.plist_binread.proofs.frames.Frames.next_child.Goals as goal

-- the innermost of these frames was removed
popped : {old new : List Frame} (last : Option Frame)
    → IfSome last (λ frame. old ≡ new ++ frame ∷ []) → (last ≡ None → old ≡ [])
    → new ≡ take (length old - 1) old → old ≡ with_innermost new last
popped None some none rest =
    none refl ∙ sym (rest ∙ ap (λ frames. take (length frames - 1) frames) (none refl))
popped (Some frame) some none rest = some

pub returns-in-Some : goal.returns-in-Some
returns-in-Some c = (
  reverse c.self.inside.outer,
  rw (← c.self.view_is, c.in-Some.is) (reverse-append c.self.inside.outer _),
  reverse-append c.self.inside.outer _,
  omega arith,
)

pub returns-in-Some-2 : goal.returns-in-Some-2
returns-in-Some-2 c = (
  c.in-Some.frame.next,
  c.in-Some.frame.count,
  rw (← c.self.view_is, c.in-Some.is)
      (reverse-append c.self.inside.outer _)
      ∙ ap (λ fs. c.in-Some.frame ∷ reverse fs) (popped c.pop-self-inside.result
      c.pop-self-inside.ensures.some c.pop-self-inside.ensures.none c.pop-self-inside.ensures.rest),
  c.if-frame.false,
)
