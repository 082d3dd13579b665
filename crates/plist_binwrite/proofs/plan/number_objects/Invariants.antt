use Rattle.std.proofs.Common.{◌≡◌, ℕ, ◌<◌, ◌++◌}
use Rattle.std.specs.List.{AllByRecursion}
use Rattle.plist_buffer.specs.Children.{half_of}
use Rattle.plist_buffer.specs.declared.children.Half.TheVariants.{Keys, Values}
use Rattle.plist_binwrite.specs.Classes.{events_in}
use Rattle.plist_binwrite.specs.inner.Numbering.{IsNumbered, IsNumberedSoFar, object_number}
use Rattle.plist_binwrite.proofs.plan.number_objects.Given as goal

abbrev pub invariant-loop-index : goal.invariant-loop-index
invariant-loop-index l = record {
  so_far : IsNumberedSoFar l.given l.numbering;
  numbered : IsNumbered l.given l.numbering 0;
  root : object_number l.given l.numbering 0 ≡ 0;
  children : (p : ℕ) → p < l.index → AllByRecursion (IsNumbered l.given l.numbering)
      (half_of (events_in l.given) Keys p ++ half_of (events_in l.given) Values p);
}
