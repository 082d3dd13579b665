use Rattle.std.proofs.Common.{inl}
use Rattle.plist_base.proofs.windows.Windows.buffered.Goals as goal

pub returns-in-Some : goal.returns-in-Some
returns-in-Some c = record {
  bytes = inl (
    c.in-Some.long,
    c.in-Some.is,
    rw c.deref.ensures.value at rw c.deref-in-Some.ensures.value at c.buffered_in.ensures.bytes,
  );
}
