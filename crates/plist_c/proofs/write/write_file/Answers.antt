use Rattle.std.proofs.Common.{inl, inr, refl, sym, subst, ◌∙◌}
use Rattle.plist_base.specs.Bracketing.{AreTreeEvents}
use Rattle.plist_c.proofs.Pushing.{made_file, whole_is_tree}
use Rattle.plist_c.proofs.write.write_file.Goals as goal

pub write_file-requires : goal.write_file-requires
write_file-requires g c = record {
  whole = subst AreTreeEvents (sym c.events.ensures) (whole_is_tree c.args.pending.now c.requires);
}

pub returns-in-Ok : goal.returns-in-Ok
returns-in-Ok g c = inl (
  c.write_file.new.writer.items,
  made_file g.S.Sharing.kind _ _ c.new-made.result.items _ c.events.ensures
      c.new-made.ensures.items c.in-Ok.ensures,
  rw c.as_slice.ensures.value at c.store.ensures,
)

pub returns-in-PlistTooLarge : goal.returns-in-PlistTooLarge
returns-in-PlistTooLarge g c = inr (
  refl,
  inl (
    rw c.events.ensures at
        (rw (sym c.kind.ensures ∙ c.in-PlistTooLarge.is) at c.in-Err.ensures.1).0,
    c.with_fault.ensures,
  ),
)
