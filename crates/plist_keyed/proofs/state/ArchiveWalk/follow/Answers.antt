use Rattle.std.proofs.Common.{◌∙◌, ap, inl, inr, refl, sym, None, Some}
use Rattle.std.specs.Option.{option_copied}
use Rattle.plist.specs.ValueTrees.{tree_of}
use Rattle.plist_keyed.proofs.StoredChecks.{added, member, no-member, seen_at}
use Rattle.plist_keyed.proofs.state.ArchiveWalk.follow.Goals as goal

pub returns-then-contains_key-clause-followed : goal.returns-then-contains_key-clause-followed
returns-then-contains_key-clause-followed c = inl (
  member c.args.self.now.ends c.args.uid (sym c.contains_key.ensures ∙ c.if-contains_key.true),
  refl,
  refl,
)

pub returns-in_default-clause-refused : goal.returns-in_default-clause-refused
returns-in_default-clause-refused c =
    rw (seen_at _ c.args.uid _ None c.look_up.ensures (ap option_copied c.in_default.is)) refl

pub returns-then-contains-clause-refused : goal.returns-then-contains-clause-refused
returns-then-contains-clause-refused c =
    rw (
      seen_at _ c.args.uid _ (Some c.in-Some.object.now) c.look_up.ensures
          (ap option_copied c.in-Some.is),
      sym c.contains.ensures ∙ c.if-contains.true,
    ) refl

pub returns-clause-followed : goal.returns-clause-followed
returns-clause-followed c =
    let off = sym c.contains.ensures ∙ c.if-contains.false in
    inr (record {
      object = tree_of c.in-Some.object.now;
      level = c.events.result;
      is_new = no-member c.args.self.now.ends c.args.uid
          (sym c.contains_key.ensures ∙ c.if-contains_key.false);
      found = rw (
        seen_at _ c.args.uid _ (Some c.in-Some.object.now) c.look_up.ensures
            (ap option_copied c.in-Some.is),
        off,
      ) refl;
      events = c.events.ensures.items;
      levels = c.in_ok-push.ensures.items;
      is_last = added c.args.path.now.keys c.insert.new.self.keys c.args.uid
          c.in_ok-insert.ensures.keys off;
    })
