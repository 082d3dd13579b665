use Rattle.std.proofs.Common.{inr, Ok, Err, refl, subst, sym, ◌∙◌, true≢false}
use Rattle.std.proofs.lemmas.Result.{err_from_is_err_and}
use Rattle.plist_base.specs.Faults.{fault_of}
use Rattle.plist_buffer.specs.EventTable.{plain_events}
use Rattle.plist_buffer.proofs.Expectations.{whole_of_tree}
use Rattle.plist_commands.proofs.BufferedItems.{not_direct, sends_read}
use Rattle.plist_binwrite.specs.SendingAs.{SendsAs}
use Rattle.plist_binwrite.specs.Files.{least_files}
use Rattle.plist_commands.proofs.convert.send_events.Goals as goal

pub events-events-requires : goal.events-events-requires
events-events-requires g c = whole_of_tree c.args.pending.now c.requires

pub returns-then-branch-clause-converts : goal.returns-then-branch-clause-converts
returns-then-branch-clause-converts g c = λ known held. record {
  sent = λ e. absurd (cc);
  left = λ e. (
    refl,
    not_direct known (plain_events c.events-events.result.now) (rw c.events-events.ensures held)
        c.in_ok-repeats_key.field-0 c.in_ok-repeats_key.ensures.once
        (λ is. true≢false (sym c.if-branch.true ∙ is)),
  );
  refused = tt;
}

pub returns-clause-converts : goal.returns-clause-converts
returns-clause-converts g c = λ known held. record {
  sent = λ e. sends_read known (plain_events c.events-events.result.now)
      (rw c.events-events.ensures held) g.W.Write.contents (Ok tt) c.args.writer.now
      c.write_file.new.writer
      (λ tree alike. (c.in_ok-repeats_key.ensures.once tree alike).0 c.if-branch.false)
      c.in_ok-write_file.ensures;
  left = λ e. absurd (cc);
  refused = tt;
}

pub returns-in_err-write_file-clause-converts : goal.returns-in_err-write_file-clause-converts
returns-in_err-write_file-clause-converts g c =
    let f = err_from_is_err_and c.from_residual-in_err-write_file.result
    c.from_residual-in_err-write_file.ensures.1 in
    λ known held. rw (f.1, f.2) (record {
      sent = tt;
      left = tt;
      refused = inr (sends_read known (plain_events c.events-events.result.now)
          (rw c.events-events.ensures held) g.W.Write.contents
          (Err (fault_of c.in_err-write_file.field-0.0)) c.args.writer.now c.write_file.new.writer
          (λ tree alike. (c.in_ok-repeats_key.ensures.once tree alike).0 c.if-branch.false)
          c.in_err-write_file.ensures);
    })

pub returns-clause-wrote : goal.returns-clause-wrote
returns-clause-wrote g c = λ e.
    subst (λ events. SendsAs least_files g.W.Write.contents events (Ok tt) c.args.writer.now c.write_file.new.writer)
    c.events-events.ensures c.in_ok-write_file.ensures
