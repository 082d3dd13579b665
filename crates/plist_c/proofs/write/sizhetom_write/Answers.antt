use Rattle.std.proofs.Common.{refl, sym, ◌∙◌}
use Rattle.plist_binwrite.specs.Files.{least_files}
use Rattle.plist_share.specs.SharedFiles.{shared_files}
use Rattle.plist_c.specs.Files.{files_of}
use Rattle.plist_c.proofs.Pushing.{written, written_early}
use Rattle.plist_c.proofs.write.sizhetom_write.Goals as goal

pub returns-then-not-is_whole : goal.returns-then-not-is_whole
returns-then-not-is_whole c =
    written_early (files_of c.args.shares)
    (record { events = c.args.events.now; bytes = c.args.bytes.now }) c.push_records.new.pending
    c.in_default.ensures.pushed c.with_fault.result c.args.file.now c.args.file.now
    (sym c.is_whole.ensures ∙ c.if-not-is_whole.true) c.with_fault.ensures refl

pub returns-then-shares : goal.returns-then-shares
returns-then-shares c = rw c.if-shares.true (written shared_files
    (record { events = c.args.events.now; bytes = c.args.bytes.now }) c.push_records.new.pending
    c.in_default.ensures.pushed c.write_file.result c.args.file.now c.write_file.new.file
    (sym c.is_whole.ensures ∙ c.if-not-is_whole.false) c.write_file.ensures)

pub returns : goal.returns
returns c = rw c.if-shares.false (written least_files
    (record { events = c.args.events.now; bytes = c.args.bytes.now }) c.push_records.new.pending
    c.in_default.ensures.pushed c.write_file-2.result c.args.file.now c.write_file-2.new.file
    (sym c.is_whole.ensures ∙ c.if-not-is_whole.false) c.write_file-2.ensures)
