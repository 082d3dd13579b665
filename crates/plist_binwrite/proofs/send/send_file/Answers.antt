use Rattle.std.proofs.Common.{ap, length, rules, subst, ◌∙◌}
use Rattle.plist_base.specs.Sinks.{HasPut}
use Rattle.plist_base.specs.Writing.{answer_of}
use Rattle.plist_binwrite.specs.Classes.{files_by, class_in, events_in}
use Rattle.plist_binwrite.specs.SendingAs.{SendsAs}
use Rattle.plist_binwrite.proofs.PlannedFiles.{sends_file}
use Rattle.plist_binwrite.proofs.PuttingObjects.{all_put, number_told, start_put}
use Rattle.plist_binwrite.proofs.send.send_file.Goals as goal

pub returns : goal.returns
returns g c =
    let plan = c.args.plan.now in
    let done = c.finish.ensures in
    let empty = c.new-sink.ensures.pending ∙ c.requires.empty in
    let start = subst (HasPut c.new-sink.result) (ap length empty) c.new-sink.ensures.position in
    let all = c.put_objects.ensures.step c.new-sink.result start
    (start_put c.requires.plan c.requires.zeros c.put.ensures) in
    let put = all_put c.requires.plan all.0 start all.2 c.unwrap_or-table.result
    (λ n put. number_told c.position.result _ _ c.unwrap_or-table.ensures n (c.position.ensures n put))
    c.put_table_and_trailer.ensures in
    subst (λ w. SendsAs (files_by (class_in plan.given)) g.W.Write.contents (events_in plan.given)
    (answer_of c.finish.result) c.args.writer.now w)
    (search rules)
    (rw c.new-sink.ensures.unwritten at
    (sends_file plan empty c.requires.whole
    c.finish.new.self put c.finish.result done.sent done.working done.prefix
    done.unasked done.fault))
