use Rattle.std.proofs.Common.{ap, subst}
use Rattle.std.specs.Prelude.{is_some}
use Rattle.plist_base.specs.Visits.{YieldsPlain}
use Rattle.plist_reader.specs.Reader.{Gives, reader_items}
use Rattle.plist_reader.proofs.ReaderItems.{reader_comes}
use Rattle.plist_commands.specs.CollectorSteps.{collected}
use Rattle.plist_commands.specs.Converting.{CollectsItems, failures_in}
use Rattle.plist_commands.proofs.CollectorRuns.{concludes_once, concludes_twice}
use Rattle.plist_commands.proofs.ReaderItems.{IsOpen, reader_counts}
use Rattle.plist_commands.proofs.convert.collect_source.Goals as goal

pub returns-then-not-has_paused : goal.returns-then-not-has_paused
returns-then-not-has_paused g c =
    let known = g.S.Source.known in
    let failed = g.S.Source.failures in
    let k = concludes_once (YieldsPlain (Gives known failed)) (reader_items known)
    (reader_comes known failed) (failures_in failed) IsOpen (reader_counts known failed)
    (ap is_some c.new-reader.ensures.source) c.requires.empty c.visit-first.ensures.events
    (rw c.if-not-has_paused.true at c.has_paused.ensures) c.answer.ensures.answer in
    rw c.answer.ensures.held (record {
      collects = subst (λ items. CollectsItems items c.answer.result
          (collected c.visit-first.new.visitor)) c.new-reader.ensures.items k.collects;
      answers =
          (c.new-reader.result, c.visit-first.new.self, c.new-reader.ensures.new, k.ran, k.counted);
    })

pub returns : goal.returns
returns g c =
    let known = g.S.Source.known in
    let failed = g.S.Source.failures in
    let k = concludes_twice (YieldsPlain (Gives known failed)) (reader_items known)
    (reader_comes known failed) (failures_in failed) IsOpen (reader_counts known failed)
    (ap is_some c.new-reader.ensures.source) c.requires.empty c.visit-first.ensures.events
    (rw c.if-not-has_paused.false at c.has_paused.ensures) c.expect_scalars.ensures.events
    c.expect_scalars.ensures.whole c.expect_scalars.ensures.pauses c.visit-others.ensures.events
    c.answer-2.ensures.answer in
    rw c.answer-2.ensures.held (record {
      collects = subst (λ items. CollectsItems items c.answer-2.result
          (collected c.visit-others.new.visitor)) c.new-reader.ensures.items k.collects;
      answers =
          (c.new-reader.result, c.visit-others.new.self, c.new-reader.ensures.new, k.ran, k.counted);
    })
