use Rattle.std.proofs.Common.{subst, sym}
use Rattle.request_frames.specs.Batch.{batch}
use Rattle.batch_serving.specs.Effects.{Writes}
use Rattle.batch_serving.specs.Text.{AnswersBy, IsRehearsal, MayEnd}
use Rattle.batch_runner.proofs.serving.answer.Goals as goal

pub returns-in-Run : goal.returns-in-Run
returns-in-Run g c =
    subst (λ one. Writes g.K.Sink.written g.K.Sink.faults c.args.sink.now c.run_batch.new.sink
    (MayEnd one c.args.input.now) c.run_batch.result) (sym c.in-Run.is) c.run_batch.ensures

pub returns-in-Live : goal.returns-in-Live
returns-in-Live g c =
    subst (λ one. Writes g.K.Sink.written g.K.Sink.faults c.args.sink.now c.answer_live.new.sink
    (MayEnd one c.args.input.now) c.answer_live.result) (sym c.in-Live.is) c.answer_live.ensures

pub returns-in-Rehearse : goal.returns-in-Rehearse
returns-in-Rehearse g c =
    let written = g.K.Sink.written in
    let faults = g.K.Sink.faults in
    let old = c.args.sink.now in
    let new = c.rehearse_batch.new.sink in
    subst (λ one. Writes written faults old new (MayEnd one c.args.input.now) c.rehearse_batch.result)
    (sym c.in-Rehearse.is)
    (subst (λ steps. Writes written faults old new (AnswersBy (IsRehearsal steps) (batch c.args.input.now))
    c.rehearse_batch.result) c.as_slice.ensures c.rehearse_batch.ensures)

pub returns-in-Check : goal.returns-in-Check
returns-in-Check g c =
    subst (λ one. Writes g.K.Sink.written g.K.Sink.faults c.args.sink.now c.judge.new.sink
    (MayEnd one c.args.input.now) c.judge.result) (sym c.in-Check.is) c.judge.ensures

pub returns-in-CheckLive : goal.returns-in-CheckLive
returns-in-CheckLive g c =
    subst (λ one. Writes g.K.Sink.written g.K.Sink.faults c.args.sink.now c.judge_live.new.sink
    (MayEnd one c.args.input.now) c.judge_live.result) (sym c.in-CheckLive.is) c.judge_live.ensures

pub returns-in-Capsules : goal.returns-in-Capsules
returns-in-Capsules g c =
    subst (λ one. Writes g.K.Sink.written g.K.Sink.faults c.args.sink.now c.exchange.new.sink
    (MayEnd one c.args.input.now) c.exchange.result) (sym c.in-Capsules.is) c.exchange.ensures
