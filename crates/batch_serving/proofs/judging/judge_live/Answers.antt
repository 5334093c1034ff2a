use Rattle.std.proofs.Common.{◌≤◌, ℕ, List, Err, ap, length, subst, sym, true}
use Rattle.batch_plans.specs.Limits.{most_input}
use Rattle.request_frames.specs.Live.{front_live}
use Rattle.batch_serving.specs.Effects.{Writes}
use Rattle.batch_serving.specs.Text.{Judges, TellsVerdict}
use Rattle.batch_serving.proofs.Fronts.{front_within, rest_small}
use Rattle.batch_serving.proofs.Writing.{fault_told}
use Rattle.batch_serving.proofs.judging.judge_live.Goals as goal

pub behind-requires : goal.behind-requires
behind-requires g c = front_within c.args.input.now c.in-Ok.plan c.in-Ok.end true c.in-Ok.ensures.front

pub judge_live_result-requires-clause-size : goal.judge_live_result-requires-clause-size
judge_live_result-requires-clause-size g c =
    subst (λ (rest : List ℕ). length rest ≤ most_input) (sym c.behind.ensures)
    (rest_small c.args.input.now c.in-Ok.plan c.in-Ok.end true c.in-Ok.ensures.front)

pub returns-in-Ok : goal.returns-in-Ok
returns-in-Ok g c =
    let input = c.args.input.now in
    let written = g.K.Sink.written in
    let faults = g.K.Sink.faults in
    let old = c.args.sink.now in
    let new = c.judge_live_result.new.sink in
    subst (λ read. Writes written faults old new (Judges true read input) c.judge_live_result.result)
    (sym c.in-Ok.ensures.front)
    (subst (λ rest. Writes written faults old new (TellsVerdict true c.in-Ok.plan rest) c.judge_live_result.result)
    c.behind.ensures c.judge_live_result.ensures)

pub returns-in-Err : goal.returns-in-Err
returns-in-Err g c =
    let input = c.args.input.now in
    fault_told g.K.Sink.written g.K.Sink.faults c.args.sink.now c.tell_fault.new.sink
    (Judges true (front_live input) input) c.in-Err.fault c.tell_fault.result
    (λ bad is due text told. subst (λ read. Judges true read input due text)
    (sym (c.in-Err.ensures.bad bad.line bad.reason (ap (λ fault. Err fault) is))) told)
    c.tell_fault.ensures
