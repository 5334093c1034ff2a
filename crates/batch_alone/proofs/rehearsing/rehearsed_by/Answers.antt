use Rattle.std.proofs.Common.{List, Option, subst}
use Rattle.hpke_context.specs.Contexts.{ContextView}
use Rattle.context_core.specs.Rehearsals.{rehearsed, AreAnswersOf}
use Rattle.batch_serving.proofs.Rehearsed.{is_rehearsal}
use Rattle.batch_alone.proofs.rehearsing.rehearsed_by.Goals as goal

pub returns-clause-text : goal.returns-clause-text
returns-clause-text g c =
    let plan = c.args.plan.now in
    let begun = c.in_ok-standing.field-0 in
    let is = c.in_ok-standing.ensures in
    let schedule = c.args.schedule.now in
    let answers = c.rehearse_by.new.answers in
    let t = c.in_ok-rehearse_by.ensures in
    is_rehearsal plan begun.answers.keys begun.answers.contexts begun.standing schedule answers (record {
      set_up = is.set_up;
      lines = is.lines;
      lanes = subst (λ (seen : List (Option ContextView)). AreAnswersOf (rehearsed plan seen schedule) answers)
          c.as_slice.ensures.items t.answered;
      keys_are = t.set_up.0;
      contexts_are = t.set_up.1;
    })
