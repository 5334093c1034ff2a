use Rattle.std.proofs.Common.{List, [], Option, refl, subst}
use Rattle.hpke_context.specs.Contexts.{ContextView}
use Rattle.context_core.specs.Rehearsals.{rehearsed, AreAnswersOf}
use Rattle.batch_alone.proofs.Demonstrated.{answers_a_run}
use Rattle.batch_alone.proofs.demonstrating.serve.Goals as goal

pub returns : goal.returns
returns g c =
    let batch = c.args.batch in
    let answers = c.rehearse_by.new.answers in
    record {
      plan_is = refl;
      run = answers_a_run batch.plan batch.standing [] answers
          (c.every_rehearsal_is_allowed.ensures batch.plan batch.standing [] c.requires.batch.within c.requires.batch.lines)
          (subst (λ (seen : List (Option ContextView)). AreAnswersOf (rehearsed batch.plan seen []) answers)
          c.as_slice.ensures.items c.in_ok-rehearse_by.ensures.answered);
      answered = c.in_ok-rehearse_by.ensures.printable;
    }
