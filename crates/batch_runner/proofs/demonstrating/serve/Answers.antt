use Rattle.std.proofs.Common.{refl}
use Rattle.batch_runner.proofs.Demonstrated.{answers_a_run}
use Rattle.batch_runner.proofs.demonstrating.serve.Goals as goal

pub returns : goal.returns
returns g c = record {
  plan_is = refl;
  run = answers_a_run c.args.batch.plan c.args.batch.standing c.in_ok-answers.answers c.in_ok-answers.ensures.run;
  answered = c.in_ok-answers.ensures.printable;
}
