use Rattle.batch_alone.proofs.demonstrating.demonstrate.Goals as goal

pub returns : goal.returns
returns g c = c.tell_demonstration.ensures c.args.seed c.args.messages c.demo.ensures.report
