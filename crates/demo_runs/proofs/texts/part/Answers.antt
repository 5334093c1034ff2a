use Rattle.demo_runs.proofs.Parts.{part_is}
use Rattle.demo_runs.proofs.texts.part.Goals as goal

pub returns : goal.returns
returns c = part_is c.args.cts.now c.args.n c.min-end.result c.min-end.ensures c.requires
