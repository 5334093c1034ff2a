use Rattle.ghash_core.proofs.Vectors.{one_on_is}
use Rattle.ghash_core.proofs.lanes.one_on.Goals as goal

pub returns : goal.returns
returns c = one_on_is c.args.before c.args.x c.fits-before.0 c.fits-x.0
