use Rattle.aes_block.proofs.Turning.{lower_is}
use Rattle.aes_block.proofs.slices.lower.Goals as goal

pub returns : goal.returns
returns c = lower_is c.args.a c.args.b 16 c.args.n c.args.mask c.requires.a c.requires.b
