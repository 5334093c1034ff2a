use Rattle.aes_block.proofs.Turning.{upper_is}
use Rattle.aes_block.proofs.slices.upper.Goals as goal

pub returns : goal.returns
returns c = upper_is c.args.a c.args.b 16 c.args.n c.args.mask c.requires.a c.requires.b
