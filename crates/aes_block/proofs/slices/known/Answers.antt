use Rattle.aes_block.proofs.Turning.{lane_small}
use Rattle.aes_block.proofs.slices.known.Goals as goal

pub returns-clause-small : goal.returns-clause-small
returns-clause-small c p P = lane_small c.args.x p c.fits-x.0 c.fits-x.1 P
