use Rattle.aes_block.proofs.Turning.{state_is}
use Rattle.aes_block.proofs.slices.sliced.Goals as goal

pub turn-requires : goal.turn-requires
turn-requires c = c.load.ensures.long

pub returns-clause-states : goal.returns-clause-states
returns-clause-states c = state_is c.load.result c.turn.result c.args.blocks.now c.load.ensures.same c.turn.ensures.bits c.load.ensures.small
