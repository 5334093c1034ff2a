use Rattle.aes_block.proofs.Turning.{turned_all}
use Rattle.aes_block.proofs.slices.turn.Goals as goal

pub returns-clause-bits : goal.returns-clause-bits
returns-clause-bits c =
    turned_all c.args.q c.exchanged_ones.result c.exchanged_twos.result c.exchanged_fours.result
    c.exchanged_ones.ensures.bits c.exchanged_twos.ensures.bits c.exchanged_fours.ensures.bits
