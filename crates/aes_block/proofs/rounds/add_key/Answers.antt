use Rattle.std.proofs.Common.{get_or, ◌∙◌}
use Rattle.std.specs.Int.Bits.{xor_zero_r}
use Rattle.aes_block.proofs.States.{added_long_of, added_bytes, state_added}
use Rattle.aes_block.proofs.rounds.add_key.Goals as goal

pub returns-clause-long : goal.returns-clause-long
returns-clause-long c = added_long_of c.args.q c.args.key c.added.result c.requires.state c.requires.key c.added.ensures

pub returns-clause-states : goal.returns-clause-states
returns-clause-states c bytes is =
    state_added c.args.q c.args.key c.added.result bytes is.long (λ p i P I. is.bytes p i P I ∙ xor_zero_r (get_or bytes p 0))
    (added_bytes c.args.q c.args.key c.added.result c.requires.state c.requires.key c.added.ensures)
