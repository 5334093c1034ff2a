use Rattle.aes_block.proofs.States.{twice_long, twice_bytes}
use Rattle.aes_block.proofs.rounds.doubled.Goals as goal

pub returns-clause-long : goal.returns-clause-long
returns-clause-long c = twice_long c.args.m c.requires

pub returns-clause-bytes : goal.returns-clause-bytes
returns-clause-bytes c = twice_bytes c.args.m c.requires
