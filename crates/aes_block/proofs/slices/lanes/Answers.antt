use Rattle.std.proofs.Common.{◌∙◌, ap, arith}
use Rattle.aes_block.specs.Sliced.{moved, lane_of}
use Rattle.aes_block.proofs.States.{moved_back}
use Rattle.aes_block.proofs.slices.lanes.Goals as goal

pub returns-clause-same : goal.returns-clause-same
returns-clause-same c =
    ap (moved lane_of) (c.known.ensures.same ∙ c.transposed.ensures) ∙ moved_back c.args.block.now (omega arith)
