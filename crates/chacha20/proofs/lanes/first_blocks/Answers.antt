use Rattle.std.proofs.Common.{ap, ◌∙◌}
use Rattle.chacha20.specs.ChaCha20.{serialized, stirred, block}
use Rattle.chacha20.specs.Lanes.{piece}
use Rattle.chacha20.proofs.lanes.first_blocks.Goals as goal

pub returns : goal.returns
unfolding block
returns c j g J G =
    c.bytes_of_all.ensures j g J G
    ∙ ap (λ x. piece g (serialized x)) (c.stirred.ensures j J ∙ ap stirred (c.nonced.ensures j J))
