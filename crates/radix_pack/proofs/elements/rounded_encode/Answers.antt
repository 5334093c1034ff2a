use Rattle.std.proofs.Common.{◌∙◌}
use Rattle.std.proofs.lemmas.Result.{IfOk-weaker}
use Rattle.radix_pack.proofs.ElementLaws.{rounded_encode_is, rounded_length_is}
use Rattle.radix_pack.proofs.elements.rounded_encode.Goals as goal

pub returns-clause-bytes : goal.returns-clause-bytes
returns-clause-bytes g c =
    IfOk-weaker c.step_encode.result _ _ (λ b e. e ∙ rounded_encode_is g.S.Params.set c.args.a.now) c.step_encode.ensures.bytes

pub returns-clause-count : goal.returns-clause-count
returns-clause-count g c =
    IfOk-weaker c.step_encode.result _ _ (λ b e. e ∙ rounded_length_is g.S.Params.set) c.step_encode.ensures.count
