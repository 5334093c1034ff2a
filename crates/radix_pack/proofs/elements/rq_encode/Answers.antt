use Rattle.std.proofs.Common.{◌∙◌}
use Rattle.std.proofs.lemmas.Result.{IfOk-weaker}
use Rattle.radix_pack.proofs.ElementLaws.{rq_encode_is, rq_length_is}
use Rattle.radix_pack.proofs.elements.rq_encode.Goals as goal

pub returns-clause-bytes : goal.returns-clause-bytes
returns-clause-bytes g c =
    IfOk-weaker c.step_encode.result _ _ (λ b e. e ∙ rq_encode_is g.S.Params.set c.args.a.now) c.step_encode.ensures.bytes

pub returns-clause-count : goal.returns-clause-count
returns-clause-count g c =
    IfOk-weaker c.step_encode.result _ _ (λ b e. e ∙ rq_length_is g.S.Params.set) c.step_encode.ensures.count
