use Rattle.std.proofs.Common.{◌∙◌, sym}
use Rattle.std.proofs.lemmas.Result.{IfOk-weaker}
use Rattle.radix_pack.proofs.ElementLaws.{rq_decode_is, rq_length_is}
use Rattle.radix_pack.proofs.elements.rq_decode.Goals as goal

pub step_decode-requires-clause-count : goal.step_decode-requires-clause-count
step_decode-requires-clause-count g c = c.requires ∙ sym (rq_length_is g.S.Params.set)

pub returns : goal.returns
returns g c =
    IfOk-weaker c.step_decode.result _ _ (λ a e. e ∙ rq_decode_is g.S.Params.set c.args.bytes.now) c.step_decode.ensures
