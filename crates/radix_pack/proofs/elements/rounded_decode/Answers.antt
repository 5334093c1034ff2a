use Rattle.std.proofs.Common.{◌∙◌, subst, sym}
use Rattle.std.proofs.lemmas.Result.{IfOk-weaker}
use Rattle.radix_pack.specs.Codings.{AreMultiplesOf3}
use Rattle.radix_pack.proofs.ElementLaws.{rounded_decode_is, rounded_length_is, AreMultiplesOf3-decode}
use Rattle.radix_pack.proofs.elements.rounded_decode.Goals as goal

pub step_decode-requires-clause-count : goal.step_decode-requires-clause-count
step_decode-requires-clause-count g c = c.requires ∙ sym (rounded_length_is g.S.Params.set)

pub returns-clause-element : goal.returns-clause-element
returns-clause-element g c =
    IfOk-weaker c.step_decode.result _ _ (λ a e. e ∙ rounded_decode_is g.S.Params.set c.args.bytes.now) c.step_decode.ensures

pub returns-clause-rounded : goal.returns-clause-rounded
returns-clause-rounded g c =
    IfOk-weaker c.step_decode.result _ _
    (λ a e. subst AreMultiplesOf3 (sym e) (AreMultiplesOf3-decode g.S.Params.set c.args.bytes.now g.S.Params.half_thirds))
    (returns-clause-element g c)
