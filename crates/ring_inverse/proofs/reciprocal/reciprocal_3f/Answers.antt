use Rattle.ring_inverse.specs.Reciprocals.{triple}
use Rattle.ring_inverse.proofs.ReciprocalLaws.{exactly_inverse}
use Rattle.ring_inverse.proofs.reciprocal.reciprocal_3f.Goals as goal

pub returns-in-Some-clause-exactly : goal.returns-in-Some-clause-exactly
returns-in-Some-clause-exactly g c =
    exactly_inverse g.S.Params.set.q g.S.Params.set.p (triple c.args.f.now) c.in-Some.v (rw c.in-Some.is at c.in_ok-v.ensures.centred, rw c.in-Some.is at c.in_ok-v.ensures.inverse)
