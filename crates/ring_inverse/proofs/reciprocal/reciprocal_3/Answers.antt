use Rattle.std.proofs.Common.{rules}
use Rattle.ring_inverse.proofs.ReciprocalLaws.{exactly_inverse}
use Rattle.ring_inverse.proofs.reciprocal.reciprocal_3.Goals as goal

pub returns-in-Some-clause-exactly : goal.returns-in-Some-clause-exactly
returns-in-Some-clause-exactly g c =
    exactly_inverse 3 g.S.Params.set.p c.args.a.now c.in-Some.v (search rules, rw c.in-Some.is at c.in_ok-v.ensures)
