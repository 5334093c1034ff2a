use Rattle.std.proofs.Common.{ℤ, List, refl, inr, subst}
use Rattle.ring_core.specs.Product.{IsCentred}
use Rattle.sntrup_core.proofs.keys.key_of.Goals as goal

pub returns-clause-key : goal.returns-clause-key
returns-clause-key g c =
    let set = g.S.Params.set in
    let P : List ℤ → Type 0 = λ t. IsCentred set.q set.p t in
    let centred : IsCentred set.q set.p c.in-Inverse.v = subst P c.v.view_is c.v.invariant in
    let inverse = rw c.in-Inverse.is at c.in_ok-reciprocal.ensures.inverse in
    (refl, refl, c.in-Inverse.v, centred, inverse, c.in_ok-h.ensures)

pub returns-in_default-clause-fault : goal.returns-in_default-clause-fault
returns-in_default-clause-fault g c =
    let exactly = rw c.in_default.is at c.in_ok-reciprocal.ensures.exactly in
    inr (refl, exactly.0 tt)
