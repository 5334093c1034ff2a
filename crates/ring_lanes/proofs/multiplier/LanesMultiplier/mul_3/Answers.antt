use Rattle.ring_core.proofs.Reduce.{product_from_lists}
use Rattle.ring_lanes.proofs.multiplier.LanesMultiplier.mul_3.Goals as goal

pub returns : goal.returns
returns g c =
    rw (product_from_lists 3 g.S.Params.set.p _ _ _ _ _ _ c.as_slice-2.ensures.list c.as_slice.ensures.list c.as_slice-2.ensures.centred.0 c.deref.ensures.value c.in_ok-sums.ensures.sums) at c.from_sums.ensures
