use Rattle.std.proofs.Common.{pos, arith, ap, inl, inr}
use Rattle.std.specs.Prelude.{◌*ℤ◌}
use Rattle.std.proofs.lemmas.Bool.{cases_lt}
use Rattle.std.proofs.lemmas.Int.{ints}
use Rattle.std.proofs.lemmas.List.{get_or_past}
use Rattle.ring_core.proofs.Row.{RowDone-more, RowDone-within}
use Rattle.ring_lanes.proofs.pairs.join.Goals as goal

pub loop-k-preserved : goal.loop-k-preserved
loop-k-preserved c =
    RowDone-more _ _ _ _ _ _ (omega arith) (omega (
      arith,
      ints,
      RowDone-within _ _ _ _ _ _ c.requires.first_small c.loop-k.invariant,
      c.requires.second_small c.loop-k.k,
    )) c.loop-k.invariant

pub returns : goal.returns
returns c =
    λ k. elim (cases_lt k c.loop-k.k) [
      | inl low ↦ c.loop-k.invariant.done k low
      | inr past ↦ omega (
        arith,
        ints,
        c.loop-k.invariant.left k past,
        ap (λ t. pos 2048 *ℤ t) (get_or_past c.args.second.now k (pos 0) (omega arith)),
      )
    ]
