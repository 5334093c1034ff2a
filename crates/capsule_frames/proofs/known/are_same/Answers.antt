use Rattle.std.proofs.Common.{length, ◌≤◌, refl, eqb-true, arith}
use Rattle.capsule_frames.proofs.Differences.{one_more, all_same}
use Rattle.capsule_frames.proofs.known.are_same.Goals as goal

pub bytes-preserved : goal.bytes-preserved
bytes-preserved c =
    one_more c.args.first.now c.args.second.now c.bytes.i c.bytes.found _ _ _ _ c.bytes-test.true c.if-first-second.false refl refl c.bytes.invariant

pub returns : goal.returns
returns c =
    let le : length c.args.first.now ≤ c.bytes.i = omega (arith, c.bytes-test.false) in
    λ same. all_same c.args.first.now c.args.second.now c.bytes.i c.if-first-second.false le (c.bytes.invariant (eqb-true c.bytes.found 0 same))
