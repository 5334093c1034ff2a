use Rattle.std.proofs.Common.{◌≡◌, ◌↔◌, ◌*◌}
use Rattle.sntrup_core.proofs.Masks.{AgreeBelow}
use Rattle.sntrup_kem.proofs.masks.difference.Given as goal

abbrev pub invariant-loop-block : goal.invariant-loop-block
invariant-loop-block l = (l.found ≡ 0) ↔ AgreeBelow 0 (16 * l.block) l.first l.second
