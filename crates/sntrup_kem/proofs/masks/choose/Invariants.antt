use Rattle.std.proofs.Common.{◌≡◌, ◌*◌, length}
use Rattle.sntrup_core.proofs.Masks.{AgreeBelow}
use Rattle.sntrup_kem.proofs.masks.choose.Given as goal

abbrev pub invariant-loop-block : goal.invariant-loop-block
invariant-loop-block l = record {
  all : l.mask ≡ 255 → AgreeBelow 0 (16 * l.block) l.chosen l.first;
  none : l.mask ≡ 0 → AgreeBelow 0 (16 * l.block) l.chosen l.second;
  size : length l.chosen ≡ length l.initial.chosen;
}
