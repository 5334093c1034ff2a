use Rattle.std.proofs.Common.{◌≡◌, ◌*◌, pos, negsuc, length}
use Rattle.sntrup_core.proofs.Masks.{AgreeBelow}
use Rattle.sntrup_core.proofs.choosing.choose.Given as goal

abbrev pub invariant-loop-block : goal.invariant-loop-block
invariant-loop-block l = record {
  all : l.mask ≡ negsuc 0 → AgreeBelow (pos 0) (16 * l.block) l.chosen l.first;
  none : l.mask ≡ pos 0 → AgreeBelow (pos 0) (16 * l.block) l.chosen l.second;
  size : length l.chosen ≡ length l.initial.chosen;
}
