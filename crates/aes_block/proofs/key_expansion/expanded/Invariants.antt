use Rattle.std.proofs.Common.{◌≡◌, ◌+◌, ◌*◌}
use Rattle.arrayvec.specs.ArrayVec.{array_vec_len}
use Rattle.aes_block.specs.Cipher.{key_expansion}
use Rattle.aes_block.proofs.key_expansion.expanded.Given as goal

abbrev pub invariant-loop-i : goal.invariant-loop-i
invariant-loop-i l = record {
  bytes : l.w.items ≡ key_expansion l.nk l.key l.i;
  size : array_vec_len l.w ≡ 4 * (l.nk + l.i);
}
