use Rattle.std.proofs.Common.{◌≡◌, ◌<◌, ℕ, [], length, slice_index_or}
use Rattle.aes_block.proofs.States.{key_register}
use Rattle.aes_block.proofs.slices.sliced_keys.Given as goal

abbrev pub invariant-loop-n : goal.invariant-loop-n
invariant-loop-n l = record {
  size : length l.keys ≡ 120;
  filled : (m : ℕ) → m < l.n → slice_index_or l.keys m [] ≡ key_register l.w m;
}
