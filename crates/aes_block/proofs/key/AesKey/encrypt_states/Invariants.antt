use Rattle.std.proofs.Common.{◌≡◌, ◌<◌, ◌-◌, ℕ}
use Rattle.aes_block.specs.Cipher.{state_after, expanded_key}
use Rattle.aes_block.specs.Sliced.{IsState, state_at}
use Rattle.aes_block.proofs.key.AesKey.encrypt_states.Given as goal

abbrev pub invariant-rounds : goal.invariant-rounds
invariant-rounds l = record {
  long : IsState l.state;
  states : (j : ℕ) → j < 8 → state_at l.state j ≡ state_after (expanded_key l.self) (state_at l.fn.start j) (l.i - 1);
}
