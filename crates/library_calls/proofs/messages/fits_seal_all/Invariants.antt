use Rattle.std.proofs.Common.{◌≡◌, ◌<◌, ◌≤◌, ◌+◌, ◌-◌, ◌^◌, ℕ, length}
use Rattle.library_calls.specs.Messages.{item, added, sealed_size}
use Rattle.library_calls.proofs.messages.fits_seal_all.Given as goal

abbrev pub invariant-loop-k : goal.invariant-loop-k
invariant-loop-k l = record {
  sum : l.left + added (sealed_size l.texts) l.k ≡ l.room;
  aad : (j : ℕ) → j < l.k → length (item l.aads j) < 2 ^ 61;
  text : (j : ℕ) → j < l.k → length (item l.texts j) ≤ 2 ^ 36 - 32;
}
