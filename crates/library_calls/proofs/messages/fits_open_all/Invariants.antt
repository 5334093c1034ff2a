use Rattle.std.proofs.Common.{◌≡◌, ◌<◌, ◌≤◌, ◌+◌, ◌-◌, ◌^◌, ℕ, length}
use Rattle.library_calls.specs.Messages.{item, added, opened_size}
use Rattle.library_calls.proofs.messages.fits_open_all.Given as goal

abbrev pub invariant-loop-k : goal.invariant-loop-k
invariant-loop-k l = record {
  sum : l.left + added (opened_size l.cts) l.k ≡ l.room;
  aad : (j : ℕ) → j < l.k → length (item l.aads j) < 2 ^ 61;
  most : (j : ℕ) → j < l.k → length (item l.cts j) ≤ 2 ^ 36 - 16;
}
