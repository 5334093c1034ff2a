use Rattle.std.proofs.Common.{◌≡◌, length, take}
use Rattle.library_calls.specs.Messages.{added, opened_size, opened_by}
use Rattle.library_calls.proofs.messages.open_each.Given as goal

abbrev pub invariant-loop-k : goal.invariant-loop-k
invariant-loop-k l = record {
  filled : l.filled ≡ added (opened_size l.cts) l.k;
  size : length l.out ≡ length l.fn.out;
  sum : take l.filled l.out ≡ opened_by l.key l.base_nonce l.number l.cts l.k;
}
