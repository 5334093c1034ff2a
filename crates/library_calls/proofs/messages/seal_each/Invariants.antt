use Rattle.std.proofs.Common.{◌≡◌, length, take}
use Rattle.library_calls.specs.Messages.{added, sealed_size, sealed_by}
use Rattle.library_calls.proofs.messages.seal_each.Given as goal

abbrev pub invariant-loop-k : goal.invariant-loop-k
invariant-loop-k l = record {
  filled : l.filled ≡ added (sealed_size l.texts) l.k;
  size : length l.out ≡ length l.fn.out;
  sum : take l.filled l.out ≡ sealed_by l.key l.base_nonce l.number l.aads l.texts l.k;
}
