use Rattle.library_calls.specs.Messages.{EachHolds}
use Rattle.library_calls.proofs.messages.all_hold.Given as goal

abbrev pub invariant-loop-k : goal.invariant-loop-k
invariant-loop-k l = record {
  each : EachHolds l.key l.base_nonce l.number l.aads l.cts l.k;
}
