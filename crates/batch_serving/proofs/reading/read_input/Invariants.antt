use Rattle.std.proofs.Common.{◌≡◌, ◌≤◌, ◌-◌, take, vec_len}
use Rattle.std.specs.Io.KnownBytes.{Consumes}
use Rattle.batch_serving.specs.declared.reading.TheConstants.{INPUT_LIMIT}
use Rattle.batch_serving.proofs.reading.read_input.Given as goal

abbrev pub invariant-pieces : goal.invariant-pieces
invariant-pieces g l = record {
  read : Consumes (g.S.Source.left l.initial.source) (g.S.Source.left l.source)
      (take l.filled l.bytes.items);
  no_fault : g.S.Source.faults l.source ≡ g.S.Source.faults l.initial.source;
  filled : l.filled ≤ vec_len l.bytes;
  within : vec_len l.bytes ≤ INPUT_LIMIT;
}

abbrev pub decreases-pieces : goal.decreases-pieces
decreases-pieces g l = INPUT_LIMIT - l.filled
