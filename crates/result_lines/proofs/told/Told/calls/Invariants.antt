use Rattle.std.proofs.Common.{◌≡◌, drop}
use Rattle.result_lines.specs.Told.{with_calls}
use Rattle.result_lines.proofs.told.Told.calls.Given as goal

abbrev pub invariant-calls : goal.invariant-calls
invariant-calls l = with_calls l.contexts (drop l.call-index l.calls) l.self ≡ with_calls l.contexts l.calls l.initial.self
