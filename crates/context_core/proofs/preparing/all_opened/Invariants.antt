use Rattle.std.proofs.Common.{◌≡◌, take}
use Rattle.std.specs.Prelude.{sum_by}
use Rattle.context_core.specs.Following.{opened_count}
use Rattle.context_core.proofs.preparing.all_opened.Given as goal

abbrev pub invariant-calls : goal.invariant-calls
invariant-calls l = l.all ≡ sum_by opened_count (take l.call-index l.calls)
