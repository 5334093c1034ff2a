use Rattle.std.proofs.Common.{arith}
use Rattle.std.proofs.lemmas.Grind.{common_steps}
use Rattle.std.proofs.lemmas.List.Sums.{sum_by_more_le}
use Rattle.context_core.specs.Following.{opened_count}
use Rattle.context_core.proofs.preparing.all_opened.Goals as goal

pub overflow_add-all : goal.overflow_add-all
overflow_add-all c =
    let more = sum_by_more_le opened_count c.args.calls.now c.calls.call-index in
    grind (arith, common_steps, more)
