use Rattle.std.proofs.Common.{◌≡◌, drop}
use Rattle.batch_plans.specs.Lines.{context_line}
use Rattle.batch_plans.specs.ReplyText.{numbered}
use Rattle.result_lines.specs.Told.{with_lines}
use Rattle.result_lines.proofs.reading.read_contexts.Given as goal

abbrev pub invariant-contexts : goal.invariant-contexts
invariant-contexts l =
    with_lines (numbered context_line l.number (drop l.number l.replies)) l.told ≡ with_lines (numbered context_line 0 l.replies) l.initial.told
