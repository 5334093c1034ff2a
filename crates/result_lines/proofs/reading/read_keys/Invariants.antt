use Rattle.std.proofs.Common.{◌≡◌, drop}
use Rattle.batch_plans.specs.Lines.{key_line}
use Rattle.batch_plans.specs.ReplyText.{numbered}
use Rattle.result_lines.specs.Told.{with_lines}
use Rattle.result_lines.proofs.reading.read_keys.Given as goal

abbrev pub invariant-keys : goal.invariant-keys
invariant-keys l =
    with_lines (numbered key_line l.number (drop l.number l.keys)) l.told ≡ with_lines (numbered key_line 0 l.keys) l.initial.told
