use Rattle.std.proofs.Common.{◌≡◌, ◌-◌}
use Rattle.result_lines.specs.Told.{with_replies}
use Rattle.result_lines.proofs.told.Told.all_replies.Given as goal

abbrev pub invariant-replies : goal.invariant-replies
invariant-replies l = with_replies (l.count - l._reply) l.self ≡ with_replies l.count l.initial.self
