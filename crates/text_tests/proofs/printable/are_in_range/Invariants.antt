use Rattle.std.proofs.Common.{length, take}
use Rattle.std.specs.List.{All}
use Rattle.batch_plans.specs.Replies.{IsInRange}
use Rattle.text_tests.proofs.printable.are_in_range.Given as goal

abbrev pub invariant-replies : goal.invariant-replies
invariant-replies l = All (IsInRange (length l.pool)) (take l.reply-index l.replies)
