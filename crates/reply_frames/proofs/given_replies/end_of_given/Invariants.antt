use Rattle.std.proofs.Common.{◌-◌, length}
use Rattle.reply_frames.proofs.GivenLines.{Passed}
use Rattle.reply_frames.proofs.given_replies.end_of_given.Given as goal

abbrev pub invariant-replies : goal.invariant-replies
invariant-replies l = Passed l.replies l.count l.next l.left

abbrev pub decreases-replies : goal.decreases-replies
decreases-replies l = length l.replies - l.next
