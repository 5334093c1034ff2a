use Rattle.std.proofs.Common.{◌≡◌, ◌-◌, ◌≤◌, length, drop}
use Rattle.reply_frames.proofs.GivenLines.{given}
use Rattle.reply_frames.proofs.given_replies.next_given.Given as goal

abbrev pub invariant-blanks : goal.invariant-blanks
invariant-blanks l = record {
  within : l.next ≤ length l.replies;
  same : given (drop l.next l.replies) ≡ given l.replies;
}

abbrev pub decreases-blanks : goal.decreases-blanks
decreases-blanks l = length l.replies - l.next
