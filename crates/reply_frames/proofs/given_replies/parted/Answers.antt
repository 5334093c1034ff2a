use Rattle.std.proofs.lemmas.List.Elements.{All-take, All-drop}
use Rattle.batch_plans.specs.Replies.{IsInRange}
use Rattle.reply_frames.proofs.given_replies.parted.Goals as goal

pub returns-clause-range : goal.returns-clause-range
returns-clause-range c = λ size all. (
  All-take (IsInRange size) _ c.args.replies.now all,
  All-take (IsInRange size) _ _ (All-drop (IsInRange size) _ c.args.replies.now all),
)
