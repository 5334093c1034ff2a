use Rattle.std.proofs.Common.{◌≡◌, ◌<◌, ◌-◌, ◌+◌, length, take, ap, ◌∙◌, arith}
use Rattle.std.specs.Vec.{with_item}
use Rattle.std.proofs.lemmas.List.{take_more_set}
use Rattle.batch_plans.specs.declared.progress.LaneProgress.TheInside.{Inside}
use Rattle.batch_plans.specs.declared.replies.Reply.{Reply}
use Rattle.batch_plans.specs.Filling.{progress_of}
use Rattle.batch_plans.specs.Progress.{Progress, with_reply}
use Rattle.batch_plans.proofs.progress.LaneProgress.put.Goals as goal

-- one reply more stands before those that are still to come
one_more : (p : Inside) (reply : Reply) → p.replied < length p.replies.items
    → progress_of (record p { replies = with_item p.replies p.replied reply; replied = p.replied + 1 })
    ≡ with_reply (progress_of p) reply
one_more p reply some =
    let replies = take_more_set p.replies.items p.replied reply some in
    let left : p.replies.len - (p.replied + 1) ≡ p.replies.len - p.replied - 1 = omega arith in
    λ i. record {
      pool = p.pool.items;
      taken = p.taken;
      replies = replies i;
      left = left i;
      batches = take p.guessed p.batches.items;
      batches_left = p.batches.len - p.guessed;
    }

pub returns : goal.returns
returns c =
    let left = ap (λ (p : Progress). p.left) c.self.view_is in
    one_more c.self.inside c.args.reply (omega (arith, c.requires.left, left))
    ∙ ap (λ (p : Progress). with_reply p c.args.reply) c.self.view_is
