use Rattle.std.proofs.Common.{◌≡◌, ◌∙◌, map, refl, rules}
use Rattle.capsule_frames.specs.Orders.{given_for, jobs_from}
use Rattle.capsule_frames.proofs.Ordering.{served_are}
use Rattle.capsule_frames.proofs.serving.served.Goals as goal

pub returns : goal.returns
returns c =
    let given : c.in_ok-answers.answers.items ≡ map (given_for c.args.plan.now.plan c.args.keys c.args.asks.items)
    (jobs_from 0 c.args.plan.now.lines) =
    search rules in
    record {
      keys_are = c.requires.set_up;
      replies_are = c.from_vec.ensures.items
          ∙ served_are c.args.plan.now c.args.keys c.args.asks.items c.args.asks.items c.deref.result.now
          c.in_ok-answers.answers.items c.deref-2.result.now c.in_ok-takes.takes.items c.as_slice.result.now
          c.in_ok-replies.replies.items (record {
            asks_are = c.requires.asks;
            lent_is = refl;
            lent_again = c.deref.ensures.value;
            answers_are = given;
            given_is = c.deref-2.ensures.value;
            takes_are = c.in_ok-takes.ensures;
            lines_are = c.as_slice.ensures.items;
            replies_are = c.in_ok-replies.ensures;
          });
    }
