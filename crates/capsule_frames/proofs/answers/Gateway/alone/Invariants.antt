use Rattle.std.proofs.Common.{◌≡◌, take, map}
use Rattle.capsule_frames.specs.Orders.{given_for}
use Rattle.capsule_frames.proofs.answers.Gateway.alone.Given as goal

abbrev pub invariant-jobs : goal.invariant-jobs
invariant-jobs g l = l.answers.items
    ≡ map (given_for l.self.plan.now l.self.keys.now.replies l.self.asks.now)
    (take l.job-index l.jobs)
