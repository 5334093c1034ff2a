use Rattle.std.proofs.Common.{refl}
use Rattle.turn_lock.proofs.Steps.{queues, marks, looks, passes_on, forks}
use Rattle.turn_lock.proofs.Ends.{begins, joins}
use Rattle.turn_lock.proofs.laws.each_step_keeps_the_rule.Goals as goal

pub returns : goal.returns
returns g c = λ passes terms. record {
  start = begins g.V.Listed.entries g.V.Listed.terms passes terms;
  ticket = queues g.V.Listed.entries g.V.Listed.terms passes terms;
  marks = marks g.V.Listed.entries g.V.Listed.terms passes terms;
  look = looks g.V.Listed.entries g.V.Listed.terms passes terms;
  advance = λ slots id me k n seen added value holds parts slot same grown mine. passes_on g.V.Listed.entries g.V.Listed.terms passes terms slots id me k n _ seen added value holds parts slot same refl grown mine;
  split = forks g.V.Listed.entries g.V.Listed.terms passes terms;
  join = joins g.V.Listed.entries g.V.Listed.terms passes terms;
}
