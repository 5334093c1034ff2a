use Rattle.std.proofs.Common.{sym, ◌∙◌, rules}
use Rattle.hpke_context.proofs.sequential.Sequential.unseal_into.Goals as goal

pub returns-then-seq-limit-clause-failed : goal.returns-then-seq-limit-clause-failed
returns-then-seq-limit-clause-failed c =
    rw (← c.self.view_is, sym c.holds_at.ensures.verdict ∙ c.if-not-holds_at.false) (search rules)

pub returns-clause-failed : goal.returns-clause-failed
returns-clause-failed c =
    rw (← c.self.view_is, sym c.holds_at.ensures.verdict ∙ c.if-not-holds_at.false) (search rules)
