use Rattle.std.proofs.Common.{sym, ap, ◌∙◌, arith}
use Rattle.std.proofs.lemmas.Grind.{common_steps}
use Rattle.result_lines.proofs.Cursors.{mark_taken}
use Rattle.result_lines.specs.Readings.{mark_at}
use Rattle.result_lines.proofs.lines.Lines.mark.Goals as goal

pub returns-clause-some : goal.returns-clause-some
returns-clause-some c =
    ap (mark_at c.args.stamps) (sym c.self.view_is)
    ∙ mark_taken c.args.stamps c.self.inside.number c.self.inside.rest.now c.in_ok-line.line.now c.in_ok-line.rest.now c.in-Ok.mark c.in_ok-line.ensures.parts
    c.in-Ok.ensures

pub returns-in_err-line-clause-none : goal.returns-in_err-line-clause-none
returns-in_err-line-clause-none c = grind (arith, common_steps)

pub returns-in_default-clause-none : goal.returns-in_default-clause-none
returns-in_default-clause-none c = grind (arith, common_steps)

pub invariant_of-self : goal.invariant_of-self
invariant_of-self c = grind (arith, common_steps)
