use Rattle.std.proofs.Common.{◌<◌, [], length, get_or, arith}
use Rattle.std.proofs.lemmas.Grind.{common_steps}
use Rattle.std.proofs.lemmas.List.{get_or_default}
use Rattle.journal_check.proofs.DueNumbers.{step_reach}
use Rattle.journal_check.proofs.lane_walks.Walk.step.Goals as goal

pub returns-clause-reach : goal.returns-clause-reach
returns-clause-reach c = λ before.
    let journals = c.args.self.now.checked.journals.now in
    let at = c.args.context in
    let d = c.index-self-number.result in
    let low : at < length c.args.cursors.now = omega (arith, c.requires.there, c.requires.cursors) in
    step_reach journals c.args.cursors.now at c.args.self.now.lane (get_or journals at d) (get_or_default journals at d [] c.requires.there)
    low c.in_ok-at.at c.in_ok-at.ensures.there c.in_ok-at.ensures.some

pub returns-clause-there : goal.returns-clause-there
returns-clause-there c = grind (arith, common_steps)

pub returns-clause-place : goal.returns-clause-place
returns-clause-place c = grind (arith, common_steps)

pub returns-clause-none : goal.returns-clause-none
returns-clause-none c = grind (arith, common_steps)

pub returns-clause-others : goal.returns-clause-others
returns-clause-others c = grind (arith, common_steps)
