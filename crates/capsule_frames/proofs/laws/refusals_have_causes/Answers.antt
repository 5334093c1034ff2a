use Rattle.capsule_frames.proofs.Causes.{asks_lem, answers_lem, takes_lem}
use Rattle.capsule_frames.proofs.laws.refusals_have_causes.Goals as goal

pub returns-clause-asks : goal.returns-clause-asks
returns-clause-asks c = asks_lem

pub returns-clause-answers : goal.returns-clause-answers
returns-clause-answers c =
    answers_lem c.both_ends_agree.ensures.agreement c.both_ends_agree-2.ensures.agreement

pub returns-clause-takes : goal.returns-clause-takes
returns-clause-takes c = takes_lem
