use Rattle.context_tests.proofs.SmallPlans.{plain_room}
use Rattle.context_tests.proofs.rehearsals.plans.rehearsed.Goals as goal

pub rehearse-requires-clause-room : goal.rehearse-requires-clause-room
rehearse-requires-clause-room g c κs within =
    plain_room c.plan_of-plan.result c.in-Ok.answers c.from_vec-keys.result
    c.from_vec-replies.result c.context_of.result c.context_of-2.result
    (c.in-Ok.ensures.plain c.plan_of-plan.ensures.plain)
    c.context_of.ensures.parts.kdf c.context_of-2.ensures.parts.kdf
