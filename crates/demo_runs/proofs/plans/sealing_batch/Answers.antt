use Rattle.std.proofs.Common.{◌≡◌, ℕ, List, sym, subst, ◌∙◌}
use Rattle.request_frames.specs.Batch.{Spells}
use Rattle.demo_runs.specs.Texts.{sealing_text}
use Rattle.demo_runs.specs.Plans.{IsSealingPlan}
use Rattle.demo_runs.proofs.Spelled.{sealing_spelled}
use Rattle.demo_runs.proofs.Answered.{read_as, not_bad}
use Rattle.demo_runs.proofs.plans.sealing_batch.Goals as goal

pub returns-in-Ok-clause-plan : goal.returns-in-Ok-clause-plan
returns-in-Ok-clause-plan c =
    let s = sealing_spelled c.args.seed c.args.messages c.args.lanes c.requires.messages c.requires.lanes.0 c.requires.lanes.1 in
    let text : c.as_bytes.result.now ≡ sealing_text c.args.seed c.args.messages c.args.lanes = c.as_bytes.ensures.value ∙ c.in_ok-text.ensures in
    let spells : Spells c.as_bytes.result.now s.plan = subst (λ (t : List ℕ). Spells t s.plan) (sym text) s.spells in
    subst (IsSealingPlan c.args.seed c.args.messages c.args.lanes)
    (read_as c.read_batch.result c.in-Ok.plan s.plan c.in-Ok.is (c.read_batch.ensures.spelled s.plan spells)) s.is

pub unreachable-requires : goal.unreachable-requires
unreachable-requires c =
    let s = sealing_spelled c.args.seed c.args.messages c.args.lanes c.requires.messages c.requires.lanes.0 c.requires.lanes.1 in
    let text : c.as_bytes.result.now ≡ sealing_text c.args.seed c.args.messages c.args.lanes = c.as_bytes.ensures.value ∙ c.in_ok-text.ensures in
    let spells : Spells c.as_bytes.result.now s.plan = subst (λ (t : List ℕ). Spells t s.plan) (sym text) s.spells in
    not_bad c.read_batch.result c.in-Err-Bad.field-0 c.in-Err-Bad.field-0-0 s.plan c.in-Err-Bad.is c.in-Err-Bad.field-0-is
    (c.read_batch.ensures.spelled s.plan spells)

pub returns-in-Ok-clause-spelled : goal.returns-in-Ok-clause-spelled
returns-in-Ok-clause-spelled c =
    subst (λ (t : List ℕ). Spells t c.in-Ok.plan) (c.as_bytes.ensures.value ∙ c.in_ok-text.ensures) c.in-Ok.ensures.plan
