use Rattle.std.proofs.Common.{◌≡◌, ℕ, List, sym, subst, ◌∙◌}
use Rattle.request_frames.specs.Batch.{Spells}
use Rattle.demo_runs.specs.Texts.{opening_text}
use Rattle.demo_runs.specs.Plans.{IsOpeningPlan}
use Rattle.demo_runs.proofs.Spelled.{opening_spelled}
use Rattle.demo_runs.proofs.Answered.{read_as, not_bad}
use Rattle.demo_runs.proofs.plans.opening_batch.Goals as goal

pub returns-in-Ok-clause-plan : goal.returns-in-Ok-clause-plan
returns-in-Ok-clause-plan c =
    let s = opening_spelled c.args.seed c.args.cts.now c.see_ciphertexts.ensures c.requires in
    let text : c.as_bytes.result.now ≡ opening_text c.args.seed c.args.cts.now = c.as_bytes.ensures.value ∙ c.in_ok-text.ensures in
    let spells : Spells c.as_bytes.result.now s.plan = subst (λ (t : List ℕ). Spells t s.plan) (sym text) s.spells in
    subst (IsOpeningPlan c.args.seed c.args.cts.now)
    (read_as c.read_batch.result c.in-Ok.plan s.plan c.in-Ok.is (c.read_batch.ensures.spelled s.plan spells)) s.is

pub unreachable-requires : goal.unreachable-requires
unreachable-requires c =
    let s = opening_spelled c.args.seed c.args.cts.now c.see_ciphertexts.ensures c.requires in
    let text : c.as_bytes.result.now ≡ opening_text c.args.seed c.args.cts.now = c.as_bytes.ensures.value ∙ c.in_ok-text.ensures in
    let spells : Spells c.as_bytes.result.now s.plan = subst (λ (t : List ℕ). Spells t s.plan) (sym text) s.spells in
    not_bad c.read_batch.result c.in-Err-Bad.field-0 c.in-Err-Bad.field-0-0 s.plan c.in-Err-Bad.is c.in-Err-Bad.field-0-is
    (c.read_batch.ensures.spelled s.plan spells)

pub returns-in-Ok-clause-spelled : goal.returns-in-Ok-clause-spelled
returns-in-Ok-clause-spelled c =
    subst (λ (t : List ℕ). Spells t c.in-Ok.plan) (c.as_bytes.ensures.value ∙ c.in_ok-text.ensures) c.in-Ok.ensures.plan
