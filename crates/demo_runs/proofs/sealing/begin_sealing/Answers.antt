use Rattle.std.proofs.Common.{ℕ, List, length, ap, sym, ◌∙◌, arith}
use Rattle.demo_runs.specs.Batches.{is_generated}
use Rattle.demo_runs.proofs.FirstBatch.{no_key, with_key}
use Rattle.demo_runs.proofs.sealing.begin_sealing.Goals as goal

pub returns-else-is_generated : goal.returns-else-is_generated
returns-else-is_generated c =
    no_key c.args.seed c.args.messages c.args.lanes c.in_ok-plan.plan c.in_ok-batch.batch c.in_ok-plan.ensures.plan
    c.in_ok-batch.ensures
    (sym (c.is_generated.ensures ∙ ap is_generated c.as_slice.ensures.items) ∙ c.if-is_generated.false)

pub returns-then-is_generated : goal.returns-then-is_generated
returns-then-is_generated c =
    with_key c.args.seed c.args.messages c.args.lanes c.in_ok-plan.plan _ c.requires.lanes.0 c.requires.messages
    c.in_ok-plan.ensures.plan c.in_ok-batch.ensures
    (sym (c.is_generated.ensures ∙ ap is_generated c.as_slice.ensures.items) ∙ c.if-is_generated.true)
    (ap (λ (xs : List (List ℕ)). length xs) c.from_vec-room.ensures.items ∙ (let a = c.in_ok-room.ensures.len in let b = c.in_ok-room.room.ok.0 in omega (arith, a, b)))
