-- How many lanes and journals a text tells.
use Rattle.std.proofs.Common.{◌≡◌, ℕ, List, length, Ok, Option, sym, ap, ◌∙◌}
use Rattle.std.proofs.lemmas.List.{length-map}
use Rattle.hpke_context.specs.Contexts.{ContextView}
use Rattle.batch_plans.specs.declared.plan.Plan.{Plan}
use Rattle.batch_plans.specs.declared.replies.Batch.{Batch}
use Rattle.batch_plans.specs.declared.replies.KeyReply.{KeyReply}
use Rattle.batch_plans.specs.declared.replies.ContextReply.{ContextReply}
use Rattle.result_lines.specs.Told.{ToldView, told_by}
use Rattle.result_lines.specs.Printed.{lane_guesses, guesses_told}
use Rattle.result_lines.proofs.Growing.{batches}
use Rattle.result_lines.proofs.Took.{told_took}

-- so many lanes and journals
abbrev pub Has : ℕ → ℕ → ToldView → Type 0
Has lanes journals told = (length told.lanes ≡ lanes) × (length told.journals ≡ journals)

pub has_of : (plan : Plan) (keys : List KeyReply) (replies : List ContextReply) (contexts : List (Option ContextView)) (text : List ℕ) (found : ToldView)
    → told_by plan keys replies contexts text ≡ Ok found → Has (length plan.lanes) (length plan.contexts) found
has_of plan keys replies contexts text found is =
    let complete = (told_took plan keys replies contexts text found is).complete in (
      sym (length-map found.lanes batches) ∙ sym (length-map (guesses_told found) (length {A = Batch})) ∙ ap length complete.kept
          ∙ length-map plan.lanes (lane_guesses contexts),
      complete.size,
    )
