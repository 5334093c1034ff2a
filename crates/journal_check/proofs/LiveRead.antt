-- How many lanes and journals a text tells, of a result whose lanes add and retire contexts.
use Rattle.std.proofs.Common.{◌≡◌, ℕ, List, length, take, Ok, Err, Option, refl, sym, ap, ◌∙◌}
use Rattle.std.proofs.lemmas.List.{length-map}
use Rattle.call_places.specs.declared.entries.Entry.{Entry}
use Rattle.hpke_context.specs.Contexts.{ContextView}
use Rattle.batch_plans.specs.Names.{line_count}
use Rattle.batch_plans.specs.Within.{IsWithinLimits}
use Rattle.batch_plans.specs.declared.plan.Plan.{Plan}
use Rattle.batch_plans.specs.declared.replies.Batch.{Batch}
use Rattle.batch_plans.specs.declared.replies.KeyReply.{KeyReply}
use Rattle.batch_plans.specs.declared.replies.ContextReply.{ContextReply}
use Rattle.context_books.specs.Live.{looked_up_plan}
use Rattle.result_lines.specs.Printed.{lane_guesses, guesses_told}
use Rattle.result_lines.specs.Tables.{table_told}
use Rattle.result_lines.specs.Told.{ToldView, with_setup, nothing_yet}
use Rattle.result_lines.specs.ToldLive.{told_live_by}
use Rattle.result_lines.proofs.Growing.{batches}
use Rattle.result_lines.proofs.TookLive.{told_live_took}
use Rattle.result_lines.specs.declared.verdicts.Verdict.{Verdict}
use Rattle.result_lines.specs.declared.verdicts.Verdict.TheVariants.{Form}
use Rattle.result_lines.proofs.LookedLimits.{looked_lanes}
use Rattle.journal_check.specs.Served.{live_verdict_over}
use Rattle.journal_check.proofs.ToldSizes.{Has}
use Rattle.result_lines.specs.Computed.{live_by_form}

pub live_has_of : (plan : Plan) (keys : List KeyReply) (replies : List ContextReply) (contexts : List (Option ContextView)) (notes : List Entry) (text : List ℕ) (found : ToldView)
    → IsWithinLimits plan → told_live_by plan keys replies contexts notes text ≡ Ok found → Has (length plan.lanes) (length plan.contexts) found
live_has_of plan keys replies contexts notes text found within is =
    let complete = (told_live_took plan keys replies contexts notes text found is).complete in (
      sym (length-map found.lanes batches) ∙ sym (length-map (guesses_told found) (length {A = Batch})) ∙ ap length complete.kept
          ∙ length-map (looked_up_plan plan notes).lanes (lane_guesses contexts) ∙ looked_lanes plan notes within,
      complete.size,
    )

-- the verdict by these notes, where they are those of the text's table
pub over_notes : (plan : Plan) (keys : List KeyReply) (replies : List ContextReply) (contexts : List (Option ContextView)) (notes : List Entry) (text : List ℕ) (verdict : Verdict)
    → notes ≡ table_told plan contexts text → verdict ≡ live_by_form plan replies contexts notes (told_live_by plan keys replies contexts notes text)
    → verdict ≡ live_verdict_over plan keys replies contexts text
over_notes plan keys replies contexts notes text verdict same is =
    is ∙ (λ i. live_by_form plan replies contexts (same i) (told_live_by plan keys replies contexts (same i) text))

-- the verdict where a line of the set-up is wrong: no table changes it
pub over_setup : (plan : Plan) (keys : List KeyReply) (replies : List ContextReply) (contexts : List (Option ContextView)) (text : List ℕ) (line : ℕ)
    → with_setup 2 keys (take (line_count plan) replies) (nothing_yet text) ≡ Err line → Form line ≡ live_verdict_over plan keys replies contexts text
unfolding told_live_by
over_setup plan keys replies contexts text line is = rw is refl

pub ruleset wrong_setup = (over_setup)
