-- The verdict on a text.
use Rattle.std.specs.Prelude.{ℕ, List, Option}
use Rattle.hpke_context.specs.Contexts.{ContextView}
use Rattle.batch_plans.specs.declared.plan.Plan.{Plan}
use Rattle.batch_plans.specs.declared.replies.KeyReply.{KeyReply}
use Rattle.batch_plans.specs.declared.replies.ContextReply.{ContextReply}
use Rattle.context_table.specs.SetUp.{IsSetUp}
use Rattle.result_lines.specs.Tables.{table_told}
use Rattle.result_lines.specs.Told.{told_by}
use Rattle.result_lines.specs.ToldLive.{told_live_by}
use Rattle.result_lines.specs.declared.verdicts.Verdict.{Verdict}
use Rattle.result_lines.specs.LiveVerdicts.{IsLiveVerdictBy}
use Rattle.result_lines.specs.Verdicts.{IsVerdictBy}

-- the verdict on a text, by the plan's set-up
pub record IsVerdict (plan : Plan) (text : List ℕ) (verdict : Verdict) : Type 0 where
  pub keys : List KeyReply
  pub contexts : List ContextReply
  pub standing : List (Option ContextView)
  pub set_up : IsSetUp plan keys contexts standing
  pub is : IsVerdictBy plan standing (told_by plan keys contexts standing text) verdict

-- the verdict on a text as a result of a plan whose lanes add and retire contexts; the text's table
-- says which calls were served
pub record IsLiveVerdict (plan : Plan) (text : List ℕ) (verdict : Verdict) : Type 0 where
  pub keys : List KeyReply
  pub contexts : List ContextReply
  pub standing : List (Option ContextView)
  pub set_up : IsSetUp plan keys contexts standing
  pub is : IsLiveVerdictBy plan contexts standing (table_told plan standing text)
      (told_live_by plan keys contexts standing (table_told plan standing text) text) verdict
