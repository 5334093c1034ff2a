-- Answers that are those of a rehearsal have its text.
use Rattle.std.proofs.Common.{◌≡◌, ℕ, List, Option}
use Rattle.std.specs.List.{concat}
use Rattle.hpke_context.specs.Contexts.{ContextView}
use Rattle.batch_plans.specs.declared.plan.Plan.{Plan}
use Rattle.batch_plans.specs.declared.replies.KeyReply.{KeyReply}
use Rattle.batch_plans.specs.declared.replies.ContextReply.{ContextReply}
use Rattle.batch_plans.specs.declared.replies.Answers.{Answers}
use Rattle.batch_plans.specs.ReplyText.{reply_lines}
use Rattle.batch_plans.specs.AnswersText.{answers_text}
use Rattle.context_books.specs.ContextLines.{AreOfLines}
use Rattle.context_books.specs.Runs.{run_text}
use Rattle.context_table.specs.SetUp.{IsSetUp}
use Rattle.context_core.specs.Rehearsals.{rehearsed, AreAnswersOf}
use Rattle.batch_serving.specs.Text.{IsRehearsal}

-- keys and contexts are answered as the set-up says, and the lanes as the rehearsal over its contexts
pub record IsRehearsed (plan : Plan) (keys : List KeyReply) (contexts : List ContextReply)
    (standing : List (Option ContextView)) (schedule : List ℕ) (answers : Answers) : Type 0 where
  pub set_up : IsSetUp plan keys contexts standing
  pub lines : AreOfLines plan.contexts standing
  pub lanes : AreAnswersOf (rehearsed plan standing schedule) answers
  pub keys_are : answers.keys ≡ keys
  pub contexts_are : answers.contexts ≡ contexts

module _ (plan : Plan) (keys : List KeyReply) (contexts : List ContextReply)
    (standing : List (Option ContextView)) (schedule : List ℕ) (answers : Answers)
    (t : IsRehearsed plan keys contexts standing schedule answers) where
  text : answers_text plan answers ≡ run_text keys contexts (rehearsed plan standing schedule)
  text = λ i. concat (reply_lines plan.version (t.keys_are i) (t.contexts_are i) (t.lanes.lanes i)
      (t.lanes.journals i))

  pub is_rehearsal : IsRehearsal schedule plan (answers_text plan answers)
  is_rehearsal = record {
    keys = keys;
    contexts = contexts;
    standing = standing;
    set_up = t.set_up;
    text_is = text;
  }
