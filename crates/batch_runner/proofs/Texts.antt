-- Answers of lanes that threads served have the text of a run.
use Rattle.std.proofs.Common.{◌≡◌, List, Option}
use Rattle.std.specs.List.{concat}
use Rattle.hpke_context.specs.Contexts.{ContextView}
use Rattle.batch_plans.specs.declared.plan.Plan.{Plan}
use Rattle.batch_plans.specs.declared.replies.KeyReply.{KeyReply}
use Rattle.batch_plans.specs.declared.replies.ContextReply.{ContextReply}
use Rattle.batch_plans.specs.declared.replies.Answers.{Answers}
use Rattle.batch_plans.specs.Names.{line_count}
use Rattle.batch_plans.specs.LiveText.{live_lines}
use Rattle.batch_plans.specs.AnswersText.{live_text, answers_text}
use Rattle.batch_plans.specs.ReplyText.{reply_lines}
use Rattle.context_table.specs.SetUp.{IsSetUp}
use Rattle.lane_workers.specs.Gathered.{AreOfARun}
use Rattle.lane_workers.specs.LiveGathered.{AreOfALiveRun}
use Rattle.context_table.specs.ReplyTo.{IsReply, IsLiveReply}

-- keys and contexts are answered as the set-up says, and the lanes as a run that is allowed
pub record IsServed (plan : Plan) (keys : List KeyReply) (contexts : List ContextReply)
    (standing : List (Option ContextView)) (answers : Answers) : Type 0 where
  pub set_up : IsSetUp plan keys contexts standing
  pub run : AreOfARun plan standing answers.lanes answers.journals
  pub keys_are : answers.keys ≡ keys
  pub contexts_are : answers.contexts ≡ contexts

pub is_reply : (plan : Plan) (keys : List KeyReply) (contexts : List ContextReply)
    (standing : List (Option ContextView)) (answers : Answers)
    → IsServed plan keys contexts standing answers → IsReply plan (answers_text plan answers)
is_reply plan keys contexts standing answers t = record {
  keys = keys;
  contexts = contexts;
  standing = standing;
  set_up = t.set_up;
  journals = answers.journals;
  guesses = t.run.guesses;
  allowed = t.run.allowed;
  text_is = (λ i. concat (reply_lines plan.version (t.keys_are i) (t.contexts_are i) (t.run.lines i)
      answers.journals));
}

-- the same of lanes that add and retire contexts
pub record IsServedLive (plan : Plan) (keys : List KeyReply) (contexts : List ContextReply)
    (standing : List (Option ContextView)) (answers : Answers) : Type 0 where
  pub set_up : IsSetUp plan keys contexts standing
  pub run : AreOfALiveRun plan contexts standing answers.lanes answers.journals answers.notes
  pub keys_are : answers.keys ≡ keys
  pub contexts_are : answers.contexts ≡ contexts

pub is_live_reply : (plan : Plan) (keys : List KeyReply) (contexts : List ContextReply)
    (standing : List (Option ContextView)) (answers : Answers)
    → IsServedLive plan keys contexts standing answers → IsLiveReply plan (live_text plan answers)
is_live_reply plan keys contexts standing answers t = record {
  keys = keys;
  contexts = contexts;
  standing = standing;
  set_up = t.set_up;
  journals = answers.journals;
  guesses = t.run.guesses;
  notes = answers.notes;
  allowed = t.run.allowed;
  text_is = (λ i. concat (live_lines (line_count plan) (t.keys_are i) (t.contexts_are i)
      (t.run.lines i) answers.journals answers.notes));
}
