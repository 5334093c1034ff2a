-- Answers that are those of a run whose lanes add and retire contexts have its text.
use Rattle.std.proofs.Common.{◌≡◌, List, Option, Result, Ok, Err, subst, sym}
use Rattle.std.specs.Prelude.{IfOk}
use Rattle.std.specs.List.{concat}
use Rattle.hpke_context.specs.Contexts.{ContextView}
use Rattle.batch_plans.specs.declared.plan.Plan.{Plan}
use Rattle.batch_plans.specs.declared.replies.KeyReply.{KeyReply}
use Rattle.batch_plans.specs.declared.replies.ContextReply.{ContextReply}
use Rattle.batch_plans.specs.declared.replies.Answers.{Answers}
use Rattle.batch_plans.specs.Names.{line_count}
use Rattle.batch_plans.specs.LiveText.{live_lines}
use Rattle.batch_plans.specs.AnswersText.{live_text}
use Rattle.context_table.specs.SetUp.{IsSetUp}
use Rattle.context_table.specs.ReplyTo.{IsLiveReply}
use Rattle.batch_alone.specs.LiveRuns.{IsALiveRun}

-- what two facts say of a result's value
pub both_ok : {X E : Type 0} (r : Result X E) (P Q R : X → Type 0) → ((x : X) → P x → Q x → R x)
    → IfOk r P → IfOk r Q → IfOk r R
both_ok (Ok x) P Q R both p q = both x p q
both_ok (Err e) P Q R both p q = tt

pub is_live_reply : (plan : Plan) (keys : List KeyReply) (contexts : List ContextReply)
    (standing seen : List (Option ContextView)) (answers : Answers) → seen ≡ standing
    → IsSetUp plan keys contexts standing → IsALiveRun plan seen answers
    → (answers.keys ≡ keys) × (answers.contexts ≡ contexts) → IsLiveReply plan (live_text plan answers)
is_live_reply plan keys contexts standing seen answers same set_up run given = record {
  keys = answers.keys;
  contexts = answers.contexts;
  standing = seen;
  set_up = subst (λ (s : List (Option ContextView)). IsSetUp plan answers.keys answers.contexts s)
      (sym same)
      (subst (λ ks. IsSetUp plan ks answers.contexts standing) (sym given.0)
      (subst (λ cs. IsSetUp plan keys cs standing) (sym given.1) set_up));
  journals = answers.journals;
  guesses = run.guesses;
  notes = answers.notes;
  allowed = run.allowed;
  text_is = (λ i. concat (live_lines (line_count plan) answers.keys answers.contexts (run.lines i)
      answers.journals answers.notes));
}
