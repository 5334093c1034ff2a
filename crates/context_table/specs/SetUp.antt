-- The set-up of a plan: the replies to its key lines and context lines, and the contexts that
-- stand, each in the slot of its number.
use Rattle.std.specs.Prelude.{◌≡◌, List, length, Option}
use Rattle.hpke_context.specs.Contexts.{ContextView}
use Rattle.batch_plans.specs.declared.plan.Plan.{Plan}
use Rattle.batch_plans.specs.declared.replies.KeyReply.{KeyReply}
use Rattle.batch_plans.specs.declared.replies.ContextReply.{ContextReply}
use Rattle.context_table.specs.Keys.{AreKeyReplies}
use Rattle.context_table.specs.Contexts.{AreOutcomes}

-- there is one for each plan, as the law `one_set_up` says: it is a function of the plan alone
pub record IsSetUp (plan : Plan) (keys : List KeyReply) (contexts : List ContextReply)
    (standing : List (Option ContextView)) : Type 0 where
  pub key_count : length keys ≡ length plan.keys
  pub context_count : length contexts ≡ length plan.contexts
  pub standing_count : length standing ≡ length plan.contexts
  pub key_replies : AreKeyReplies plan keys
  pub outcomes : AreOutcomes plan keys contexts standing

-- the replies to the key lines alone. No plan has two lists of them, as the law `one_key_set_up` says
pub record IsKeySetUp (plan : Plan) (keys : List KeyReply) : Type 0 where
  pub key_count : length keys ≡ length plan.keys
  pub key_replies : AreKeyReplies plan keys
