-- The replies that a plan may have.
use Rattle.std.specs.Prelude.{◌≡◌, ℕ, List, Option}
use Rattle.call_places.specs.declared.entries.Entry.{Entry}
use Rattle.call_places.specs.declared.entries.Mark.{Mark}
use Rattle.hpke_context.specs.Contexts.{ContextView}
use Rattle.batch_plans.specs.declared.plan.Plan.{Plan}
use Rattle.batch_plans.specs.declared.replies.KeyReply.{KeyReply}
use Rattle.batch_plans.specs.declared.replies.ContextReply.{ContextReply}
use Rattle.context_books.specs.Live.{live_run_along, IsAllowedLive, live_run_text}
use Rattle.context_books.specs.Runs.{run_along, IsAllowed, run_text}
use Rattle.context_table.specs.SetUp.{IsSetUp}

-- the text replies to the plan's set-up, and to its calls along journals and guesses, which it
-- prints. The journals are legal, and each guess may have been made.
pub record IsReply (plan : Plan) (text : List ℕ) : Type 0 where
  pub keys : List KeyReply
  pub contexts : List ContextReply
  pub standing : List (Option ContextView)
  pub set_up : IsSetUp plan keys contexts standing
  pub journals : List (List Mark)
  pub guesses : List (List ℕ)
  pub allowed : IsAllowed (run_along plan standing journals guesses)
  pub text_is : text ≡ run_text keys contexts (run_along plan standing journals guesses)

-- The same of a plan whose lanes add and retire contexts. The text prints the table too, whose notes
-- are one legal history with the journals.
pub record IsLiveReply (plan : Plan) (text : List ℕ) : Type 0 where
  pub keys : List KeyReply
  pub contexts : List ContextReply
  pub standing : List (Option ContextView)
  pub set_up : IsSetUp plan keys contexts standing
  pub journals : List (List Mark)
  pub guesses : List (List ℕ)
  pub notes : List Entry
  pub allowed : IsAllowedLive (live_run_along plan contexts standing journals guesses notes)
  pub text_is : text ≡ live_run_text keys (live_run_along plan contexts standing journals guesses notes)
