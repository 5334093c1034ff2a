-- A plan whose keys and contexts were set up, before the first call is answered.
use Rattle.std.specs.Prelude.{◌≡◌, length}
use Rattle.batch_plans.specs.declared.plan.Plan.{Plan}
use Rattle.batch_plans.specs.Within.{IsPlain}
use Rattle.batch_plans.specs.Names.{all_live}
use Rattle.batch_plans.specs.Room.{room_for}
use Rattle.context_books.specs.ContextLines.{AreOfLines, export_limits}
use Rattle.context_table.specs.SetUp.{IsSetUp}
use Rattle.batch_serving.specs.declared.setting_up.Begun.{Begun}

-- the contexts that stand and the replies to keys and contexts are those of the plan's set-up, and
-- there is room for the replies to its calls
pub record IsBegun (plan : Plan) (begun : Begun) : Type 0 where
  pub set_up : IsSetUp plan begun.answers.keys begun.answers.contexts begun.standing
  pub key_count : length begun.answers.keys ≡ length plan.keys
  pub context_count : length begun.answers.contexts ≡ length plan.contexts
  pub lines : AreOfLines plan.contexts begun.standing
  pub room : begun.answers ≡ room_for (all_live plan) begun.answers.keys begun.answers.contexts
      (export_limits begun.standing)
  pub plain_room : IsPlain plan → begun.answers ≡ room_for plan begun.answers.keys
      begun.answers.contexts (export_limits begun.standing)
