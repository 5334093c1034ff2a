-- What a rehearsal writes, a run may write.
use Rattle.std.proofs.Common.{◌≡◌, ◌⊎◌, true, false, inl, inr, ℕ, List}
use Rattle.batch_plans.specs.declared.plan.Plan.{Plan}
use Rattle.batch_plans.specs.Within.{IsWithinLimits}
use Rattle.context_core.specs.Rehearsals.{rehearsed}
use Rattle.context_core.proofs.Allowed.{allowed}
use Rattle.context_table.specs.ReplyTo.{IsReply, IsLiveReply}
use Rattle.context_table.proofs.Scheduling.{of_lines}
use Rattle.result_lines.specs.declared.verdicts.Verdict.{Verdict}
use Rattle.result_lines.specs.declared.verdicts.Verdict.TheVariants.{Legal}
use Rattle.batch_serving.specs.Text.{IsJudged, IsRehearsal}

pub rehearsal_replies : (plan : Plan) (schedule text : List ℕ) → IsWithinLimits plan → IsRehearsal schedule plan text → IsReply plan text
rehearsal_replies plan schedule text within is =
    let run = rehearsed plan is.standing schedule in
    let set_up = is.set_up in
    record {
      keys = is.keys;
      contexts = is.contexts;
      standing = is.standing;
      set_up = set_up;
      journals = run.journals;
      guesses = run.guesses;
      allowed = allowed plan is.standing schedule within
          (of_lines plan is.keys is.contexts is.standing set_up.context_count set_up.standing_count set_up.outcomes);
      text_is = is.text_is;
    }

pub written_is_legal : (plan : Plan) (schedule text : List ℕ) (verdict : Verdict) → IsWithinLimits plan
    → IsReply plan text ⊎ IsRehearsal schedule plan text → IsJudged false plan text verdict → verdict ≡ Legal
written_is_legal plan schedule text verdict within (inl is) judged = judged.legal.1 is
written_is_legal plan schedule text verdict within (inr is) judged =
    judged.legal.1 (rehearsal_replies plan schedule text within is)

pub live_is_legal : (plan : Plan) (text : List ℕ) (verdict : Verdict) → IsLiveReply plan text → IsJudged true plan text verdict → verdict ≡ Legal
live_is_legal plan text verdict is judged = judged.legal.1 is
