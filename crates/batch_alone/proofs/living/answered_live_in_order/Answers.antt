use Rattle.std.proofs.Common.{◌≡◌}
use Rattle.batch_plans.specs.AnswersText.{live_text}
use Rattle.context_table.specs.ReplyTo.{IsLiveReply}
use Rattle.batch_alone.specs.LiveRuns.{IsALiveRun}
use Rattle.batch_alone.proofs.Lived.{both_ok, is_live_reply}
use Rattle.batch_alone.proofs.living.answered_live_in_order.Goals as goal

pub returns-clause-text : goal.returns-clause-text
returns-clause-text g c =
    let plan = c.args.plan.now in
    let setup = c.in_ok-keys.field-0 in
    let seen = c.as_slice-2.result.now in
    both_ok c.run_live_in_order.result (IsALiveRun plan seen)
    (λ a. (a.keys ≡ setup.keys) × (a.contexts ≡ setup.contexts))
    (λ a. IsLiveReply plan (live_text plan a))
    (λ a run same. is_live_reply plan setup.keys setup.contexts setup.standing seen a
    c.as_slice-2.ensures.items c.in_ok-keys.ensures.set_up run same)
    c.run_live_in_order.ensures.run c.run_live_in_order.ensures.set_up
