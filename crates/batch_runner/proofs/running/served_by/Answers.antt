use Rattle.std.proofs.Common.{◌≡◌}
use Rattle.batch_plans.specs.AnswersText.{answers_text}
use Rattle.lane_workers.specs.Gathered.{AreOfARun}
use Rattle.shared_runs.proofs.Handed.{IfOk-both}
use Rattle.context_table.specs.ReplyTo.{IsReply}
use Rattle.batch_runner.proofs.Texts.{is_reply}
use Rattle.batch_runner.proofs.running.served_by.Goals as goal

pub returns-clause-text : goal.returns-clause-text
returns-clause-text g c =
    let plan = c.args.plan.now in
    let begun = c.in_ok-standing.ensures in
    let given = c.in_ok-standing.field-0.answers in
    let standing = c.in_ok-standing.field-0.standing in
    IfOk-both c.run_lanes.result (λ a. AreOfARun plan standing a.lanes a.journals)
    (λ a. (a.keys ≡ given.keys) × (a.contexts ≡ given.contexts))
    (λ a. IsReply plan (answers_text plan a))
    (λ a run same. is_reply plan given.keys given.contexts standing a (record {
      set_up = begun.set_up;
      run = run;
      keys_are = same.0;
      contexts_are = same.1;
    })) c.run_lanes.ensures.run c.run_lanes.ensures.set_up
