use Rattle.std.proofs.Common.{◌≡◌}
use Rattle.batch_plans.specs.AnswersText.{live_text}
use Rattle.lane_workers.specs.LiveGathered.{AreOfALiveRun}
use Rattle.shared_runs.proofs.Handed.{IfOk-both}
use Rattle.context_table.specs.ReplyTo.{IsLiveReply}
use Rattle.batch_runner.proofs.LiveSetUp.{adds_are, adds_named, adds_stand}
use Rattle.batch_runner.proofs.Texts.{is_live_reply}
use Rattle.batch_runner.proofs.living.served_by.Goals as goal

pub run_live-requires-clause-named : goal.run_live-requires-clause-named
run_live-requires-clause-named g c κs within = adds_named c.args.plan.now c.requires.live

pub run_live-requires-clause-adds : goal.run_live-requires-clause-adds
run_live-requires-clause-adds g c κs within =
    let begun = c.in_ok-standing.field-0 in
    adds_are c.args.plan.now begun.answers.keys begun.answers.contexts begun.standing c.requires.live
    c.requires.within c.in_ok-standing.ensures.set_up

pub run_live-requires-clause-stands : goal.run_live-requires-clause-stands
run_live-requires-clause-stands g c κs within =
    let begun = c.in_ok-standing.field-0 in
    adds_stand c.args.plan.now begun.answers.keys begun.answers.contexts begun.standing c.requires.live
    c.requires.within c.in_ok-standing.ensures.set_up

pub returns-clause-text : goal.returns-clause-text
returns-clause-text g c =
    let plan = c.args.plan.now in
    let begun = c.in_ok-standing.field-0 in
    let given = begun.answers in
    IfOk-both c.run_live.result (λ a. AreOfALiveRun plan given.contexts begun.standing a.lanes
    a.journals a.notes)
    (λ a. (a.keys ≡ given.keys) × (a.contexts ≡ given.contexts))
    (λ a. IsLiveReply plan (live_text plan a))
    (λ a run same. is_live_reply plan given.keys given.contexts begun.standing a (record {
      set_up = c.in_ok-standing.ensures.set_up;
      run = run;
      keys_are = same.0;
      contexts_are = same.1;
    })) c.run_live.ensures.run c.run_live.ensures.set_up
