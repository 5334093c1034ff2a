use Rattle.std.proofs.Common.{◌≡◌, ◌==◌, List, [], Option, length, map, sym, refl, ap, ◌∙◌, subst, arith}
use Rattle.std.proofs.lemmas.List.{length-map}
use Rattle.std.proofs.lemmas.List.FromFn.{length-map-range_with_len}
use Rattle.call_places.specs.declared.entries.Entry.{Entry}
use Rattle.call_places.specs.declared.entries.Mark.{Mark}
use Rattle.batch_plans.specs.declared.plan.CallLine.{CallLine}
use Rattle.batch_plans.specs.declared.plan.Plan.{Plan}
use Rattle.batch_plans.specs.declared.replies.Answers.{Answers}
use Rattle.batch_plans.specs.declared.replies.LaneAnswers.{LaneAnswers}
use Rattle.batch_plans.specs.Names.{at_position, all_live}
use Rattle.batch_plans.specs.Room.{lane_room, journal_room, room_for}
use Rattle.context_books.specs.ContextLines.{AreOfLines, export_limits}
use Rattle.hpke_context.specs.Contexts.{ContextView}
use Rattle.lane_workers.specs.LiveGathered.{AreOfALiveRun}
use Rattle.lane_workers.specs.LiveLanes.{AddsAre}
use Rattle.shared_runs.proofs.Ends.{no_elements, some_elements}
use Rattle.shared_runs.proofs.Handed.{written_back}
use Rattle.shared_runs.proofs.Ending.{no_books, no_journals}
use Rattle.shared_runs.specs.Serving.{InOrder}
use Rattle.shared_runs.specs.LiveContexts.{AddsStand, HasGivenLive, IsReadyLive, IsDoneLiveLane}
use Rattle.shared_runs.proofs.LiveEnding.{none_served, nothing_closed}
use Rattle.shared_runs.proofs.LiveShared.{are_shared_live, all_fresh_live, are_done_live}
use Rattle.shared_runs.proofs.Served.{still_begun}
use Rattle.shared_runs.proofs.LiveReturning.{none_collected}
use Rattle.shared_runs.proofs.live_runs.run_live.Goals as goal

pub new-requires-clause-within : goal.new-requires-clause-within
new-requires-clause-within g c = c.requires.within

pub new-requires-clause-some : goal.new-requires-clause-some
new-requires-clause-some g c =
    some_elements c.args.plan.now.lanes (c.if-is_empty.ensures
    ∙ ap (λ (ls : List (List CallLine)). length ls == 0) c.as_slice.ensures.items)

pub new-requires-clause-named : goal.new-requires-clause-named
new-requires-clause-named g c = c.requires.named

pub new-requires-clause-standing : goal.new-requires-clause-standing
new-requires-clause-standing g c =
    subst (AreOfLines c.args.plan.now.contexts) (sym c.as_mut_slice-contexts.ensures.items)
    c.requires.standing

pub new-requires-clause-stands : goal.new-requires-clause-stands
new-requires-clause-stands g c =
    subst (AddsStand c.args.plan.now) (sym c.as_mut_slice-contexts.ensures.items) c.requires.stands

pub returns-then-is_empty-clause-run : goal.returns-then-is_empty-clause-run
returns-then-is_empty-clause-run g c =
    let plan : Plan = c.args.plan.now in
    let contexts = c.args.contexts in
    let a = c.args.answers in
    let empty : plan.lanes ≡ [] = no_elements plan.lanes (c.if-is_empty.ensures
    ∙ ap (λ (ls : List (List CallLine)). length ls == 0) c.as_slice.ensures.items) in
    let placed : (all_live plan).lanes ≡ [] = ap (map (map (at_position plan))) empty in
    let room = c.requires.room in
    let lanes : a.lanes ≡ [] = ap (λ (x : Answers). x.lanes) room
    ∙ ap (map (lane_room (all_live plan) (export_limits contexts))) placed in
    let notes : a.notes ≡ [] = ap (λ (x : Answers). x.notes) room in
    let run = c.live_lanes_make_a_run.ensures plan a.contexts contexts [] [] []
    (no_books plan contexts empty) [] c.requires.within (none_served plan contexts a.contexts empty)
    (nothing_closed plan contexts a.contexts empty) in
    let journals = no_journals (all_live plan) contexts placed a.journals
    (ap (λ (x : Answers). x.journals) room) in
    subst (λ (es : List Entry). AreOfALiveRun plan a.contexts contexts a.lanes a.journals es) (sym notes)
    (subst (λ (ls : List LaneAnswers). AreOfALiveRun plan a.contexts contexts ls a.journals [])
    (sym lanes)
    (subst (λ (js : List (List Mark)). AreOfALiveRun plan a.contexts contexts [] js []) journals run))

pub returns-then-is_empty-clause-printable : goal.returns-then-is_empty-clause-printable
returns-then-is_empty-clause-printable g c =
    let plan : Plan = c.args.plan.now in
    let contexts = c.args.contexts in
    let empty : plan.lanes ≡ [] = no_elements plan.lanes (c.if-is_empty.ensures
    ∙ ap (λ (ls : List (List CallLine)). length ls == 0) c.as_slice.ensures.items) in
    let lanes = ap (λ (a : Answers). a.lanes) c.requires.room in
    let journals = ap (λ (a : Answers). a.journals) c.requires.room in
    let count : length c.args.answers.lanes ≡ length plan.lanes = ap length lanes
    ∙ length-map (all_live plan).lanes (lane_room (all_live plan) (export_limits contexts))
    ∙ length-map plan.lanes (map (at_position plan)) in
    record {
      keys = c.requires.replies.0;
      contexts = c.requires.replies.1;
      lanes = count;
      journals = ap length journals
          ∙ length-map-range_with_len
          (journal_room plan.contexts (export_limits contexts) (all_live plan).lanes) 0
          (length plan.contexts);
      printable = λ k d low. absurd (omega (arith, count, ap length empty));
    }

pub returns-then-is_empty-clause-set_up : goal.returns-then-is_empty-clause-set_up
returns-then-is_empty-clause-set_up g c = (refl, refl)

pub begin-requires-clause-kept : goal.begin-requires-clause-kept
begin-requires-clause-kept g c κs within = c.in_ok-live.ensures.live

pub begin-requires-clause-few : goal.begin-requires-clause-few
begin-requires-clause-few g c κs within =
    let plan = c.in_ok-live.live.shared.plan.now in
    let few = c.requires.within.lanes in
    let same = ap (λ (p : Plan). length p.lanes) c.in_ok-live.ensures.plan in
    omega (arith, few, same, length-map plan.lanes (map (at_position plan)))

pub begin-requires-clause-given : goal.begin-requires-clause-given
begin-requires-clause-given g c κs within = c.in_ok-live.ensures.given

pub begin-requires-clause-room : goal.begin-requires-clause-room
begin-requires-clause-room g c κs within =
    let a = c.args.answers in
    let r = c.in_ok-live.ensures in
    c.requires.room
    ∙ ap (λ (p : Plan). room_for (all_live p) a.keys a.contexts (export_limits c.args.contexts))
    (sym r.plan)
    ∙ ap (λ (xs : List (Option ContextView)). room_for (all_live c.in_ok-live.live.shared.plan.now)
    a.keys a.contexts (export_limits xs)) (sym (r.contexts ∙ c.as_mut_slice-contexts.ensures.items))

pub serve_live-requires-clause-workers : goal.serve_live-requires-clause-workers
serve_live-requires-clause-workers g c κs within = c.requires.workers

pub serve_live-requires-clause-shared : goal.serve_live-requires-clause-shared
serve_live-requires-clause-shared g c κs within =
    are_shared_live c.in_ok-live.live c.in_ok-live.ensures.live _ refl

pub serve_live-requires-clause-fresh : goal.serve_live-requires-clause-fresh
serve_live-requires-clause-fresh g c κs within =
    let t = c.in_ok-live.live in
    let n = length (all_live t.shared.plan.now).lanes in
    all_fresh_live t c.in_ok-live.ensures.live _ refl n c.deref_mut.result.now
    (subst (InOrder (IsReadyLive t) n) (sym c.deref_mut.ensures.value) c.in_ok-begun.ensures.ready)

pub end-requires-clause-kept : goal.end-requires-clause-kept
end-requires-clause-kept g c = c.in_ok-live.ensures.live

pub end-requires-clause-contexts : goal.end-requires-clause-contexts
end-requires-clause-contexts g c = c.in_ok-live.ensures.live.shared.of_lines.count

pub end-requires-clause-none : goal.end-requires-clause-none
end-requires-clause-none g c =
    let t = c.in_ok-live.live in
    let plan = t.shared.plan.now in
    none_collected t c.begin.new.left c.in_ok-live.ensures.live
    (subst (λ k. HasGivenLive t k c.begin.new.left) (length-map plan.lanes (map (at_position plan)))
    c.in_ok-begun.ensures.given)

pub end-requires-clause-room : goal.end-requires-clause-room
end-requires-clause-room g c =
    let a = c.args.answers in
    let r = c.in_ok-live.ensures in (
      a,
      still_begun a c.in_ok-begun.begun _ refl c.in_ok-begun.ensures.begun,
      c.requires.room
          ∙ ap (λ (p : Plan). room_for (all_live p) a.keys a.contexts (export_limits c.args.contexts))
          (sym r.plan)
          ∙ ap (λ (xs : List (Option ContextView)).
          room_for (all_live c.in_ok-live.live.shared.plan.now) a.keys a.contexts (export_limits xs))
          (sym (r.contexts ∙ c.as_mut_slice-contexts.ensures.items)),
    )

pub end-requires-clause-done : goal.end-requires-clause-done
end-requires-clause-done g c =
    let t = c.in_ok-live.live in
    let live = c.in_ok-live.ensures.live in
    let n = length (all_live t.shared.plan.now).lanes in
    let lanes = c.in_ok-begun.begun.lanes in
    let ready = subst (InOrder (IsReadyLive t) n) (sym c.deref_mut.ensures.value)
    c.in_ok-begun.ensures.ready in
    subst (InOrder (IsDoneLiveLane t) n) (sym (written_back lanes.len lanes.items
    c.serve_live.new.lanes lanes.ok.0
    (c.serve_live.auto.lanes ∙ ap length c.deref_mut.ensures.value)))
    (are_done_live t _ n c.deref_mut.result.now c.serve_live.new.lanes (are_shared_live t live _ refl)
    ready c.serve_live.ensures)

pub returns-clause-run : goal.returns-clause-run
returns-clause-run g c =
    let r = c.in_ok-live.ensures in
    let a = c.end.result in
    let replies = c.args.answers.contexts in
    let run = subst (λ (p : Plan). AddsAre p replies
    → AreOfALiveRun p replies c.args.contexts a.lanes a.journals a.notes) r.plan
    (subst (λ (xs : List (Option ContextView)). AddsAre c.in_ok-live.live.shared.plan.now replies
    → AreOfALiveRun c.in_ok-live.live.shared.plan.now replies xs a.lanes a.journals a.notes)
    (r.contexts ∙ c.as_mut_slice-contexts.ensures.items) (c.end.ensures.run.run replies)) in
    run c.requires.adds

pub returns-clause-set_up : goal.returns-clause-set_up
returns-clause-set_up g c =
    c.end.ensures.set_up c.args.answers
    (still_begun c.args.answers c.in_ok-begun.begun _ refl c.in_ok-begun.ensures.begun)

pub returns-clause-printable : goal.returns-clause-printable
returns-clause-printable g c =
    let plan : Plan = c.in_ok-live.live.shared.plan.now in
    let same = c.in_ok-live.ensures.plan in
    let set_up = c.end.ensures.set_up c.args.answers
    (still_begun c.args.answers c.in_ok-begun.begun _ refl c.in_ok-begun.ensures.begun) in
    record {
      keys = ap length set_up.0 ∙ c.requires.replies.0;
      contexts = ap length set_up.1 ∙ c.requires.replies.1;
      lanes = c.end.ensures.lanes ∙ length-map plan.lanes (map (at_position plan))
          ∙ ap (λ (p : Plan). length p.lanes) same;
      journals = c.end.ensures.journals ∙ ap (λ (p : Plan). length p.contexts) same;
      printable = c.end.ensures.run.printable c.args.answers.contexts
          (subst (λ (p : Plan). AddsAre p c.args.answers.contexts) (sym same) c.requires.adds);
    }
