use Rattle.std.proofs.Common.{◌≡◌, ◌==◌, List, [], Option, length, map, sym, refl, ap, ◌∙◌, subst, arith}
use Rattle.std.proofs.lemmas.List.{length-map}
use Rattle.std.proofs.lemmas.List.FromFn.{length-map-range_with_len}
use Rattle.hpke_context.specs.Contexts.{ContextView}
use Rattle.batch_plans.specs.declared.plan.CallLine.{CallLine}
use Rattle.batch_plans.specs.declared.plan.Plan.{Plan}
use Rattle.batch_plans.specs.declared.replies.Answers.{Answers}
use Rattle.batch_plans.specs.Room.{lane_room, journal_room, room_for}
use Rattle.context_books.specs.ContextLines.{AreOfLines, export_limits}
use Rattle.lane_workers.specs.Gathered.{AreOfARun}
use Rattle.lane_workers.specs.Groups.{IsFresh}
use Rattle.shared_runs.specs.Serving.{InOrder}
use Rattle.shared_runs.specs.Tables.{HasGiven, IsReady, IsDoneLane}
use Rattle.shared_runs.proofs.Ends.{no_elements, some_elements}
use Rattle.shared_runs.proofs.Handed.{written_back}
use Rattle.shared_runs.proofs.Ending.{no_books, none_served, nothing_closed, no_journals}
use Rattle.shared_runs.proofs.Served.{own_table, own_shared, each_of, are_done, still_begun}
use Rattle.shared_runs.proofs.Returning.{none_collected}
use Rattle.shared_runs.proofs.runs.run_lanes.Goals as goal

pub new-requires-clause-within : goal.new-requires-clause-within
new-requires-clause-within g c = c.requires.within

pub new-requires-clause-standing : goal.new-requires-clause-standing
new-requires-clause-standing g c =
    subst (AreOfLines c.args.plan.now.contexts) (sym c.as_mut_slice-contexts.ensures.items)
    c.requires.standing

pub new-requires-clause-lanes : goal.new-requires-clause-lanes
new-requires-clause-lanes g c =
    some_elements c.args.plan.now.lanes (c.if-is_empty.ensures
    ∙ ap (λ (ls : List (List CallLine)). length ls == 0) c.as_slice.ensures.items)

pub returns-then-is_empty-clause-run : goal.returns-then-is_empty-clause-run
returns-then-is_empty-clause-run g c =
    let plan : Plan = c.args.plan.now in
    let contexts = c.args.contexts in
    let empty : plan.lanes ≡ [] = no_elements plan.lanes (c.if-is_empty.ensures
    ∙ ap (λ (ls : List (List CallLine)). length ls == 0) c.as_slice.ensures.items) in
    let room = c.requires.room in
    let lanes : c.args.answers.lanes ≡ [] = ap (λ (a : Answers). a.lanes) room
    ∙ ap (map (lane_room plan (export_limits contexts))) empty in
    let run = c.served_lanes_make_a_run.ensures plan contexts [] [] (no_books plan contexts empty)
    c.requires.within (none_served plan contexts empty) (nothing_closed plan contexts empty) in
    let journals = no_journals plan contexts empty c.args.answers.journals
    (ap (λ (a : Answers). a.journals) room) in
    subst (λ ls. AreOfARun plan contexts ls c.args.answers.journals) (sym lanes)
    (subst (AreOfARun plan contexts []) journals run)

pub returns-then-is_empty-clause-printable : goal.returns-then-is_empty-clause-printable
returns-then-is_empty-clause-printable g c =
    let plan : Plan = c.args.plan.now in
    let contexts = c.args.contexts in
    let empty : plan.lanes ≡ [] = no_elements plan.lanes (c.if-is_empty.ensures
    ∙ ap (λ (ls : List (List CallLine)). length ls == 0) c.as_slice.ensures.items) in
    let lanes = ap (λ (a : Answers). a.lanes) c.requires.room in
    let journals = ap (λ (a : Answers). a.journals) c.requires.room in
    let count : length c.args.answers.lanes ≡ length plan.lanes = ap length lanes
    ∙ length-map plan.lanes (lane_room plan (export_limits contexts)) in
    record {
      keys = c.requires.replies.0;
      contexts = c.requires.replies.1;
      lanes = count;
      journals = ap length journals
          ∙ length-map-range_with_len
          (journal_room plan.contexts (export_limits contexts) plan.lanes) 0 (length plan.contexts);
      printable = λ k d low. absurd (omega (arith, count, ap length empty));
    }

pub returns-then-is_empty-clause-set_up : goal.returns-then-is_empty-clause-set_up
returns-then-is_empty-clause-set_up g c = (refl, refl)

pub begin-requires-clause-kept : goal.begin-requires-clause-kept
begin-requires-clause-kept g c κs within =
    let r = c.in_ok-table.ensures in
    own_table c.in_ok-table.table c.args.plan.now r.plan r.lanes r.table r.stamps

pub begin-requires-clause-few : goal.begin-requires-clause-few
begin-requires-clause-few g c κs within =
    let few = c.requires.within.lanes in
    let same = ap (λ (p : Plan). length p.lanes) c.in_ok-table.ensures.plan in
    omega (arith, few, same)

pub begin-requires-clause-given : goal.begin-requires-clause-given
begin-requires-clause-given g c κs within = c.in_ok-table.ensures.given

pub begin-requires-clause-room : goal.begin-requires-clause-room
begin-requires-clause-room g c κs within =
    let a = c.args.answers in
    let r = c.in_ok-table.ensures in
    c.requires.room
    ∙ ap (λ (p : Plan). room_for p a.keys a.contexts (export_limits c.args.contexts)) (sym r.plan)
    ∙ ap (λ (xs : List (Option ContextView)). room_for c.in_ok-table.table.plan.now a.keys a.contexts
    (export_limits xs)) (sym (r.contexts ∙ c.as_mut_slice-contexts.ensures.items))

pub serve-requires-clause-workers : goal.serve-requires-clause-workers
serve-requires-clause-workers g c κs within = c.requires.workers

pub serve-requires-clause-shared : goal.serve-requires-clause-shared
serve-requires-clause-shared g c κs within =
    let t = c.in_ok-table.table in
    let r = c.in_ok-table.ensures in
    own_shared t (r.lanes ∙ ap (λ (p : Plan). p.lanes) (sym r.plan)) _ r.table refl

pub serve-requires-clause-fresh : goal.serve-requires-clause-fresh
serve-requires-clause-fresh g c κs within =
    let t = c.in_ok-table.table in
    let ready = subst (InOrder (IsReady t) (length t.plan.now.lanes)) (sym c.deref_mut.ensures.value)
    c.in_ok-begun.ensures.ready in
    each_of (IsFresh t.plan.now t.contexts _) c.deref_mut.result.now
    (λ k w at. (ready.each k w at).fresh _ refl)

pub end-requires-clause-kept : goal.end-requires-clause-kept
end-requires-clause-kept g c =
    let r = c.in_ok-table.ensures in
    own_table c.in_ok-table.table c.args.plan.now r.plan r.lanes r.table r.stamps

pub end-requires-clause-contexts : goal.end-requires-clause-contexts
end-requires-clause-contexts g c = c.in_ok-table.ensures.table.of_lines.count

pub end-requires-clause-none : goal.end-requires-clause-none
end-requires-clause-none g c =
    let t = c.in_ok-table.table in
    let r = c.in_ok-table.ensures in
    none_collected t c.begin.new.left
    (subst (λ (ls : List (List CallLine)). HasGiven t (length ls) c.begin.new.left)
    (sym (r.lanes ∙ ap (λ (p : Plan). p.lanes) (sym r.plan))) c.in_ok-begun.ensures.given)

pub end-requires-clause-room : goal.end-requires-clause-room
end-requires-clause-room g c =
    let a = c.args.answers in
    let r = c.in_ok-table.ensures in (
      a,
      still_begun a c.in_ok-begun.begun _ refl c.in_ok-begun.ensures.begun,
      c.requires.room
          ∙ ap (λ (p : Plan). room_for p a.keys a.contexts (export_limits c.args.contexts)) (sym r.plan)
          ∙ ap (λ (xs : List (Option ContextView)). room_for c.in_ok-table.table.plan.now a.keys
          a.contexts (export_limits xs)) (sym (r.contexts ∙ c.as_mut_slice-contexts.ensures.items)),
    )

pub end-requires-clause-done : goal.end-requires-clause-done
end-requires-clause-done g c =
    let t = c.in_ok-table.table in
    let n = length t.plan.now.lanes in
    let lanes = c.in_ok-begun.begun.lanes in
    let ready = subst (InOrder (IsReady t) n) (sym c.deref_mut.ensures.value)
    c.in_ok-begun.ensures.ready in
    subst (InOrder (IsDoneLane t) n) (sym (written_back lanes.len lanes.items c.serve.new.lanes
    lanes.ok.0 (c.serve.auto.lanes ∙ ap length c.deref_mut.ensures.value)))
    (are_done t _ n c.deref_mut.result.now c.serve.new.lanes ready c.serve.ensures)

pub returns-clause-run : goal.returns-clause-run
returns-clause-run g c =
    let r = c.in_ok-table.ensures in
    let a = c.end.result in
    subst (λ (p : Plan). AreOfARun p c.args.contexts a.lanes a.journals) r.plan
    (subst (λ (xs : List (Option ContextView)). AreOfARun c.in_ok-table.table.plan.now xs a.lanes
    a.journals) (r.contexts ∙ c.as_mut_slice-contexts.ensures.items) c.end.ensures.run.run)

pub returns-clause-set_up : goal.returns-clause-set_up
returns-clause-set_up g c =
    c.end.ensures.set_up c.args.answers
    (still_begun c.args.answers c.in_ok-begun.begun _ refl c.in_ok-begun.ensures.begun)

pub returns-clause-printable : goal.returns-clause-printable
returns-clause-printable g c =
    let same = c.in_ok-table.ensures.plan in
    let set_up = c.end.ensures.set_up c.args.answers
    (still_begun c.args.answers c.in_ok-begun.begun _ refl c.in_ok-begun.ensures.begun) in
    record {
      keys = ap length set_up.0 ∙ c.requires.replies.0;
      contexts = ap length set_up.1 ∙ c.requires.replies.1;
      lanes = c.end.ensures.lanes ∙ ap (λ (p : Plan). length p.lanes) same;
      journals = c.end.ensures.journals ∙ ap (λ (p : Plan). length p.contexts) same;
      printable = c.end.ensures.run.printable;
    }
