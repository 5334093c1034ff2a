use Rattle.std.proofs.Common.{◌≡◌, ◌++◌, List, length, map, sym, ap, ◌∙◌, subst, arith}
use Rattle.std.proofs.lemmas.List.{length-map}
use Rattle.call_places.specs.declared.entries.Entry.{Entry}
use Rattle.call_places.specs.Entries.{mark_of}
use Rattle.stamp_counter.specs.Seats.{SeatView}
use Rattle.batch_plans.specs.Names.{at_position, all_live}
use Rattle.lane_workers.specs.LiveGathered.{AreOfALiveRun}
use Rattle.lane_workers.specs.Turns.{views, view_in}
use Rattle.shared_runs.specs.declared.live_contexts.LiveContexts.{LiveContexts}
use Rattle.shared_runs.specs.Closing.{entries_of}
use Rattle.shared_runs.specs.LiveCollected.{tables_of}
use Rattle.shared_runs.proofs.Ending.{few_entries}
use Rattle.shared_runs.proofs.LiveClosed.{still_put, table_closes, passes_count, all_closed}
use Rattle.shared_runs.proofs.LiveEnding.{all_served, printable}
use Rattle.shared_runs.proofs.LiveShared.{planned_live}
use Rattle.shared_runs.proofs.live_lanes.LiveContextsRunsLanes.close.Goals as goal

-- calls that have the places of their contexts are as many
own_count : {X : Type 0} (t : LiveContexts) (xs : List X)
    → length xs ≡ length (all_live t.shared.plan.now).lanes → length xs ≡ length t.shared.plan.now.lanes
own_count t xs count =
    let plan = t.shared.plan.now in count ∙ length-map plan.lanes (map (at_position plan))

pub close_contexts-requires-clause-seat : goal.close_contexts-requires-clause-seat
close_contexts-requires-clause-seat c = ap (λ (s : SeatView). s.counter) c.join.ensures

pub close_contexts-requires-clause-back : goal.close_contexts-requires-clause-back
close_contexts-requires-clause-back c =
    let t = c.args.self in
    let b = c.requires.back in (
      b.1.passes,
      still_put t.shared c.args.left.shared c.join.new.seat b.1.passes b.1.back.put,
      passes_count t c.args.left c.requires.kept b.0 b.1 (own_count t b.0 b.2),
    )

pub close_contexts-requires-clause-room : goal.close_contexts-requires-clause-room
close_contexts-requires-clause-room c =
    omega (arith, c.requires.room, length-map c.args.self.shared.contexts view_in)

pub returns-clause-count : goal.returns-clause-count
returns-clause-count c =
    c.close_contexts.ensures.count ∙ sym (length-map c.args.self.shared.contexts view_in)

pub returns-clause-few : goal.returns-clause-few
returns-clause-few c =
    let t = c.args.self in
    let live = c.requires.kept in
    let b = c.requires.back in
    few_entries t.shared (all_live t.shared.plan.now) (planned_live t live) c.join.new.seat.drawn
    b.1.passes c.close_contexts.new.books.items
    (c.close_contexts.ensures.closed b.1.passes
    (still_put t.shared c.args.left.shared c.join.new.seat b.1.passes b.1.back.put)
    (passes_count t c.args.left live b.0 b.1 (own_count t b.0 b.2)))

pub returns-clause-run : goal.returns-clause-run
returns-clause-run c = λ answers collected count.
    let t = c.args.self in
    let l = c.args.left in
    let live = c.requires.kept in
    let n = c.close-notes.ensures in
    let own = own_count t answers count in
    let plan = t.shared.plan.now in
    let contexts = views t.shared.contexts in
    let books = map entries_of c.close_contexts.new.books.items in
    let notes = c.close-notes.result.0 in
    let closed = c.close_contexts.ensures.closed collected.passes
    (still_put t.shared l.shared c.join.new.seat collected.passes collected.back.put)
    (passes_count t l live answers collected own) in
    let all = all_closed t l live answers collected own c.join.new.seat.drawn books notes closed
    (table_closes t l live answers collected own notes n.shown n.others n.rise) n.live
    (ap (λ (s : SeatView). s.drawn) c.join.ensures
    ∙ (λ i. collected.back.seat.drawn i ++ n.stamps i)) in
    record {
      run = λ replies adds. subst (λ (es : List Entry).
          AreOfALiveRun plan replies contexts answers (map (map mark_of) books) es)
          (sym (c.from_vec.ensures.items ∙ c.into_vec.ensures))
          (c.live_lanes_make_a_run.ensures plan replies contexts (tables_of l) collected.passes answers
          books notes live.within (all_served t l answers collected own replies adds) all);
      printable = λ replies adds. printable t l answers collected own replies adds;
    }
