use Rattle.std.proofs.Common.{map, sym, ◌∙◌, arith}
use Rattle.std.proofs.lemmas.List.{length-map}
use Rattle.lane_workers.specs.Turns.{views, view_in}
use Rattle.shared_runs.specs.Closing.{entries_of}
use Rattle.shared_runs.proofs.Ending.{few_entries, all_back, seat_stamps, all_served, printable, all_closed}
use Rattle.shared_runs.proofs.Served.{own_planned, own_within}
use Rattle.shared_runs.proofs.lanes.TableRunsLanes.close.Goals as goal

pub close_contexts-requires-clause-table : goal.close_contexts-requires-clause-table
close_contexts-requires-clause-table c = c.requires.kept.table

pub close_contexts-requires-clause-seat : goal.close_contexts-requires-clause-seat
close_contexts-requires-clause-seat c = c.requires.back.1.back.seat.counter_is

pub close_contexts-requires-clause-stamps : goal.close_contexts-requires-clause-stamps
close_contexts-requires-clause-stamps c =
    let b = c.requires.back in
    seat_stamps c.args.self c.args.left c.requires.kept b.0 b.1 b.2

pub close_contexts-requires-clause-back : goal.close_contexts-requires-clause-back
close_contexts-requires-clause-back c =
    let b = c.requires.back in
    (b.1.passes, b.1.back.put, all_back c.args.self c.args.left c.requires.kept b.0 b.1 b.2)

pub close_contexts-requires-clause-room : goal.close_contexts-requires-clause-room
close_contexts-requires-clause-room c =
    omega (arith, c.requires.room, length-map c.args.self.contexts view_in)

pub returns-clause-count : goal.returns-clause-count
returns-clause-count c = c.close_contexts.ensures.count ∙ sym (length-map c.args.self.contexts view_in)

pub returns-clause-few : goal.returns-clause-few
returns-clause-few c =
    let t = c.args.self in
    let b = c.requires.back in
    few_entries t t.plan.now (own_planned t c.requires.kept.own) c.args.left.seat.drawn b.1.passes
    c.close_contexts.new.books.items
    (c.close_contexts.ensures.closed b.1.passes b.1.back.put
    (all_back t c.args.left c.requires.kept b.0 b.1 b.2))

pub returns-clause-run : goal.returns-clause-run
returns-clause-run c = λ answers collected count.
    let t = c.args.self in
    let l = c.args.left in
    let is = c.requires.kept in
    let books = map entries_of c.close_contexts.new.books.items in
    let closed = c.close_contexts.ensures.closed collected.passes collected.back.put
    (all_back t l is answers collected count) in
    record {
      run = c.served_lanes_make_a_run.ensures t.plan.now (views t.contexts) collected.passes answers
          books (own_within t is.own is.table) (all_served t l is answers collected count)
          (all_closed t l is answers collected count books closed);
      printable = printable t l is answers collected count;
    }
