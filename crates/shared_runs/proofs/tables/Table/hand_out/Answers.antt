use Rattle.std.proofs.Common.{◌+◌, ◌-◌, List, Option, length, sym, subst}
use Rattle.turn_lock.specs.Passes.{PassListView}
use Rattle.shared_context.specs.Stamped.{IsNote}
use Rattle.lane_workers.specs.Handing.{TakesEach}
use Rattle.shared_runs.specs.Tables.{AreLeft}
use Rattle.shared_runs.proofs.Handed as handed
use Rattle.shared_runs.proofs.tables.Table.hand_out.Goals as goal

pub note-seat-requires : goal.note-seat-requires
note-seat-requires c = c.requires.given.1.seat.counter_is

pub returns-clause-handed : goal.returns-clause-handed
returns-clause-handed c = λ lane low given.
    let table = c.args.self.now in
    let left = c.args.left.now in
    let n = length table.lanes.now in
    let passes = c.in_ok-passes.passes in
    let takes = subst (λ (lists : List (Option PassListView)). TakesEach lists
    c.take_passes.new.lists passes) c.deref_mut.ensures.value c.in_ok-passes.ensures in
    record {
      count = handed.count_is table.contexts lane n low left.passes.items c.take_passes.new.lists
          passes given.passes takes;
      fresh = λ number s is. (handed.taken table.contexts lane n low left.passes.items
          c.take_passes.new.lists passes given.passes takes number s is).0;
      unseen = handed.unseen table.contexts lane n low left.passes.items c.take_passes.new.lists
          passes given.passes takes;
      note = handed.note_is table.counter.id c.note-seat.result left.seat.low
          c.note-seat.ensures.noted;
    }

pub returns-clause-given : goal.returns-clause-given
returns-clause-given c = λ lane low given.
    let table = c.args.self.now in
    let left = c.args.left.now in
    let n = length table.lanes.now in
    let takes = subst (λ (lists : List (Option PassListView)). TakesEach lists
    c.take_passes.new.lists c.in_ok-passes.passes) c.deref_mut.ensures.value c.in_ok-passes.ensures in
    let t = handed.left_after table.contexts lane n low left.passes.items
    c.take_passes.new.lists c.in_ok-passes.passes given.passes takes in
    let back = handed.written_back left.passes.len left.passes.items c.take_passes.new.lists
    left.passes.ok.0 takes.lists_count in
    record {
      passes = subst (AreLeft table.contexts (lane + 1) (n - (lane + 1)) n) (sym back) t;
      seat = subst (IsNote table.counter.id) (sym c.note-seat.ensures.seat) given.seat;
    }
