use Rattle.std.proofs.Common.{List, Option, refl, sym, subst}
use Rattle.turn_lock.specs.Passes.{PassListView}
use Rattle.lane_workers.specs.Handing.{CanPutEach, PutsEach}
use Rattle.shared_runs.proofs.Handed.{written_back}
use Rattle.shared_runs.proofs.Returning.{may_put, one_back}
use Rattle.shared_runs.proofs.tables.Table.put_back.Goals as goal

pub put_passes-requires : goal.put_passes-requires
put_passes-requires c =
    let b = c.requires in
    subst (λ (lists : List (Option PassListView)). CanPutEach lists c.args.passes)
    (sym c.deref_mut.ensures.value)
    (may_put c.args.self.now c.args.left.now b.0 b.1.put b.2 c.args.passes b.3)

pub returns : goal.returns
returns c = λ given back low are.
    let left = c.args.left.now in
    let puts = subst (λ (lists : List (Option PassListView)). PutsEach lists c.put_passes.new.lists
    c.args.passes) c.deref_mut.ensures.value c.put_passes.ensures in
    let written = written_back left.passes.len left.passes.items c.put_passes.new.lists
    left.passes.ok.0 puts.lists_count in
    one_back c.args.self.now left _ refl given back c.args.passes are
    (subst (λ (lists : List (Option PassListView)). PutsEach left.passes.items lists c.args.passes)
    (sym written) puts)
