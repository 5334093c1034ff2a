use Rattle.std.proofs.Common.{List, All, sym, subst}
use Rattle.call_places.specs.declared.entries.Entry.{Entry}
use Rattle.turn_lock.specs.Passes.{IsShown}
use Rattle.live_table.proofs.table.LiveTable.close.Goals as goal

pub returns-clause-shown : goal.returns-clause-shown
returns-clause-shown c = subst (λ (l : List Entry). All (IsShown l) c.args.passes.passes) (sym c.into_parts-entries.ensures.parts.0) c.close.ensures.shown
