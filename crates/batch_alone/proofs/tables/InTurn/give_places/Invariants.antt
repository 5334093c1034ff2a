use Rattle.std.proofs.Common.{◌≡◌}
use Rattle.batch_alone.specs.Tables.{with_places}
use Rattle.batch_alone.specs.Turns.{so_far}
use Rattle.batch_alone.proofs.tables.InTurn.give_places.Given as goal

abbrev pub invariant-places : goal.invariant-places
invariant-places l = record {
  so_far : so_far l.self ≡ with_places l._place (so_far l.initial.self);
  live : l.self.live.items ≡ l.initial.self.live.items;
}
