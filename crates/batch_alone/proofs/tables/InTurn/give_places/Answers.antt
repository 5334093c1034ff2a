use Rattle.batch_alone.specs.Turns.{so_far}
use Rattle.batch_alone.proofs.Putting.{place_more}
use Rattle.batch_alone.proofs.tables.InTurn.give_places.Goals as goal

pub places-preserved : goal.places-preserved
places-preserved c = record {
  so_far = place_more (so_far c.args.self.now) c.places._place (so_far c.places.self)
      c.next_stamp-stamp.result c.push.new.self.items c.places.invariant.so_far
      c.next_stamp-stamp.ensures c.in_ok-push.ensures.items;
  live = c.places.invariant.live;
}
