use Rattle.std.proofs.Common.{List, ap, arith}
use Rattle.std.specs.List.{sum_by}
use Rattle.call_places.specs.declared.spans.Item.{Item}
use Rattle.batch_plans.specs.declared.plan.CallLine.TheVariants.{UnsealAll}
use Rattle.batch_plans.specs.Limits.{items_from}
use Rattle.batch_plans.specs.Room.{opened_room, most_room}
use Rattle.batch_plans.proofs.Rooms.{served_room-le}
use Rattle.batch_plans.proofs.room.served_room.Goals as goal

pub opening_room-requires : goal.opening_room-requires
opening_room-requires c =
    let first = c.in-UnsealAll.first in
    let count = c.in-UnsealAll.count in
    let call = UnsealAll c.in-UnsealAll.context first count in
    let room = λ (items : List Item). sum_by opened_room (items_from items first count) in
    omega (
      arith,
      ap (sum_by opened_room) c.items_from.ensures,
      ap room c.as_slice.ensures.items,
      ap (most_room c.args.plan.now.items) c.in-UnsealAll.is,
      served_room-le c.args.plan.now.items call,
      c.requires.small,
    )
