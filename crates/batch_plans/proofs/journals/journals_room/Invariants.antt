use Rattle.std.proofs.Common.{◌≡◌, take, map}
use Rattle.std.specs.Prelude.{replicate}
use Rattle.batch_plans.specs.Room.{blank_mark}
use Rattle.batch_plans.proofs.journals.journals_room.Given as goal

abbrev pub invariant-counts : goal.invariant-counts
invariant-counts l =
    l.journals.items ≡ map (λ count. replicate count blank_mark) (take l.count-index l.count-items)
