use Rattle.std.proofs.Common.{take}
use Rattle.std.specs.List.{All}
use Rattle.batch_plans.specs.Replies.{IsPrintable}
use Rattle.text_tests.proofs.printable.are_printable.Given as goal

abbrev pub invariant-lanes : goal.invariant-lanes
invariant-lanes l = All IsPrintable (take l.lane-index l.lanes)
