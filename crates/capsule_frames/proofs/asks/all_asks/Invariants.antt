use Rattle.std.proofs.Common.{◌≡◌, ◌+◌, ◌++◌, length, drop}
use Rattle.capsule_frames.specs.declared.words.CapsuleWord.TheVariants.{Ask}
use Rattle.capsule_frames.specs.Capsules.{count_of}
use Rattle.capsule_frames.specs.Orders.{asks_from}
use Rattle.capsule_frames.proofs.asks.all_asks.Given as goal

abbrev pub invariant-lines : goal.invariant-lines
invariant-lines g l = record {
  made : l.asks.items
      ++ asks_from l.plan.plan l.keys.replies (length l.asks.items) (drop l.line-index l.lines)
      ≡ asks_from l.plan.plan l.keys.replies 0 l.lines;
  count : length l.asks.items + count_of Ask (drop l.line-index l.lines) ≡ count_of Ask l.lines;
}
