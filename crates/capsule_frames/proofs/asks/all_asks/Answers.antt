use Rattle.std.proofs.lemmas.Grind.{common_steps}
use Rattle.std.proofs.Common.{ap, arith}
use Rattle.capsule_frames.specs.declared.words.CapsuleWord.TheVariants.{Ask}
use Rattle.capsule_frames.specs.Capsules.{count_of}
use Rattle.capsule_frames.proofs.asks.all_asks.Goals as goal

pub sent-requires-clause-number : goal.sent-requires-clause-number
sent-requires-clause-number g c =
    let same = ap (count_of Ask) c.as_slice-lines.ensures.items in
    let most = c.requires.within.kinds Ask in
    let made = c.lines.invariant.count in
    omega (arith, same, most, made, c.len-number.ensures)

pub lines-preserved : goal.lines-preserved
lines-preserved g c = grind (arith, common_steps)
