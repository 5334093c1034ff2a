use Rattle.std.proofs.Common.{◌≡◌, ◌++◌, map, take, drop}
use Rattle.rand_words.specs.Samples.{marked_zero}
use Rattle.rand_words.proofs.marks.mark_zero.Given as goal

abbrev pub invariant-loop-i : goal.invariant-loop-i
invariant-loop-i l = l.words ≡ map marked_zero (take l.i l.initial.words) ++ drop l.i l.initial.words
