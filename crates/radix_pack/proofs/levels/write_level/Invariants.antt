use Rattle.std.proofs.Common.{◌++◌}
use Rattle.radix_pack.specs.Radix.{level_bytes, next_digits}
use Rattle.radix_pack.proofs.LevelSteps.{Pairs}
use Rattle.radix_pack.proofs.levels.write_level.Given as goal

abbrev pub invariant-loop-i : goal.invariant-loop-i
invariant-loop-i l =
    Pairs l.out.items (l.initial.out.items ++ level_bytes l.initial.digits) l.digits (next_digits l.initial.digits) l.i
