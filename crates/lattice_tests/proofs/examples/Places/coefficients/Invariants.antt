use Rattle.std.proofs.Common.{◌≡◌}
use Rattle.lattice_tests.specs.Examples.{placed}
use Rattle.lattice_tests.proofs.examples.Places.coefficients.Given as goal

abbrev pub invariant-loop-k : goal.invariant-loop-k
invariant-loop-k l = l.list.items ≡ placed l.k l.self.ones.now l.self.minus_ones.now
