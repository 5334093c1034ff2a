use Rattle.std.proofs.Common.{arith}
use Rattle.std.proofs.lemmas.Int.{ints}
use Rattle.radix_pack.proofs.elements.shifted.Goals as goal

pub returns-clause-below : goal.returns-clause-below
returns-clause-below c = omega (arith, ints, c.from.ensures, c.from-2.ensures)
