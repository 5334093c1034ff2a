use Rattle.std.proofs.Common.{◌≡◌, take}
use Rattle.ring_core.specs.Product.{weight}
use Rattle.ring_core.proofs.elements.nonzeros.Given as goal

abbrev pub invariant-loop-number : goal.invariant-loop-number
invariant-loop-number l = l.count ≡ weight (take l.number-index l.list)
