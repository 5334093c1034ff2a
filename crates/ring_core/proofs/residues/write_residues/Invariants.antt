use Rattle.std.proofs.Common.{◌≡◌, map, take}
use Rattle.std.specs.Prelude.{unsigned_abs}
use Rattle.ring_core.specs.Product.{centred}
use Rattle.ring_core.proofs.residues.write_residues.Given as goal

abbrev pub invariant-loop-k : goal.invariant-loop-k
invariant-loop-k l = take l.k l.list ≡ map (λ z. centred (unsigned_abs l.modulus) z) (take l.k l.numbers)
