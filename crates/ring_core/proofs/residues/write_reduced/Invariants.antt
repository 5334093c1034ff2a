use Rattle.std.proofs.Common.{◌≡◌, map, take}
use Rattle.std.specs.Prelude.{unsigned_abs}
use Rattle.std.specs.List.{range_with_len}
use Rattle.ring_core.specs.Product.{centred, wrapped, coefficients}
use Rattle.ring_core.proofs.residues.write_reduced.Given as goal

abbrev pub invariant-loop-k : goal.invariant-loop-k
invariant-loop-k l = take l.k l.list ≡ map (λ k. centred (unsigned_abs l.modulus) (wrapped l.n (coefficients l.sums) k)) (range_with_len 0 l.k)
