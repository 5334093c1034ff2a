use Rattle.std.proofs.Common.{◌≡◌, ℕ, ◌+◌, ◌*◌, ◌<◌, ◌≤◌, pos, length}
use Rattle.ring_core.specs.Product.{coefficients}
use Rattle.ring_lanes.proofs.padding.write_eightfold.Given as goal

abbrev pub invariant-loop-i : goal.invariant-loop-i
invariant-loop-i l = (length l.copies ≡ length l.initial.copies) × ((i j : ℕ) → i < l.i → j < 8 → coefficients l.copies (8 * i + j) ≡ coefficients l.list i) × ((k : ℕ) → 8 * l.i ≤ k → coefficients l.copies k ≡ pos 0)
