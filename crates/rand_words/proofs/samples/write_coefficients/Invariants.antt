use Rattle.std.proofs.Common.{◌≡◌, ℕ, ◌<◌, pos}
use Rattle.std.specs.Prelude.{slice_index_or, slice_index}
use Rattle.rand_words.specs.Samples.{short_coefficient}
use Rattle.rand_words.proofs.samples.write_coefficients.Given as goal

abbrev pub invariant-loop-i : goal.invariant-loop-i
invariant-loop-i l = (k : ℕ) → k < l.i → slice_index_or l.list k (pos 0) ≡ short_coefficient (slice_index l.words k)
