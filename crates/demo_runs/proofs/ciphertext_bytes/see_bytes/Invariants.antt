use Rattle.std.proofs.Common.{ℕ, ◌<◌}
use Rattle.std.specs.Prelude.{slice_index}
use Rattle.demo_runs.proofs.ciphertext_bytes.see_bytes.Given as goal

abbrev pub invariant-bytes : goal.invariant-bytes
invariant-bytes l = (i : ℕ) → i < l.byte-index → slice_index l.bytes i < 256
