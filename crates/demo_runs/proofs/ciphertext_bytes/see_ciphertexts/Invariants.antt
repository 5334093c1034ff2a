use Rattle.std.proofs.Common.{take}
use Rattle.demo_runs.specs.Ciphertexts.{AreCiphertexts}
use Rattle.demo_runs.proofs.ciphertext_bytes.see_ciphertexts.Given as goal

abbrev pub invariant-ciphertexts : goal.invariant-ciphertexts
invariant-ciphertexts l = AreCiphertexts (take l.ct-index l.cts)
