use Rattle.std.proofs.Common.{take}
use Rattle.std.specs.List.{concat}
use Rattle.sha2.specs.Hashers.{Holds256}
use Rattle.demo_runs.proofs.reports.hash_of.Given as goal

abbrev pub invariant-ciphertexts : goal.invariant-ciphertexts
invariant-ciphertexts l = Holds256 l.hasher (concat (take l.ct-index l.cts))
