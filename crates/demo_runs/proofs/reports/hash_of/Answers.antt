use Rattle.std.proofs.Common.{ℕ, take, sym, subst, arith}
use Rattle.std.specs.List.{concat}
use Rattle.sha2.specs.Hashers.{Holds256}
use Rattle.demo_runs.proofs.Hashes.{concat_more}
use Rattle.demo_runs.proofs.reports.hash_of.Goals as goal

pub ciphertexts-preserved : goal.ciphertexts-preserved
ciphertexts-preserved c =
    let i : ℕ = c.ciphertexts.ct-index in
    let step = c.update.ensures (concat (take i c.args.cts.now)) c.ciphertexts.invariant in
    subst (Holds256 c.update.new.self) (sym (concat_more c.args.cts.now i (omega arith))) step
