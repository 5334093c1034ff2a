use Rattle.std.proofs.Common.{arith}
use Rattle.demo_runs.proofs.Seen.{seen_more}
use Rattle.demo_runs.proofs.ciphertext_bytes.see_ciphertexts.Goals as goal

pub ciphertexts-preserved : goal.ciphertexts-preserved
ciphertexts-preserved c =
    seen_more c.args.cts.now c.ciphertexts.ct-index _ (omega arith) c.see_bytes.ensures
    (c.told-cts c.ciphertexts.ct-index (omega arith)) c.ciphertexts.invariant
