use Rattle.std.proofs.Common.{◌≡◌, ◌+◌, ◌≤◌, ◌<◌, ℕ, zero, suc, List, [], ◌∷◌, false, get_or, arith}
use Rattle.call_places.specs.Messages.{sealed_message}
use Rattle.key_schedule.specs.Nonces.{compute_nonce}
use Rattle.speculative_open.proofs.Verdicts.{row_of_four, opens_is}
use Rattle.speculative_open.proofs.rows.Opener.row.Goals as goal

pub returns : goal.returns
returns c =
    let self = c.args.self.now in
    let x = sealed_message self.pool.now c.args.item in
    let nonces : List (List ℕ) = c.nonce.result ∷ c.nonce-2.result ∷ c.nonce-3.result ∷ c.nonce-4.result ∷ [] in
    let told : (k : ℕ) → k < 4 → (n : ℕ) → n + k ≡ self.guess + c.args.i → n ≤ self.limit → get_or nonces k [] ≡ compute_nonce self.base_nonce.now n =
    four (λ k. (n : ℕ) → n + k ≡ self.guess + c.args.i → n ≤ self.limit → get_or nonces k [] ≡ compute_nonce self.base_nonce.now n)
    c.nonce.ensures c.nonce-2.ensures c.nonce-3.ensures c.nonce-4.ensures in
    row_of_four self.guess self.limit self.key.now self.base_nonce.now c.args.i x c.hold_at.result
    (λ k K n e l w.
    opens_is self.key.now self.base_nonce.now n x c.of-aad.result.now c.of-text.result.now (get_or nonces k []) (get_or c.hold_at.result k false)
    c.of-aad.ensures c.of-text.ensures (told k K n e w) (c.hold_at.ensures k K))
  where
    four : (P : ℕ → Type 0) → P 0 → P 1 → P 2 → P 3 → (k : ℕ) → k < 4 → P k
    four P a b c d zero K = a
    four P a b c d (suc zero) K = b
    four P a b c d (suc (suc zero)) K = c
    four P a b c d (suc (suc (suc zero))) K = d
    four P a b c d (suc (suc (suc (suc k)))) K = absurd (omega arith)
