-- A pair of keys that was generated from a source's first word on.
use Rattle.std.proofs.Common.{◌≡◌, ℕ, List, sym, subst}
use Rattle.ring_core.specs.Sets.{Set}
use Rattle.sntrup_core.specs.Keys.{FindsG}
use Rattle.sntrup_kem.specs.Kem.{IsGenerated}
use Rattle.library_calls.specs.Keys.{IsPair}

pub is_pair : (set : Set) (word : ℕ → ℕ) (place j : ℕ) (pk sk public secret : List ℕ)
    → place ≡ 0 → FindsG set word place j → IsGenerated set word place j pk sk → public ≡ pk
    → secret ≡ sk → IsPair set word public secret
unfolding IsPair
is_pair set word place j pk sk public secret start found made public_is secret_is =
    let from_start : IsGenerated set word 0 j pk sk =
    subst (λ n. IsGenerated set word n j pk sk) start made in
    let with_public : IsGenerated set word 0 j public sk =
    subst (λ p. IsGenerated set word 0 j p sk) (sym public_is) from_start in
    (j, subst (λ n. FindsG set word n j) start found, subst (λ s. IsGenerated set word 0 j public s) (sym secret_is) with_public)
