-- ---- for the proofs: what the type of ciphertexts says of each
use Rattle.std.specs.Prelude.{◌≡◌, ℕ, List, [], ◌∷◌, length}
use Rattle.hex.specs.Hex.{IsBytes}

-- so many bytes as 64 bytes of text and the tag have
pub record IsCiphertext (ct : List ℕ) : Type 0 where
  pub are : IsBytes ct
  pub size : length ct ≡ 80

abbrev pub AreCiphertexts : List (List ℕ) → Type 0
AreCiphertexts [] = Unit {0}
AreCiphertexts (ct ∷ cts) = IsCiphertext ct × AreCiphertexts cts
