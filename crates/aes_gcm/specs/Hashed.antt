-- What contracts see of a ciphertext that was hashed.
use Rattle.std.specs.Prelude.{ℕ, List}

-- a ciphertext with its associated data, and the key that it is checked with
pub record HashedView : Type 0 where
  pub key : List ℕ
  pub aad : List ℕ
  pub ct : List ℕ
