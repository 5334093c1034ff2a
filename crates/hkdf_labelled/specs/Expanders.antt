-- What contracts see of an `Expander`.
use Rattle.std.specs.Prelude.{ℕ, List}
use Rattle.hkdf_labelled.specs.declared.suites.Kdf.{Kdf}

-- a KDF, and a PRK to expand (RFC 5869, 2.3)
pub record ExpanderView : Type 0 where
  pub kdf : Kdf
  pub prk : List ℕ
