-- What contracts see of a `Mac`: the KDF, the key and the message so far. A reader need not look
-- into `IsKeyed`. The contracts of `new`, `update` and `finish` say all of it: a `Mac` that was made
-- with a key and fed with pieces ends in the HMAC of the pieces joined.
use Rattle.std.specs.Prelude.{◌≡◌, ℕ, List, ◌++◌}
use Rattle.hkdf_labelled.specs.Hashers.{kdf_of, Took}
use Rattle.hkdf_labelled.specs.Hmac.{inner_block, outer_block}
use Rattle.hkdf_labelled.specs.declared.macs.Mac.{Mac}
use Rattle.hkdf_labelled.specs.declared.suites.Kdf.{Kdf}

-- ---- for the proofs

-- the state is on its way to the HMAC under a key, and has taken in this message
pub record IsKeyed (mac : Mac) (kdf : Kdf) (key m : List ℕ) : Type 0 where
  pub inner_kdf : kdf_of mac.inner ≡ kdf
  pub outer_kdf : kdf_of mac.outer ≡ kdf
  pub inner : Took mac.inner (inner_block kdf key ++ m)
  pub outer : Took mac.outer (outer_block kdf key)
