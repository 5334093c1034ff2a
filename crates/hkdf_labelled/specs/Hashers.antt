-- What contracts see of a hasher: its hash function, and the message that it has taken in.
use Rattle.std.specs.Prelude.{ℕ, List}
use Rattle.sha2.specs.Hashers.{Holds256, Holds384, Holds512}
use Rattle.hkdf_labelled.specs.declared.suites.Kdf.{Kdf}
use Rattle.hkdf_labelled.specs.declared.suites.Kdf.TheVariants.{Sha256, Sha384, Sha512}
use Rattle.hkdf_labelled.specs.declared.hashers.Hasher.{Hasher}
use Rattle.hkdf_labelled.specs.declared.hashers.Hasher.TheVariants.{Of256, Of384, Of512}

-- ---- for the proofs

-- the KDF whose hash function it is
abbrev pub kdf_of : Hasher → Kdf
kdf_of (Of256 _) = Sha256
kdf_of (Of384 _) = Sha384
kdf_of (Of512 _) = Sha512

-- the hasher has taken in this message
abbrev pub Took : Hasher → List ℕ → Type 0
Took (Of256 hasher) m = Holds256 hasher m
Took (Of384 hasher) m = Holds384 hasher m
Took (Of512 hasher) m = Holds512 hasher m
