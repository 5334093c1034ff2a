-- The sizes of the byte strings of a parameter set, in bytes (NTRU Prime round 3, parameter sets).
use Rattle.std.specs.Prelude.{ℕ, ◌+◌, ◌*◌, ◌/◌}
use Rattle.ring_core.specs.Sets.{Set}
use Rattle.radix_pack.specs.Codings.{small_length, rq_length, rounded_length}

-- the coding of a small polynomial; rho has this size too
abbrev pub small_size : Set → ℕ
small_size set = small_length set.p

-- a public key: the coding of h, which is Encode of p digits below q
abbrev pub public_size : Set → ℕ
public_size set = rq_length set

-- a hash, and a session key
abbrev pub hash_size : ℕ
hash_size = 32

-- the coding of a rounded element, which is Encode of p digits below (q + 2) / 3
abbrev pub rounded_size : Set → ℕ
rounded_size set = rounded_length set

-- an encapsulation: the coding of a rounded element and a hash
abbrev pub enc_size : Set → ℕ
enc_size set = rounded_size set + hash_size

-- a secret key: the codings of f and 1/g, the public key, rho, and the hash of the public key
abbrev pub secret_size : Set → ℕ
secret_size set = 3 * small_size set + public_size set + hash_size

-- how many words rho is made of, each 4 bytes
abbrev pub rho_words : Set → ℕ
rho_words set = (small_size set + 3) / 4
