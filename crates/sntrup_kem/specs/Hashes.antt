-- The hashes of Streamlined NTRU Prime (NTRU Prime round 3, Hash, HashConfirm and HashSession). A
-- byte string is a list of numbers below 256.
use Rattle.std.specs.Prelude.{ℕ, List, ◌∷◌, ◌++◌, take}
use Rattle.sha2.specs.Sha512.{sha512}
use Rattle.sntrup_kem.specs.Sizes.{hash_size}

-- Hash_b(x): the first 32 bytes of SHA-512 of the byte b and x
unfoldable pub hash : ℕ → List ℕ → List ℕ
hash b x = take hash_size (sha512 (b ∷ x))

-- the hash of a public key, Hash_4(K), which its secret key has as its cache
abbrev pub key_hash : List ℕ → List ℕ
key_hash pk = hash 4 pk

-- HashConfirm(r, K), of the coding of r and the cache
abbrev pub hash_confirm : List ℕ → List ℕ → List ℕ
hash_confirm r_enc cache = hash 2 (hash 3 r_enc ++ cache)

-- HashSession(b, y, C): b is 1 for the coding y of r, and 0 for the rejection with y = rho
abbrev pub hash_session : ℕ → List ℕ → List ℕ → List ℕ
hash_session b y ct = hash b (hash 3 y ++ ct)
