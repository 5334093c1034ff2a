-- The KEM of Streamlined NTRU Prime for a parameter set (NTRU Prime round 3, KeyGen with rho, Hide,
-- Encap and Decap). A byte string is a list of numbers below 256, a polynomial the list of its p
-- coefficients, from x^0 on.
use Rattle.std.specs.Prelude.{◌≡◌, ℕ, ◌+◌, ◌*◌, ℤ, List, ◌++◌, take, drop, flat_map, bytes_eq, if◌then◌else◌, ◌⊎◌}
use Rattle.std.specs.Int.{w32, to_le_bytes}
use Rattle.ring_core.specs.Product.{IsCentred}
use Rattle.ring_core.specs.Sets.{Set}
use Rattle.radix_pack.specs.Codings.{small_encode, small_decode, rq_encode, rq_decode, rounded_encode, rounded_decode, IsMalformed}
use Rattle.rand_words.specs.Samples.{short}
use Rattle.rand_words.specs.Words.{words_from}
use Rattle.sntrup_core.specs.Encryption.{encrypted, decrypted}
use Rattle.sntrup_core.specs.Keys.{IsKey}
use Rattle.sntrup_kem.specs.Sizes.{small_size, public_size, rounded_size, rho_words}
use Rattle.sntrup_kem.specs.Hashes.{hash_session, hash_confirm, key_hash}

-- ---- KeyGen, whose words are given by a place and by the word at each place

-- so many words from the place on as bytes, each its low byte first
unfoldable pub word_bytes : (ℕ → ℕ) → ℕ → ℕ → List ℕ
word_bytes word place count = flat_map (to_le_bytes w32) (words_from word place count)

-- rho: as many bytes as the small coding has, the first of its words
abbrev pub drawn_rho : Set → (ℕ → ℕ) → ℕ → List ℕ
drawn_rho set word place = take (small_size set) (word_bytes word place (rho_words set))

-- the secret key: f, 1/g, the public key, rho, and the hash of the public key
abbrev pub secret_key : Set → List ℤ → List ℤ → List ℕ → List ℕ → List ℕ
secret_key set f ginv pk rho =
    small_encode set.p f ++ small_encode set.p ginv ++ pk ++ rho ++ key_hash pk

-- the keys of draw j: those of KeyGen on the words from the place on, with rho from the words after
-- those of f
pub record IsGenerated (set : Set) (word : ℕ → ℕ) (place j : ℕ) (pk sk : List ℕ) : Type 0 where
  pub h : List ℤ
  pub f : List ℤ
  pub ginv : List ℤ
  pub key : IsKey set word place j h f ginv
  pub h_centred : IsCentred set.q set.p h
  pub ginv_small : IsCentred 3 set.p ginv
  pub public : pk ≡ rq_encode set h
  pub secret : sk ≡ secret_key set f ginv pk (drawn_rho set word (place + (j + 2) * set.p))

-- ---- the parts of a secret key

abbrev pub f_part : Set → List ℕ → List ℕ
f_part set sk = take (small_size set) sk

abbrev pub ginv_part : Set → List ℕ → List ℕ
ginv_part set sk = take (small_size set) (drop (small_size set) sk)

abbrev pub public_part : Set → List ℕ → List ℕ
public_part set sk = take (public_size set) (drop (2 * small_size set) sk)

abbrev pub rho_part : Set → List ℕ → List ℕ
rho_part set sk = take (small_size set) (drop (2 * small_size set + public_size set) sk)

-- the hash of the public key
abbrev pub cache_part : Set → List ℕ → List ℕ
cache_part set sk = drop (3 * small_size set + public_size set) sk

-- the coding of f or that of 1/g is none of a small polynomial. The public key, rho and the cache are
-- taken as they are.
abbrev pub HasMalformedPart : Set → List ℕ → Type 0
HasMalformedPart set sk = IsMalformed set.p (f_part set sk) ⊎ IsMalformed set.p (ginv_part set sk)

-- ---- Encap

-- r of an encapsulation: Short of the words from the place on
unfoldable pub drawn_r : Set → (ℕ → ℕ) → ℕ → List ℤ
drawn_r set word place = short set (words_from word place set.p)

-- the coding of the ciphertext of r: Encrypt, between the codings
unfoldable pub ciphertext : Set → List ℕ → List ℤ → List ℕ
ciphertext set pk r = rounded_encode set (encrypted set r (rq_decode set pk))

-- Hide: the encapsulation of r for a public key, of which the hash is given
abbrev pub hidden : Set → List ℕ → List ℕ → List ℤ → List ℕ
hidden set pk cache r = ciphertext set pk r ++ hash_confirm (small_encode set.p r) cache

-- the encapsulation of r, and the session key
abbrev pub enc_of : Set → List ℕ → List ℤ → List ℕ
enc_of set pk r = hidden set pk (key_hash pk) r

abbrev pub session_of : Set → List ℕ → List ℤ → List ℕ
session_of set pk r = hash_session 1 (small_encode set.p r) (enc_of set pk r)

-- ---- Decap

-- what the coding of a ciphertext decrypts to, with the codings of f and 1/g
unfoldable pub plaintext : Set → List ℕ → List ℕ → List ℕ → List ℤ
plaintext set f_enc ginv_enc c_enc =
    decrypted set (rounded_decode set c_enc) (small_decode set.p f_enc) (small_decode set.p ginv_enc)

-- r: what the first bytes of the encapsulation decrypt to
abbrev pub decrypted_r : Set → List ℕ → List ℕ → List ℤ
decrypted_r set sk enc =
    plaintext set (f_part set sk) (ginv_part set sk) (take (rounded_size set) enc)

-- what Hide makes of that r, with the public key and the cache of the secret key
abbrev pub hidden_again : Set → List ℕ → List ℕ → List ℕ
hidden_again set sk enc =
    hidden set (public_part set sk) (cache_part set sk) (decrypted_r set sk enc)

-- the session key where all bytes agree, and else the rejection key
abbrev pub chosen : List ℕ → List ℕ → List ℕ → List ℕ → List ℕ
chosen again r_enc rho enc =
    if bytes_eq again enc then hash_session 1 r_enc enc else hash_session 0 rho enc

abbrev pub decapsulated : Set → List ℕ → List ℕ → List ℕ
decapsulated set sk enc =
    chosen (hidden_again set sk enc) (small_encode set.p (decrypted_r set sk enc)) (rho_part set sk) enc

-- ---- for the proofs

-- the codings of a key of KeyGen
pub record Coding (set : Set) (word : ℕ → ℕ) (place j : ℕ) (pk f_enc ginv_enc : List ℕ) : Type 0 where
  pub h : List ℤ
  pub f : List ℤ
  pub ginv : List ℤ
  pub key : IsKey set word place j h f ginv
  pub h_centred : IsCentred set.q set.p h
  pub ginv_small : IsCentred 3 set.p ginv
  pub public : pk ≡ rq_encode set h
  pub f_is : f_enc ≡ small_encode set.p f
  pub ginv_is : ginv_enc ≡ small_encode set.p ginv

unfoldable pub IsCodedKey : Set → (ℕ → ℕ) → ℕ → ℕ → List ℕ → List ℕ → List ℕ → Type 0
IsCodedKey set word place j pk f_enc ginv_enc = Coding set word place j pk f_enc ginv_enc
