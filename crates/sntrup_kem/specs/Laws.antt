-- Both ends get the same session key, and every other ciphertext gets the rejection key.
use Rattle.std.specs.Prelude.{◌≡◌, ◌≢◌, ℕ, ◌+◌, ◌*◌, ℤ, List}
use Rattle.ring_core.specs.Sets.{Set}
use Rattle.radix_pack.specs.Codings.{small_encode}
use Rattle.sntrup_core.specs.Keys.{FindsG}
use Rattle.sntrup_core.specs.Laws.{IsShort}
use Rattle.sntrup_kem.specs.Sizes.{rho_words}
use Rattle.sntrup_kem.specs.Hashes.{hash_session}
use Rattle.sntrup_kem.specs.Kem.{IsGenerated, drawn_r, public_part, rho_part, enc_of, session_of, decrypted_r, hidden_again, decapsulated}

-- the r of each encapsulation is short
abbrev pub DrawsShort : Set → Type 0
DrawsShort set = (word : ℕ → ℕ) (place : ℕ) → IsShort set (drawn_r set word place)

-- with each pair of keys that was generated, what was encapsulated for the public key is
-- decapsulated with the secret key to the same session key
abbrev pub BothEndsAgree : Set → Type 0
BothEndsAgree set =
    (word : ℕ → ℕ) (place j : ℕ) (pk sk : List ℕ) (r : List ℤ) → IsGenerated set word place j pk sk → IsShort set r → decapsulated set sk (enc_of set pk r) ≡ session_of set pk r

-- the public key in a secret key that was generated is that of its pair
abbrev pub HoldsItsPublicKey : Set → Type 0
HoldsItsPublicKey set =
    (word : ℕ → ℕ) (place j : ℕ) (pk sk : List ℕ) → IsGenerated set word place j pk sk → public_part set sk ≡ pk

-- the bytes are those that Hide makes of the r that was decrypted
abbrev pub AgreesToSession : Set → Type 0
AgreesToSession set =
    (sk enc : List ℕ) → hidden_again set sk enc ≡ enc → decapsulated set sk enc ≡ hash_session 1 (small_encode set.p (decrypted_r set sk enc)) enc

-- they are others
abbrev pub RejectsOthers : Set → Type 0
RejectsOthers set =
    (sk enc : List ℕ) → hidden_again set sk enc ≢ enc → decapsulated set sk enc ≡ hash_session 0 (rho_part set sk) enc

-- the session key of an exchange: a pair of keys is generated on the words from the place on, and r
-- is drawn from the words after those of rho
abbrev pub IsExchanged : Set → (ℕ → ℕ) → ℕ → List ℕ → Type 0
IsExchanged set word place key =
    (j : ℕ) × (pk : List ℕ) × (sk : List ℕ) × FindsG set word place j × IsGenerated set word place j pk sk × (key ≡ session_of set pk (drawn_r set word (place + (j + 2) * set.p + rho_words set)))
