-- DHKEM(X25519, HKDF-SHA256) (RFC 9180, 4.1 and 7.1). A byte string is a list of numbers below 256. Keys,
-- encapsulations and shared secrets have 32 bytes each.
use Rattle.std.specs.Prelude.{◌≡◌, ℕ, Bool, List, [], ◌++◌, codes, replicate, flat_map, bytes_eq, if◌then◌else◌, Option, Some, None}
use Rattle.std.specs.Int.{w32, to_le_bytes}
use Rattle.byte_strings.specs.Bytes.{i2osp}
use Rattle.hkdf_labelled.specs.Labels.{labeled_extract_with, labeled_expand_with}
use Rattle.hkdf_labelled.specs.declared.suites.Kdf.TheVariants.{Sha256}
use Rattle.rand_words.specs.Words.{words_from}
use Rattle.x25519.specs.Ladder.{x25519}
use Rattle.x25519.specs.Laws.{base}
use Rattle.x25519.specs.Scalars.{clamped}
use Rattle.x25519_kem.specs.declared.exchanges.Encapsulation.{Encapsulation}

-- kem_id (RFC 9180, 7.1)
abbrev pub kem_id : ℕ
kem_id = 0x0020

-- Nsk and Nsecret (RFC 9180, 7.1)
abbrev pub secret_size : ℕ
secret_size = 32

-- suite_id: "KEM", I2OSP(kem_id, 2) (RFC 9180, 4.1)
abbrev pub suite_id : List ℕ
suite_id = codes "KEM" ++ i2osp kem_id 2

-- ---- key pairs

-- pk(sk): the public key of a secret key (RFC 9180, 4)
abbrev pub public_key : List ℕ → List ℕ
public_key sk = x25519 sk base

-- DeriveKeyPair(ikm): the secret key (RFC 9180, 7.1.3)
abbrev pub derived : List ℕ → List ℕ
derived ikm =
    let dkp_prk = labeled_extract_with Sha256 suite_id [] (codes "dkp_prk") ikm in
    labeled_expand_with Sha256 suite_id dkp_prk (codes "sk") [] secret_size

-- so many words from the place on as bytes, each its low byte first
unfoldable pub word_bytes : (ℕ → ℕ) → ℕ → ℕ → List ℕ
word_bytes word place count = flat_map (to_le_bytes w32) (words_from word place count)

-- GenerateKeyPair() (RFC 9180, 4): the secret key, of the eight words from the place on. It is clamped, as
-- SerializePrivateKey has it (RFC 9180, 7.1.2).
abbrev pub generated : (ℕ → ℕ) → ℕ → List ℕ
generated word place = clamped (word_bytes word place 8)

-- ---- exchanges

-- DH(sk, pk), and that it is 0 in each byte, which Encap and Decap refuse (RFC 9180, 4.1 and 7.1.4)
abbrev pub IsZeroDh : List ℕ → List ℕ → Type 0
IsZeroDh sk pk = x25519 sk pk ≡ replicate 32 0

abbrev pub is_zero : List ℕ → Bool
is_zero dh = bytes_eq dh (replicate 32 0)

-- ExtractAndExpand(dh, kem_context) (RFC 9180, 4.1)
abbrev pub extract_and_expand : List ℕ → List ℕ → List ℕ
extract_and_expand dh kem_context =
    let eae_prk = labeled_extract_with Sha256 suite_id [] (codes "eae_prk") dh in
    labeled_expand_with Sha256 suite_id eae_prk (codes "shared_secret") kem_context secret_size

-- Encap(pkR), with the ephemeral key of the words from the place on; none where DH is zero
-- (RFC 9180, 4.1)
abbrev pub encapsulated : (ℕ → ℕ) → ℕ → List ℕ → Option Encapsulation
encapsulated word place pkR =
    let skE = generated word place in
    let dh = x25519 skE pkR in
    let enc = public_key skE in
    if is_zero dh then None
    else Some (record { enc = enc; shared_secret = extract_and_expand dh (enc ++ pkR) })

-- Decap(enc, skR): the shared secret; none where DH is zero (RFC 9180, 4.1)
abbrev pub decapsulated : List ℕ → List ℕ → Option (List ℕ)
decapsulated skR enc =
    let dh = x25519 skR enc in
    if is_zero dh then None else Some (extract_and_expand dh (enc ++ public_key skR))
