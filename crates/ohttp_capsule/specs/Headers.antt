-- Key identifiers and algorithms (RFC 9458, 4.1 and 4.3). A byte string is a list of numbers below
-- 256; sizes are in bytes.
use Rattle.std.specs.Prelude.{◌≡◌, ℕ, List, [], ◌∷◌, ◌++◌, find, bytes_eq, codes, IsTrue, Option}
use Rattle.byte_strings.specs.Bytes.{i2osp}
use Rattle.hkdf_labelled.specs.Suites.{kdf_id, aead_id, encrypts}
use Rattle.hkdf_labelled.specs.declared.suites.Suite.{Suite}
use Rattle.hkdf_labelled.specs.declared.suites.Kdf.TheVariants as kdfs
use Rattle.hkdf_labelled.specs.declared.suites.Aead.TheVariants as aeads

-- the size of hdr: one byte for the key identifier, and two for each of the three algorithms
abbrev pub header_size : ℕ
header_size = 7

-- hdr: key_id, kem_id, kdf_id and aead_id (RFC 9458, 4.3)
abbrev pub header : ℕ → Suite → List ℕ
header key_id suite =
    i2osp key_id 1 ++ i2osp suite.kem 2 ++ i2osp (kdf_id suite.kdf) 2 ++ i2osp (aead_id suite.aead) 2

-- info: the media type of a request, a zero byte, and hdr (RFC 9458, 4.3)
abbrev pub request_info : ℕ → Suite → List ℕ
request_info key_id suite = codes "message/bhttp request" ++ i2osp 0 1 ++ header key_id suite

-- the algorithms that go with a KEM here: each KDF, with each AEAD that encrypts
unfoldable pub suites_of : ℕ → List Suite
suites_of kem =
    record { kem = kem; kdf = kdfs.Sha256; aead = aeads.Aes128 }
    ∷ record { kem = kem; kdf = kdfs.Sha256; aead = aeads.Aes256 }
    ∷ record { kem = kem; kdf = kdfs.Sha384; aead = aeads.Aes128 }
    ∷ record { kem = kem; kdf = kdfs.Sha384; aead = aeads.Aes256 }
    ∷ record { kem = kem; kdf = kdfs.Sha512; aead = aeads.Aes128 }
    ∷ record { kem = kem; kdf = kdfs.Sha512; aead = aeads.Aes256 }
    ∷ []

-- the algorithms that a header names to the key of this identifier and KEM
abbrev pub suite_named : ℕ → ℕ → List ℕ → Option Suite
suite_named key_id kem bytes = find (λ suite. bytes_eq (header key_id suite) bytes) (suites_of kem)

-- the bytes are hdr with this KEM and this identifier, and with algorithms that encrypt. A header
-- names one suite at most
pub record Names (key_id kem : ℕ) (bytes : List ℕ) (suite : Suite) : Type 0 where
  pub kem_is : suite.kem ≡ kem
  pub encrypts_is : IsTrue (encrypts suite.aead)
  pub header_is : header key_id suite ≡ bytes
