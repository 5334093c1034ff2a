-- What was sealed opens, by cases.
use Rattle.std.proofs.Common.{◌≡◌, ◌≤◌, ◌+◌, ◌-◌, ◌↔◌, ℕ, true, false, IsTrue, List, length, inl, inr, arith, ap, ◌∙◌, length-append}
use Rattle.std.proofs.lemmas.List.{length-take-le}
use Rattle.hkdf_labelled.specs.declared.suites.Aead.{Aead}
use Rattle.hkdf_labelled.specs.declared.suites.Aead.TheVariants.{Aes128, Aes256, ExportOnly}
use Rattle.hkdf_labelled.specs.Suites.{encrypts, parameters}
use Rattle.aes_block.specs.Cipher.{IsKey}
use Rattle.aes_block.proofs.Lengths.{length-cipher}
use Rattle.aes_gcm.specs.Gcm as gcm
use Rattle.aes_gcm.specs.Gcm.{body}
use Rattle.aes_gcm.proofs.Opening as gcm_opening
use Rattle.hpke_aead.specs.declared.keys.AeadKey.{AeadKey}
use Rattle.hpke_aead.specs.declared.keys.AeadKey.TheVariants.{Gcm}
use Rattle.hpke_aead.specs.Aeads.{key_of, seal, Holds, clear}
use Rattle.hpke_aead.proofs.Tags.{tag_holds-is}

-- a key of the length that its cipher asks for
abbrev pub IsWhole : AeadKey → Type 0
IsWhole (Gcm key) = gcm_opening.IsWhole key

pub key_is_whole : (aead : Aead) (bytes : List ℕ) → IsTrue (encrypts aead) → length bytes ≡ (parameters aead).key_size
    → IsWhole (key_of aead bytes)
key_is_whole Aes128 bytes can size = λ block. length-cipher bytes block (inl size)
key_is_whole Aes256 bytes can size = λ block. length-cipher bytes block (inr size)
key_is_whole ExportOnly bytes can size = absurd (let no : false ≡ true = can in cc)

pub seal-holds : (key : AeadKey) (nonce aad text : List ℕ) → IsWhole key → Holds key nonce aad (seal key nonce aad text)
seal-holds (Gcm key) nonce aad text whole = gcm_opening.seal-holds key nonce aad text whole

pub seal-clear : (key : AeadKey) (nonce aad text : List ℕ) → IsWhole key → clear key nonce (seal key nonce aad text) ≡ text
seal-clear (Gcm key) nonce aad text whole = gcm_opening.seal-clear key nonce aad text whole

pub length-seal : (key : AeadKey) (nonce aad text : List ℕ) → IsWhole key → length (seal key nonce aad text) ≡ length text + 16
unfolding gcm.seal
length-seal (Gcm key) nonce aad text whole =
    let ct = gcm.gctr key nonce text in
    let tag = gcm.tag_of key nonce aad ct in
    omega (
      arith,
      length-append ct tag,
      gcm_opening.length-gctr key nonce text whole,
      gcm_opening.length-tag_of key nonce aad ct whole,
    )

pub length-clear : (key : AeadKey) (nonce ct : List ℕ) → IsWhole key → length (clear key nonce ct) ≡ length ct - 16
unfolding gcm.clear
length-clear (Gcm key) nonce ct whole =
    gcm_opening.length-gctr key nonce (body ct) whole ∙ length-take-le (length ct - 16) ct (omega arith)

-- where Open doesn't fail there is a tag
pub holds-long : (key : AeadKey) (nonce aad ct : List ℕ) → Holds key nonce aad ct → 16 ≤ length ct
holds-long (Gcm key) nonce aad ct holds = holds.long

pub opens-holds : (aead : Aead) (bytes nonce aad text : List ℕ) → IsTrue (encrypts aead)
    → length bytes ≡ (parameters aead).key_size
    → Holds (key_of aead bytes) nonce aad (seal (key_of aead bytes) nonce aad text)
opens-holds aead bytes nonce aad text can size =
    seal-holds (key_of aead bytes) nonce aad text (key_is_whole aead bytes can size)

pub opens-text : (aead : Aead) (bytes nonce aad text : List ℕ) → IsTrue (encrypts aead)
    → length bytes ≡ (parameters aead).key_size
    → clear (key_of aead bytes) nonce (seal (key_of aead bytes) nonce aad text) ≡ text
opens-text aead bytes nonce aad text can size =
    seal-clear (key_of aead bytes) nonce aad text (key_is_whole aead bytes can size)

pub ruleset opens = (opens-holds, opens-text, tag_holds-is)
