-- Both ends get the same session key, and other ciphertexts the rejection key.
use Rattle.std.proofs.Common.{◌≡◌, ℕ, ◌+◌, ◌*◌, ℤ, List, length, take, arith, ap, sym, ◌∙◌, bytes_eq}
use Rattle.std.proofs.lemmas.Bool.{cond-true}
use Rattle.std.proofs.lemmas.List.{take_at}
use Rattle.std.proofs.lemmas.Slice.Eq.{bytes_eq-Decides}
use Rattle.ring_core.specs.Sets.{Set}
use Rattle.radix_pack.specs.Codings.{small_encode}
use Rattle.radix_pack.proofs.ElementLaws.{length-rq_encode}
use Rattle.radix_pack.proofs.SmallLaws.{length-small_encode}
use Rattle.sntrup_core.specs.Laws.{IsShort}
use Rattle.sntrup_kem.specs.Sizes.{small_size, rounded_size, rho_words}
use Rattle.sntrup_kem.specs.Hashes.{hash_confirm, hash_session, key_hash}
use Rattle.sntrup_kem.specs.Kem.{IsGenerated, word_bytes, drawn_rho, drawn_r, ginv_part, rho_part, cache_part, ciphertext, hidden, enc_of, session_of, plaintext, decrypted_r, hidden_again, decapsulated}
use Rattle.sntrup_kem.specs.Laws.{DrawsShort, BothEndsAgree, HoldsItsPublicKey, AgreesToSession}
use Rattle.sntrup_kem.proofs.Parts.{Parts, parts_of}
use Rattle.sntrup_kem.proofs.Rounds.{IsSet, plaintext_back, length-ciphertext, IsShort-drawn_r}
use Rattle.sntrup_kem.proofs.Drawing.{length-word_bytes, length-front}

pub length-drawn_rho : (set : Set) (word : ℕ → ℕ) (place : ℕ) → length (drawn_rho set word place) ≡ small_size set
length-drawn_rho set word place =
    length-front (word_bytes word place (rho_words set)) (small_size set) (omega (arith, length-word_bytes word place (rho_words set)))

pub agrees_to_session : (set : Set) → AgreesToSession set
agrees_to_session set sk enc e =
    cond-true (bytes_eq (hidden_again set sk enc) enc) (hash_session 1 (small_encode set.p (decrypted_r set sk enc)) enc) (hash_session 0 (rho_part set sk) enc) ((bytes_eq-Decides (hidden_again set sk enc) enc).1 e)

-- the parts of a secret key that was generated
parts_generated : (set : Set) (word : ℕ → ℕ) (place j : ℕ) (pk sk : List ℕ) → (g : IsGenerated set word place j pk sk) → Parts set sk (small_encode set.p g.f) (small_encode set.p g.ginv) pk (key_hash pk)
parts_generated set word place j pk sk g =
    parts_of set sk (small_encode set.p g.f) (small_encode set.p g.ginv) pk (drawn_rho set word (place + (j + 2) * set.p)) (key_hash pk) (record {
      is = g.secret;
      f_count = length-small_encode set.p g.f;
      ginv_count = length-small_encode set.p g.ginv;
      public_count = ap length g.public ∙ length-rq_encode set g.h g.h_centred.0;
      rho_count = length-drawn_rho set word (place + (j + 2) * set.p);
    })

pub holds_public : (set : Set) → HoldsItsPublicKey set
holds_public set word place j pk sk g = (parts_generated set word place j pk sk g).public_is

decrypted_is : (set : Set) (word : ℕ → ℕ) (place j : ℕ) (pk sk : List ℕ) (r : List ℤ) → IsSet set → IsGenerated set word place j pk sk → IsShort set r → decrypted_r set sk (enc_of set pk r) ≡ r
decrypted_is set word place j pk sk r s g short =
    let parts = parts_generated set word place j pk sk g in
    let enc : List ℕ = enc_of set pk r in
    let f_enc : List ℕ = small_encode set.p g.f in
    let ginv_enc : List ℕ = small_encode set.p g.ginv in
    let first : List ℕ = take (rounded_size set) enc in
    ap (λ (t : List ℕ). plaintext set t (ginv_part set sk) first) parts.f_is
    ∙ ap (λ (t : List ℕ). plaintext set f_enc t first) parts.ginv_is
    ∙ ap (λ (t : List ℕ). plaintext set f_enc ginv_enc t) (take_at (ciphertext set pk r) (hash_confirm (small_encode set.p r) (key_hash pk)) (rounded_size set) (length-ciphertext set pk r s.least s.odd s.thirds))
    ∙ plaintext_back set word place j g.h g.f g.ginv r pk s g.key g.h_centred g.ginv_small g.public short

pub both_ends : (set : Set) → IsSet set → BothEndsAgree set
both_ends set s word place j pk sk r g short =
    let parts = parts_generated set word place j pk sk g in
    let enc : List ℕ = enc_of set pk r in
    let back : decrypted_r set sk enc ≡ r = decrypted_is set word place j pk sk r s g short in
    agrees_to_session set sk enc
    (ap (λ (t : List ℕ). hidden set t (cache_part set sk) (decrypted_r set sk enc)) parts.public_is
    ∙ ap (λ (t : List ℕ). hidden set pk t (decrypted_r set sk enc)) parts.cache_is
    ∙ ap (λ (t : List ℤ). hidden set pk (key_hash pk) t) back)
    ∙ ap (λ (t : List ℤ). hash_session 1 (small_encode set.p t) enc) back

pub draws_short : (set : Set) → IsSet set → DrawsShort set
draws_short set s word place = IsShort-drawn_r set word place s.weight

-- what the two ends of an exchange compute, from what the calls ensure
pub exchange_agrees : (set : Set) (word word' : ℕ → ℕ) (place place' j : ℕ) (pk sk sent received : List ℕ) → IsSet set → IsGenerated set word place j pk sk → sent ≡ session_of set pk (drawn_r set word' place') → received ≡ decapsulated set sk (enc_of set pk (drawn_r set word' place')) → received ≡ sent
exchange_agrees set word word' place place' j pk sk sent received s g es er =
    er
    ∙ both_ends set s word place j pk sk (drawn_r set word' place') g (draws_short set s word' place')
    ∙ sym es
