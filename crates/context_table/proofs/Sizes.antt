-- An encapsulation has its length.
use Rattle.std.proofs.Common.{◌≡◌, ℕ, ℤ, List, ◌∷◌, ◌++◌, length, ◌∙◌, arith, length-append}
use Rattle.std.proofs.lemmas.List.{length-map, length-take-le}
use Rattle.std.proofs.lemmas.List.FromFn.{length-map-range_with_len}
use Rattle.sha2.specs.Sha512.{sha512}
use Rattle.sha2.proofs.Facts512.{length-sha512}
use Rattle.ring_core.specs.Product.{product, centred, wrapped, conv, coefficients}
use Rattle.ring_core.specs.Sets.{Set}
use Rattle.radix_pack.specs.Codings.{rq_decode, small_encode}
use Rattle.radix_pack.proofs.ElementLaws.{length-rounded_encode}
use Rattle.sntrup_core.specs.Encryption.{rounded, encrypted}
use Rattle.sntrup_kem.specs.Sizes.{hash_size, rounded_size, enc_size}
use Rattle.sntrup_kem.specs.Hashes.{hash, hash_confirm, key_hash}
use Rattle.sntrup_kem.specs.Kem.{ciphertext, enc_of}

length-hash : (b : ℕ) (x : List ℕ) → length (hash b x) ≡ hash_size
unfolding hash
length-hash b x = length-take-le 32 (sha512 (b ∷ x)) (omega (arith, length-sha512 (b ∷ x)))

length-encrypted : (set : Set) (r h : List ℤ) → length (encrypted set r h) ≡ set.p
length-encrypted set r h =
    length-map (product set.q set.p h r) rounded
    ∙ length-map-range_with_len
    (λ k. centred set.q (wrapped set.p (conv (coefficients h) (coefficients r)) k)) 0 set.p

length-ciphertext : (set : Set) (pk : List ℕ) (r : List ℤ)
    → length (ciphertext set pk r) ≡ rounded_size set
unfolding ciphertext
length-ciphertext set pk r =
    length-rounded_encode set (encrypted set r (rq_decode set pk))
    (length-encrypted set r (rq_decode set pk))

pub length-enc_of : (set : Set) (pk : List ℕ) (r : List ℤ) → length (enc_of set pk r) ≡ enc_size set
length-enc_of set pk r =
    let confirm = hash_confirm (small_encode set.p r) (key_hash pk) in
    omega (
      arith,
      length-append
          (ciphertext set pk r) confirm,
      length-ciphertext set pk r,
      length-hash 2
          (hash 3 (small_encode set.p r) ++ key_hash pk),
    )
