-- The ciphertext of r decrypts to r, for any parameter set.
use Rattle.std.proofs.Common.{◌≡◌, ℕ, ◌-◌, ◌*◌, ◌/◌, ◌%◌, ◌<◌, ◌≤◌, ℤ, List, length, arith, ap, ◌∙◌, refl}
use Rattle.std.specs.Prelude.{unsigned_abs}
use Rattle.std.proofs.lemmas.Int.{ints}
use Rattle.ring_core.specs.Product.{coefficients, centred, product, IsCentred}
use Rattle.ring_core.specs.Sets.{Set}
use Rattle.ring_core.proofs.ElementLaws.{IsCentred-product, map_at}
use Rattle.ring_core.proofs.ResidueLaws.{SameModulo, modulo_centred}
use Rattle.radix_pack.specs.Codings.{small_encode, small_decode, rq_encode, rq_decode, rounded_encode, rounded_decode, rounded_length, AreMultiplesOf3}
use Rattle.radix_pack.proofs.ElementLaws.{rq_source, rounded_source, length-rounded_encode}
use Rattle.radix_pack.proofs.SmallLaws.{small_source}
use Rattle.rand_words.specs.Words.{words_from}
use Rattle.rand_words.proofs.MarkLaws.{weight-short}
use Rattle.rand_words.proofs.SampleLaws.{IsCentred-short_words, length-words_from}
use Rattle.sntrup_core.specs.Encryption.{rounded, encrypted, decrypted}
use Rattle.sntrup_core.specs.Keys.{IsKey}
use Rattle.sntrup_core.specs.Laws.{IsShort}
use Rattle.sntrup_core.proofs.Residues.{IsCentred-rounded}
use Rattle.sntrup_core.proofs.Decryption.{decrypts, IsShort-drawn}
use Rattle.sntrup_kem.specs.Kem.{drawn_r, ciphertext, plaintext}

rounded_thirds : (z : ℤ) → unsigned_abs (rounded z) % 3 ≡ 0
rounded_thirds z =
    let s : SameModulo 3 (centred 3 z) z = modulo_centred 3 z (omega arith) in
    omega (arith, ints, s.is)

pub AreMultiplesOf3-encrypted : (set : Set) (r h : List ℤ) → AreMultiplesOf3 (encrypted set r h)
AreMultiplesOf3-encrypted set r h k =
    ap (λ z. unsigned_abs z % 3) (map_at rounded (product set.q set.p h r) refl k)
    ∙ rounded_thirds (coefficients (product set.q set.p h r) k)

IsCentred-encrypted : (set : Set) (r h : List ℤ) → 2 < set.q → set.q % 2 ≡ 1 → (set.q - 1) / 2 % 3 ≡ 0 → IsCentred set.q set.p (encrypted set r h)
IsCentred-encrypted set r h least odd thirds =
    IsCentred-rounded set.q set.p (product set.q set.p h r) (omega arith) odd thirds
    (IsCentred-product set.q set.p h r (product set.q set.p h r) (omega arith) refl)

pub length-ciphertext : (set : Set) (pk : List ℕ) (r : List ℤ) → 2 < set.q → set.q % 2 ≡ 1 → (set.q - 1) / 2 % 3 ≡ 0 → length (ciphertext set pk r) ≡ rounded_length set
unfolding ciphertext
length-ciphertext set pk r least odd thirds =
    let h : List ℤ = rq_decode set pk in
    let c = IsCentred-encrypted set r h least odd thirds in
    length-rounded_encode set (encrypted set r h) c.0

-- what is taken for granted of a parameter set
pub record IsSet (set : Set) : Type 0 where
  pub degree : 2 ≤ set.p
  pub least : 2 < set.q
  pub most : set.q < 16384
  pub odd : set.q % 2 ≡ 1
  pub thirds : (set.q - 1) / 2 % 3 ≡ 0
  pub weight : set.w ≤ set.p
  pub bound : 8 * set.w ≤ (set.q - 1) / 2

pub plaintext_back : (set : Set) (word : ℕ → ℕ) (place j : ℕ) (h f ginv r : List ℤ) (pk : List ℕ) → IsSet set → IsKey set word place j h f ginv → IsCentred set.q set.p h → IsCentred 3 set.p ginv → pk ≡ rq_encode set h → IsShort set r → plaintext set (small_encode set.p f) (small_encode set.p ginv) (ciphertext set pk r) ≡ r
unfolding plaintext ciphertext
plaintext_back set word place j h f ginv r pk s key ch ci e sr =
    let fc : List ℤ = small_decode set.p (small_encode set.p f) in
    let gc : List ℤ = small_decode set.p (small_encode set.p ginv) in
    ap (λ (t : List ℕ). decrypted set (rounded_decode set (rounded_encode set (encrypted set r (rq_decode set t)))) fc gc) e
    ∙ ap (λ (t : List ℤ). decrypted set (rounded_decode set (rounded_encode set (encrypted set r t))) fc gc) (rq_source set h s.odd s.most ch)
    ∙ ap (λ (t : List ℤ). decrypted set t fc gc) (rounded_source set (encrypted set r h) s.odd s.most s.thirds (IsCentred-encrypted set r h s.least s.odd s.thirds) (AreMultiplesOf3-encrypted set r h))
    ∙ ap (λ (t : List ℤ). decrypted set (encrypted set r h) t gc) (small_source set.p f (IsShort-drawn set word place f j s.weight key.f_is).0)
    ∙ ap (λ (t : List ℤ). decrypted set (encrypted set r h) f t) (small_source set.p ginv ci)
    ∙ decrypts set s.degree s.least s.odd s.weight s.bound word place j h f ginv r key ch ci sr

pub IsShort-drawn_r : (set : Set) (word : ℕ → ℕ) (place : ℕ) → set.w ≤ set.p → IsShort set (drawn_r set word place)
unfolding drawn_r
IsShort-drawn_r set word place l =
    let words : List ℕ = words_from word place set.p in
    let count : length words ≡ set.p = length-words_from word place set.p in
    (IsCentred-short_words set words count, weight-short set words (omega arith))

-- ---- what the code made step by step

pub ciphertext_by : (set : Set) (pk : List ℕ) (r h c : List ℤ) → h ≡ rq_decode set pk → c ≡ encrypted set r h → rounded_encode set c ≡ ciphertext set pk r
unfolding ciphertext
ciphertext_by set pk r h c eh ec =
    ap (λ (t : List ℤ). rounded_encode set t) (ec ∙ ap (λ (t : List ℤ). encrypted set r t) eh)

pub plaintext_by : (set : Set) (f_enc ginv_enc c_enc : List ℕ) (c f ginv : List ℤ) → c ≡ rounded_decode set c_enc → f ≡ small_decode set.p f_enc → ginv ≡ small_decode set.p ginv_enc → decrypted set c f ginv ≡ plaintext set f_enc ginv_enc c_enc
unfolding plaintext
plaintext_by set f_enc ginv_enc c_enc c f ginv ec ef eg =
    ap (λ (t : List ℤ). decrypted set t f ginv) ec
    ∙ ap (λ (t : List ℤ). decrypted set (rounded_decode set c_enc) t ginv) ef
    ∙ ap (λ (t : List ℤ). decrypted set (rounded_decode set c_enc) (small_decode set.p f_enc) t) eg
