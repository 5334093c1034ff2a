-- What was sealed opens.
use Rattle.std.proofs.Common.{◌≡◌, ◌≤◌, ◌+◌, ◌-◌, ◌*◌, ℕ, zero, suc, List, ◌++◌, length, sym, ◌∙◌, ap, refl, arith, length-append}
use Rattle.std.proofs.lemmas.List.{take_at, drop_at}
use Rattle.std.specs.Int.{div_ceil}
use Rattle.byte_strings.specs.Bytes.{xor_bytes}
use Rattle.aes_block.specs.Cipher.{cipher}
use Rattle.ghash_core.specs.Hash.{block_bytes}
use Rattle.aes_gcm.specs.Gcm.{counter_block, j0, key_stream, gctr_from, gctr, hash_of, tag_of, seal, Holds, body, last_16, clear}
use Rattle.aes_gcm.proofs.XorBytes.{length-xor_bytes, xor_bytes-twice}

-- a key with which a cipher's block has 16 bytes
abbrev pub IsWhole : List ℕ → Type 0
IsWhole key = (block : List ℕ) → length (cipher key block) ≡ 16

pub length-block_bytes : (block : ℕ) → length (block_bytes block) ≡ 16
unfolding block_bytes
length-block_bytes block = refl

pub length-key_stream : (key nonce : List ℕ) (i n : ℕ) → IsWhole key → length (key_stream key nonce i n) ≡ 16 * n
unfolding key_stream
length-key_stream key nonce i zero whole = refl
length-key_stream key nonce i (suc n) whole =
    let block = counter_block nonce i in
    omega (
      arith,
      length-append (cipher key block) (key_stream key nonce (i + 1) n),
      whole block,
      length-key_stream key nonce (i + 1) n whole,
    )

pub stream_long : (key nonce text : List ℕ) → IsWhole key
    → length text ≤ length (key_stream key nonce 1 (div_ceil (length text) 16))
stream_long key nonce text whole =
    let size = length-key_stream key nonce 1 (div_ceil (length text) 16) whole in
    omega (arith, size)

pub length-gctr : (key nonce text : List ℕ) → IsWhole key → length (gctr key nonce text) ≡ length text
unfolding gctr_from
length-gctr key nonce text whole =
    length-xor_bytes text (key_stream key nonce 1 (div_ceil (length text) 16)) (stream_long key nonce text whole)

pub gctr-twice : (key nonce text : List ℕ) → IsWhole key → gctr key nonce (gctr key nonce text) ≡ text
unfolding gctr_from
gctr-twice key nonce text whole =
    let same = length-gctr key nonce text whole in
    ap (λ n. xor_bytes (gctr key nonce text) (key_stream key nonce 1 (div_ceil n 16))) same
    ∙ xor_bytes-twice text (key_stream key nonce 1 (div_ceil (length text) 16)) (stream_long key nonce text whole)

pub length-tag_of : (key nonce aad ct : List ℕ) → IsWhole key → length (tag_of key nonce aad ct) ≡ 16
unfolding tag_of
length-tag_of key nonce aad ct whole =
    let sum : length (hash_of key aad ct) ≡ 16 = length-block_bytes _ in
    let pad : length (cipher key (j0 nonce)) ≡ 16 = whole (j0 nonce) in
    let fits : length (hash_of key aad ct) ≤ length (cipher key (j0 nonce)) = omega arith in
    length-xor_bytes (hash_of key aad ct) (cipher key (j0 nonce)) fits ∙ sum

-- the parts of a sealed text
pub body_is : (ct tag : List ℕ) → length tag ≡ 16 → body (ct ++ tag) ≡ ct
body_is ct tag size =
    let all : length (ct ++ tag) - 16 ≡ length ct = omega (arith, length-append ct tag) in
    take_at ct tag (length (ct ++ tag) - 16) (sym all)

pub last_is : (ct tag : List ℕ) → length tag ≡ 16 → last_16 (ct ++ tag) ≡ tag
last_is ct tag size =
    let all : length (ct ++ tag) - 16 ≡ length ct = omega (arith, length-append ct tag) in
    drop_at ct tag (length (ct ++ tag) - 16) (sym all)

pub seal-holds : (key nonce aad text : List ℕ) → IsWhole key → Holds key nonce aad (seal key nonce aad text)
unfolding seal
seal-holds key nonce aad text whole =
    let ct = gctr key nonce text in
    let tag = tag_of key nonce aad ct in
    let size : length tag ≡ 16 = length-tag_of key nonce aad ct whole in
    record {
      long = omega (arith, length-append ct tag, size);
      tag = last_is ct tag size ∙ sym (ap (tag_of key nonce aad) (body_is ct tag size));
    }

pub seal-clear : (key nonce aad text : List ℕ) → IsWhole key → clear key nonce (seal key nonce aad text) ≡ text
unfolding seal clear
seal-clear key nonce aad text whole =
    let ct = gctr key nonce text in
    let tag = tag_of key nonce aad ct in
    ap (gctr key nonce) (body_is ct tag (length-tag_of key nonce aad ct whole)) ∙ gctr-twice key nonce text whole
