-- What was sealed opens.
use Rattle.std.proofs.Common.{◌≡◌, ◌-◌, ℕ, List, ◌++◌, length, sym, ◌∙◌, ap, arith, length-append}
use Rattle.std.proofs.lemmas.List.{take_at, drop_at}
use Rattle.poly1305.proofs.Lengths.{length-tag_with}
use Rattle.chacha20.specs.ChaCha20.{encrypt}
use Rattle.chacha20.proofs.Twice.{encrypt-twice}
use Rattle.chacha_poly.specs.Aead.{tag_of, seal, Holds, body, last_16, clear}

length-tag_of : (key nonce aad ct : List ℕ) → length (tag_of key nonce aad ct) ≡ 16
unfolding tag_of
length-tag_of key nonce aad ct = length-tag_with _ _ _

-- the parts of a sealed text
body_is : (ct tag : List ℕ) → length tag ≡ 16 → body (ct ++ tag) ≡ ct
body_is ct tag size =
    let all : length (ct ++ tag) - 16 ≡ length ct = omega (arith, length-append ct tag) in
    take_at ct tag (length (ct ++ tag) - 16) (sym all)

last_is : (ct tag : List ℕ) → length tag ≡ 16 → last_16 (ct ++ tag) ≡ tag
last_is ct tag size =
    let all : length (ct ++ tag) - 16 ≡ length ct = omega (arith, length-append ct tag) in
    drop_at ct tag (length (ct ++ tag) - 16) (sym all)

pub seal-holds : (key nonce aad text : List ℕ) → Holds key nonce aad (seal key nonce aad text)
unfolding seal
seal-holds key nonce aad text =
    let ct = encrypt key 1 nonce text in
    let tag = tag_of key nonce aad ct in
    let size : length tag ≡ 16 = length-tag_of key nonce aad ct in
    record {
      long = omega (arith, length-append ct tag, size);
      tag = last_is ct tag size ∙ sym (ap (tag_of key nonce aad) (body_is ct tag size));
    }

pub seal-clear : (key nonce aad text : List ℕ) → clear key nonce (seal key nonce aad text) ≡ text
unfolding seal clear
seal-clear key nonce aad text =
    let ct = encrypt key 1 nonce text in
    let tag = tag_of key nonce aad ct in
    ap (encrypt key 1 nonce) (body_is ct tag (length-tag_of key nonce aad ct)) ∙ encrypt-twice key nonce 1 text

pub ruleset opens = (seal-holds, seal-clear)
