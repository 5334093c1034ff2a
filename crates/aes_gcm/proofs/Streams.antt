-- The key stream, block by block.
use Rattle.std.proofs.Common.{◌≡◌, ◌<◌, ◌≤◌, ◌+◌, ◌-◌, ◌*◌, ◌/◌, ◌%◌, ◌^◌, ℕ, suc, List, [], ◌∷◌, ◌++◌, length, take, drop, get_or, min, inl, inr, sym, ◌∙◌, ap, refl, arith, append_assoc, length-drop, drop-drop}
use Rattle.std.proofs.lemmas.List.{append-nil, take-append-drop, length-take-le, take_all, take_at, drop_at, get_or-append-add}
use Rattle.std.proofs.lemmas.Nat.{from_be_bytes-to_be_bytes_4}
use Rattle.std.proofs.Math.ListN.{drop_of_length-le}
use Rattle.std.proofs.Math.Seq.{take-append-add}
use Rattle.std.proofs.lemmas.Bool.{cases_lt}
use Rattle.std.specs.Int.{w32, div_ceil, from_be_bytes}
use Rattle.byte_strings.specs.Bytes.{i2osp, xor_bytes}
use Rattle.aes_block.specs.Cipher.{cipher}
use Rattle.aes_gcm.specs.Gcm.{inc32, counter_block, key_stream, gctr_from}
use Rattle.aes_gcm.proofs.XorBytes.{xor_bytes-append, xor_bytes-short}

pub gctr_from-none : (key nonce : List ℕ) (i : ℕ) (text : List ℕ) → length text ≡ 0 → gctr_from key nonce i text ≡ []
unfolding gctr_from
gctr_from-none key nonce i [] none = refl
gctr_from-none key nonce i (x ∷ xs) none = absurd (omega arith)

-- a sum whose second part is in two pieces
pub xor_bytes-first : (text stream later : List ℕ) (n : ℕ) → n ≡ min (length text) (length stream)
    → xor_bytes text (stream ++ later) ≡ xor_bytes (take n text) stream ++ xor_bytes (drop n text) later
xor_bytes-first text stream later n is = elim (cases_lt (length text) (length stream)) [
  | inl short ↦
      let all : length text ≤ n = omega arith in
      let fits : length text ≤ length stream = omega arith in
      let none : drop n text ≡ [] = drop_of_length-le text all in
      xor_bytes-short text stream later fits
      ∙ sym (ap (λ t. xor_bytes t stream ++ xor_bytes (drop n text) later) (take_all n text all)
      ∙ ap (λ t. xor_bytes text stream ++ xor_bytes t later) none
      ∙ append-nil (xor_bytes text stream))
  | inr long ↦
      let whole : n ≡ length stream = omega arith in
      let within : n ≤ length text = omega arith in
      ap (λ t. xor_bytes t (stream ++ later)) (sym (take-append-drop n text))
      ∙ xor_bytes-append (take n text) (drop n text) stream later (length-take-le n text within ∙ whole)
]

-- the first block of a text, and the rest; n is how many bytes the first block has
pub gctr_from-first : (key nonce : List ℕ) (i : ℕ) (text stream : List ℕ) (n : ℕ)
    → stream ≡ cipher key (counter_block nonce i) → length stream ≡ 16
    → 0 < length text → n ≡ min (length text) 16
    → gctr_from key nonce i text ≡ xor_bytes (take n text) stream ++ gctr_from key nonce (i + 1) (drop n text)
unfolding gctr_from key_stream
gctr_from-first key nonce i text stream n is size more count =
    let blocks : div_ceil (length text) 16 ≡ suc (div_ceil (length (drop n text)) 16) = omega (arith, length-drop n text) in
    let later = key_stream key nonce (i + 1) (div_ceil (length (drop n text)) 16) in
    ap (λ k. xor_bytes text (key_stream key nonce i k)) blocks
    ∙ ap (λ s. xor_bytes text (s ++ later)) (sym is)
    ∙ xor_bytes-first text stream later n (count ∙ ap (min (length text)) (sym size))

-- the loop's step
pub gctr-more : (key nonce : List ℕ) (i : ℕ) (text stream start front whole : List ℕ) (done n : ℕ)
    → stream ≡ cipher key (counter_block nonce i) → length stream ≡ 16
    → done < length text → n ≡ min (length text - done) 16
    → start ++ gctr_from key nonce i (drop done text) ≡ whole
    → front ≡ start ++ xor_bytes (take n (drop done text)) stream
    → front ++ gctr_from key nonce (i + 1) (drop (done + n) text) ≡ whole
gctr-more key nonce i text stream start front whole done n is size more count so_far next =
    let left : 0 < length (drop done text) = omega (arith, length-drop done text) in
    let rest = drop done text in
    let count' : n ≡ min (length rest) 16 = omega (arith, length-drop done text) in
    ap (λ xs. xs ++ gctr_from key nonce (i + 1) (drop (done + n) text)) next
    ∙ append_assoc start (xor_bytes (take n rest) stream) (gctr_from key nonce (i + 1) (drop (done + n) text))
    ∙ ap (λ xs. start ++ (xor_bytes (take n rest) stream ++ gctr_from key nonce (i + 1) xs)) (sym (drop-drop n done text))
    ∙ ap (λ xs. start ++ xs) (sym (gctr_from-first key nonce i rest stream n is size left count'))
    ∙ so_far

-- the step over block k of a text, in its place
pub gctr-next : (key nonce : List ℕ) (k : ℕ) (text stream next whole : List ℕ)
    → stream ≡ cipher key (counter_block nonce (k + 1)) → length stream ≡ 16 → 16 * k + 16 ≤ length text
    → take (16 * k) text ++ gctr_from key nonce (k + 1) (drop (16 * k) text) ≡ whole
    → take (16 * k + 16) next ≡ take (16 * k) text ++ xor_bytes (take 16 (drop (16 * k) text)) stream
    → drop (16 * k + 16) next ≡ drop (16 * k + 16) text
    → take (16 * (k + 1)) next ++ gctr_from key nonce (k + 1 + 1) (drop (16 * (k + 1)) next) ≡ whole
gctr-next key nonce k text stream next whole is size more so_far sum rest =
    let place : 16 * (k + 1) ≡ 16 * k + 16 = omega arith in
    ap (λ n. take n next ++ gctr_from key nonce (k + 1 + 1) (drop n next)) place
    ∙ ap (λ xs. take (16 * k + 16) next ++ gctr_from key nonce (k + 1 + 1) xs) rest
    ∙ gctr-more key nonce (k + 1) text stream (take (16 * k) text) (take (16 * k + 16) next) whole (16 * k) 16 is size
    (omega arith) (omega arith) so_far sum

-- the last block of a text, which may be cut
pub gctr_from-rest : (key nonce : List ℕ) (i : ℕ) (text stream : List ℕ)
    → stream ≡ cipher key (counter_block nonce i) → length stream ≡ 16 → 0 < length text → length text ≤ 16
    → gctr_from key nonce i text ≡ xor_bytes text stream
gctr_from-rest key nonce i text stream is size some short =
    let n = length text in
    let count : n ≡ min n 16 = omega arith in
    let none : length (drop n text) ≡ 0 = omega (arith, length-drop n text) in
    gctr_from-first key nonce i text stream n is size some count
    ∙ ap (λ xs. xor_bytes (take n text) stream ++ xs) (gctr_from-none key nonce (i + 1) (drop n text) none)
    ∙ append-nil (xor_bytes (take n text) stream)
    ∙ ap (λ xs. xor_bytes xs stream) (take_all n text (omega arith))

-- counter blocks that differ in the last byte alone
run_block : (nonce : List ℕ) (i j last : ℕ) → length nonce ≡ 12 → (1 + i) / 256 ≡ (1 + j) / 256 → last ≡ (1 + j) % 256
    → take 15 (counter_block nonce i) ++ last ∷ [] ≡ counter_block nonce j
unfolding counter_block
run_block nonce i j last size same is =
    let m = (1 + i) % 2 ^ 32 in
    let n = (1 + j) % 2 ^ 32 in
    let high : m / 256 ≡ n / 256 = omega arith in
    let b3 : m / 16777216 % 256 ≡ n / 16777216 % 256 = omega arith in
    let b2 : m / 65536 % 256 ≡ n / 65536 % 256 = omega arith in
    let b1 : m / 256 % 256 ≡ n / 256 % 256 = omega arith in
    let b0 : last ≡ n % 256 = omega arith in
    let place : 15 ≡ length nonce + 3 = omega arith in
    ap (λ k. take k (nonce ++ i2osp m 4) ++ last ∷ []) place
    ∙ ap (λ xs. xs ++ last ∷ []) (take-append-add nonce (i2osp m 4) 3)
    ∙ append_assoc nonce (m / 16777216 % 256 ∷ m / 65536 % 256 ∷ m / 256 % 256 ∷ []) (last ∷ [])
    ∙ ap (λ x. nonce ++ x ∷ m / 65536 % 256 ∷ m / 256 % 256 ∷ last ∷ []) b3
    ∙ ap (λ x. nonce ++ n / 16777216 % 256 ∷ x ∷ m / 256 % 256 ∷ last ∷ []) b2
    ∙ ap (λ x. nonce ++ n / 16777216 % 256 ∷ n / 65536 % 256 ∷ x ∷ last ∷ []) b1
    ∙ ap (λ x. nonce ++ n / 16777216 % 256 ∷ n / 65536 % 256 ∷ n / 256 % 256 ∷ x ∷ []) b0

-- the last byte of a counter block
last_of : (nonce : List ℕ) (i : ℕ) → length nonce ≡ 12 → get_or (counter_block nonce i) 15 0 ≡ (1 + i) % 256
unfolding counter_block
last_of nonce i size =
    let n = (1 + i) % 2 ^ 32 in
    let place : 15 ≡ length nonce + 3 = omega arith in
    let low : n % 256 ≡ (1 + i) % 256 = omega arith in
    ap (λ k. get_or (nonce ++ i2osp n 4) k 0) place ∙ get_or-append-add nonce (i2osp n 4) 3 0 ∙ low

-- the block that stands at j in the group of counter block i
pub group_block : (nonce : List ℕ) (i j m : ℕ) → length nonce ≡ 12 → j < 8 → 1 + m ≡ (1 + i) / 8 * 8 + j
    → take 15 (counter_block nonce i) ++ (get_or (counter_block nonce i) 15 0 / 8 * 8 + j) ∷ [] ≡ counter_block nonce m
group_block nonce i j m size J is =
    let end = last_of nonce i size in
    run_block nonce i m (get_or (counter_block nonce i) 15 0 / 8 * 8 + j) size (omega (arith, is)) (omega (arith, is, end))

-- the counter block after a counter block
pub counter_block-next : (nonce : List ℕ) (i : ℕ) → length nonce ≡ 12 → counter_block nonce (i + 1) ≡ inc32 (counter_block nonce i)
unfolding counter_block
counter_block-next nonce i size =
    let n = (1 + i) % 2 ^ 32 in
    let bytes = i2osp n 4 in
    let fits : n < 2 ^ 32 = omega arith in
    let next : (1 + (i + 1)) % 2 ^ 32 ≡ (n + 1) % 2 ^ 32 = omega arith in
    let front : take 12 (nonce ++ bytes) ≡ nonce = take_at nonce bytes 12 size in
    let back : from_be_bytes w32 (drop 12 (nonce ++ bytes)) ≡ n =
    ap (from_be_bytes w32) (drop_at nonce bytes 12 size) ∙ from_be_bytes-to_be_bytes_4 n fits in
    ap (λ m. nonce ++ i2osp m 4) next
    ∙ ap (λ m. nonce ++ i2osp ((m + 1) % 2 ^ 32) 4) (sym back)
    ∙ ap (λ xs. xs ++ i2osp ((from_be_bytes w32 (drop 12 (nonce ++ bytes)) + 1) % 2 ^ 32) 4) (sym front)

pub ruleset counters = (counter_block-next)
