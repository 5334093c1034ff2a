-- How many bytes the parts of the cipher have.
use Rattle.std.proofs.Common.{◌≡◌, ◌+◌, ◌-◌, ◌*◌, ◌/◌, ◌%◌, inl, inr, ℕ, zero, suc, Bool, true, false, if◌then◌else◌, ◌==◌, ◌&&◌, List, length, sym, ◌∙◌, refl, arith, take, drop, ap, length-append, length-take, length-drop, drop-drop, get_or, [], ◌<◌}
use Rattle.std.specs.Simd.{first_chunks}
use Rattle.std.specs.Int.Bits.{bit_xor}
use Rattle.std.proofs.lemmas.Simd.{length-zip2}
use Rattle.byte_strings.specs.Bytes.{xor_bytes}
use Rattle.aes_block.specs.Cipher.{IsKey, sub_bytes, shift_rows, word, rot_word, sub_word, rcon, temp, key_expansion, key_words, round_count, expanded_key, round_key, state_after, cipher_rounds, cipher}

length-if : (b : Bool) (xs ys : List ℕ) (n : ℕ) → length xs ≡ n → length ys ≡ n → length (if b then xs else ys) ≡ n
length-if true xs ys n p q = p
length-if false xs ys n p q = q

pub length-temp : (nk : ℕ) (w : List ℕ) (i : ℕ) → length (temp nk w i) ≡ 4
unfolding temp
length-temp nk w i =
    length-if (i % nk == 0) (xor_bytes (sub_word (rot_word w (i - 1))) (rcon (i / nk)))
    (if (nk == 8 && i % 8 == 4) then sub_word (word w (i - 1)) else word w (i - 1)) 4 refl
    (length-if (nk == 8 && i % 8 == 4) (sub_word (word w (i - 1))) (word w (i - 1)) 4 refl refl)

pub length-key_expansion : (n : ℕ) (key : List ℕ) (i : ℕ) → length (key_expansion n key i) ≡ length key + 4 * i
unfolding key_expansion
length-key_expansion n key zero = omega arith
length-key_expansion n key (suc i) =
    let w = key_expansion n key i in
    let four = length-temp n w (n + i) in
    omega (
      arith,
      length-append w (xor_bytes (word w i) (temp n w (n + i))),
      length-zip2 bit_xor (word w i) (temp n w (n + i)) (sym four),
      length-key_expansion n key i,
    )

pub length-expanded_key : (key : List ℕ) → IsKey key → length (expanded_key key) ≡ 16 * (round_count key + 1)
unfolding expanded_key
length-expanded_key key (inl size) = omega (arith, length-key_expansion (key_words key) key (4 * (round_count key + 1) - key_words key))
length-expanded_key key (inr size) = omega (arith, length-key_expansion (key_words key) key (4 * (round_count key + 1) - key_words key))

pub length-shift_rows : (s : List ℕ) → length (shift_rows s) ≡ 16
unfolding shift_rows
length-shift_rows s = refl

-- the cipher of a block has 16 bytes
pub length-cipher : (key block : List ℕ) → IsKey key → length (cipher key block) ≡ 16
unfolding cipher_rounds
length-cipher key block size =
    let w = expanded_key key in
    let r = round_count key in
    let state = sub_bytes (state_after w block (r - 1)) in
    let long = length-expanded_key key size in
    let last : length (round_key w r) ≡ 16 = simp (length-take, length-drop) (omega (arith, long)) in
    length-zip2 bit_xor (shift_rows state) (round_key w r) (length-shift_rows state ∙ sym last) ∙ length-shift_rows state

-- chunk i of a byte string
pub get_or-first_chunks : (n k : ℕ) (xs : List ℕ) (i : ℕ) → i < k → get_or (first_chunks n k xs) i [] ≡ take n (drop (n * i) xs)
get_or-first_chunks n zero xs i small = absurd (omega arith)
get_or-first_chunks n (suc k) xs zero small = let none : 0 ≡ n * 0 = omega arith in ap (λ m. take n (drop m xs)) none
get_or-first_chunks n (suc k) xs (suc i) small =
    let less : i < k = omega arith in
    let next : n + n * i ≡ n * suc i = grind arith in
    get_or-first_chunks n k (drop n xs) i less ∙ ap (take n) (drop-drop (n * i) n xs) ∙ ap (λ m. take n (drop m xs)) next
