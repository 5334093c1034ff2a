-- The loops of key expansion and of the rounds.
use Rattle.std.proofs.Common.{◌≡◌, ◌≤◌, ◌+◌, ◌-◌, ◌*◌, ℕ, zero, suc, List, ◌++◌, length, take, ◌∙◌, ap, refl, arith, add-one, length-append}
use Rattle.std.proofs.lemmas.List.{take-append-le, take_all}
use Rattle.byte_strings.specs.Bytes.{xor_bytes}
use Rattle.aes_block.specs.Cipher.{temp, key_expansion, expanded_key, key_words, round_count, round_key, state_after, word, mix_columns, shift_rows, sub_bytes}

pub key_expansion-more : (n : ℕ) (key : List ℕ) (i : ℕ) → key_expansion n key (i + 1)
    ≡ key_expansion n key i ++ xor_bytes (word (key_expansion n key i) i) (temp n (key_expansion n key i) (n + i))
unfolding key_expansion
key_expansion-more n key i = rw add-one

pub key_expansion-none : (n : ℕ) (key : List ℕ) → key_expansion n key 0 ≡ key
unfolding key_expansion
key_expansion-none n key = refl

pub long : (n : ℕ) (key : List ℕ) (i : ℕ) → length key ≤ length (key_expansion n key i)
unfolding key_expansion
long n key zero = omega arith
long n key (suc i) =
    let w = key_expansion n key i in
    omega (arith, length-append w (xor_bytes (word w i) (temp n w (n + i))), long n key i)

-- the key stands in front
pub take-key_expansion : (n : ℕ) (key : List ℕ) (i : ℕ) → take (length key) (key_expansion n key i) ≡ key
unfolding key_expansion
take-key_expansion n key zero = take_all (length key) key (omega arith)
take-key_expansion n key (suc i) =
    let w = key_expansion n key i in
    take-append-le (length key) w (xor_bytes (word w i) (temp n w (n + i))) (long n key i) ∙ take-key_expansion n key i

pub state_after-more : (w block : List ℕ) (n : ℕ) → state_after w block (n + 1)
    ≡ xor_bytes (mix_columns (shift_rows (sub_bytes (state_after w block n)))) (round_key w (n + 1))
unfolding state_after
state_after-more w block n = rw add-one

-- at the loop's number of the next round
pub state_after-step : (w block : List ℕ) (i : ℕ) → 1 ≤ i → state_after w block (i + 1 - 1)
    ≡ xor_bytes (mix_columns (shift_rows (sub_bytes (state_after w block (i - 1))))) (round_key w i)
state_after-step w block i low =
    let after : i + 1 - 1 ≡ i - 1 + 1 = omega arith in
    let here : i - 1 + 1 ≡ i = omega arith in
    ap (state_after w block) after ∙ state_after-more w block (i - 1)
    ∙ ap (λ j. xor_bytes (mix_columns (shift_rows (sub_bytes (state_after w block (i - 1))))) (round_key w j)) here

pub state_after-none : (w block : List ℕ) → state_after w block 0 ≡ xor_bytes block (round_key w 0)
unfolding state_after
state_after-none w block = refl

pub ruleset expansion_steps = (key_expansion-more, key_expansion-none)

-- the parts of an expanded key
pub take-expanded_key : (key : List ℕ) → take (length key) (expanded_key key) ≡ key
unfolding expanded_key
take-expanded_key key = take-key_expansion (key_words key) key (4 * (round_count key + 1) - key_words key)
