-- Four blocks side by side.
use Rattle.std.proofs.Common.{◌≡◌, ℕ, suc, ◌<◌, ◌+◌, ◌*◌, ◌/◌, ◌%◌, ◌^◌, List, [], ◌∷◌, ◌++◌, length, get_or, slice_index, arith, refl, ap, ◌∙◌}
use Rattle.std.specs.Int.{w32, to_le_bytes}
use Rattle.std.specs.Simd.Lanes.{Each1, digits_l, number_l}
use Rattle.rand_core.specs.Steps.{u32_at}
use Rattle.chacha20.specs.ChaCha20.{initial, serialized}
use Rattle.chacha20.specs.Lanes.{piece}
use Rattle.rand_chacha.proofs.LaneLemmas.{below_four, four_lanes}

-- the bytes of a word, and those of what stands above it
digits_word : (a m n : ℕ) → a < 2 ^ 32 → digits_l 256 (suc (suc (suc (suc n)))) (a + 2 ^ 32 * m) ≡ to_le_bytes w32 a ++ digits_l 256 n m
digits_word a m n small =
    let x = a + 2 ^ 32 * m in
    let b0 : x % 256 ≡ a % 256 = omega arith in
    let b1 : x / 256 % 256 ≡ a / 256 % 256 = omega arith in
    let b2 : x / 256 / 256 % 256 ≡ a / 65536 % 256 = omega arith in
    let b3 : x / 256 / 256 / 256 % 256 ≡ a / 16777216 % 256 = omega arith in
    let b4 : x / 256 / 256 / 256 / 256 ≡ m = omega arith in
    (λ i. b0 i ∷ b1 i ∷ b2 i ∷ b3 i ∷ digits_l 256 n (b4 i))

-- the bytes of four words
pub bytes_of_words : (a b c d : ℕ) → a < 2 ^ 32 → b < 2 ^ 32 → c < 2 ^ 32 → d < 2 ^ 32
    → digits_l 256 16 (number_l (2 ^ 32) (a ∷ b ∷ c ∷ d ∷ [])) ≡ serialized (a ∷ b ∷ c ∷ d ∷ [])
unfolding serialized
bytes_of_words a b c d pa pb pc pd =
    digits_word a (b + 2 ^ 32 * (c + 2 ^ 32 * (d + 2 ^ 32 * 0))) 12 pa
    ∙ ap (λ xs. to_le_bytes w32 a ++ xs) (digits_word b (c + 2 ^ 32 * (d + 2 ^ 32 * 0)) 8 pb
    ∙ ap (λ xs. to_le_bytes w32 b ++ xs) (digits_word c (d + 2 ^ 32 * 0) 4 pc
    ∙ ap (λ xs. to_le_bytes w32 c ++ xs) (digits_word d 0 0 pd)))

-- the same of a vector
pub bytes_of_lanes : (x : List ℕ) → length x ≡ 4 → Each1 (λ a. a < 2 ^ 32) x → digits_l 256 16 (number_l (2 ^ 32) x) ≡ serialized x
bytes_of_lanes (a ∷ b ∷ c ∷ d ∷ []) long small = bytes_of_words a b c d small.0 small.1.0 small.1.1.0 small.1.1.1.0
bytes_of_lanes [] long small = absurd (omega arith)
bytes_of_lanes (a ∷ []) long small = absurd (omega arith)
bytes_of_lanes (a ∷ b ∷ []) long small = absurd (omega arith)
bytes_of_lanes (a ∷ b ∷ c ∷ []) long small = absurd (omega arith)
bytes_of_lanes (a ∷ b ∷ c ∷ d ∷ e ∷ xs) long small = absurd (omega arith)

-- four vectors interleaved twice
abbrev pub rows : List ℕ → List ℕ → List ℕ → List ℕ → List (List ℕ)
rows a b c d =
    (get_or (a ++ c) 0 0 ∷ get_or (b ++ d) 0 0 ∷ get_or (a ++ c) 4 0 ∷ get_or (b ++ d) 4 0 ∷ [])
    ∷ (get_or (a ++ c) 1 0 ∷ get_or (b ++ d) 1 0 ∷ get_or (a ++ c) 5 0 ∷ get_or (b ++ d) 5 0 ∷ [])
    ∷ (get_or (a ++ c) 2 0 ∷ get_or (b ++ d) 2 0 ∷ get_or (a ++ c) 6 0 ∷ get_or (b ++ d) 6 0 ∷ [])
    ∷ (get_or (a ++ c) 3 0 ∷ get_or (b ++ d) 3 0 ∷ get_or (a ++ c) 7 0 ∷ get_or (b ++ d) 7 0 ∷ []) ∷ []

abbrev AreTransposed : List ℕ → List ℕ → List ℕ → List ℕ → Type 0
AreTransposed a b c d = (j : ℕ) → j < 4 → get_or (rows a b c d) j []
    ≡ slice_index a j ∷ slice_index b j ∷ slice_index c j ∷ slice_index d j ∷ []

pub transposed_is : (a : List ℕ) → length a ≡ 4 → (b : List ℕ) → length b ≡ 4 → (c : List ℕ) → length c ≡ 4
    → (d : List ℕ) → length d ≡ 4 → AreTransposed a b c d
transposed_is =
    four_lanes (λ a. (b : List ℕ) → length b ≡ 4 → (c : List ℕ) → length c ≡ 4 → (d : List ℕ) → length d ≡ 4 → AreTransposed a b c d) (λ a0 a1 a2 a3.
    four_lanes (λ b. (c : List ℕ) → length c ≡ 4 → (d : List ℕ) → length d ≡ 4 → AreTransposed (a0 ∷ a1 ∷ a2 ∷ a3 ∷ []) b c d) (λ b0 b1 b2 b3.
    four_lanes (λ c. (d : List ℕ) → length d ≡ 4 → AreTransposed (a0 ∷ a1 ∷ a2 ∷ a3 ∷ []) (b0 ∷ b1 ∷ b2 ∷ b3 ∷ []) c d) (λ c0 c1 c2 c3.
    four_lanes (λ d. AreTransposed (a0 ∷ a1 ∷ a2 ∷ a3 ∷ []) (b0 ∷ b1 ∷ b2 ∷ b3 ∷ []) (c0 ∷ c1 ∷ c2 ∷ c3 ∷ []) d) (λ d0 d1 d2 d3.
    below_four _ refl refl refl refl))))

-- a state whose words were read
pub state_is : (key nonce : List ℕ) (counter k0 k1 k2 k3 k4 k5 k6 k7 n0 n1 n2 : ℕ)
    → k0 ≡ u32_at key 0 → k1 ≡ u32_at key 1 → k2 ≡ u32_at key 2 → k3 ≡ u32_at key 3
    → k4 ≡ u32_at key 4 → k5 ≡ u32_at key 5 → k6 ≡ u32_at key 6 → k7 ≡ u32_at key 7
    → n0 ≡ u32_at nonce 0 → n1 ≡ u32_at nonce 1 → n2 ≡ u32_at nonce 2
    → 0x61707865 ∷ 0x3320646e ∷ 0x79622d32 ∷ 0x6b206574 ∷ k0 ∷ k1 ∷ k2 ∷ k3 ∷ k4 ∷ k5 ∷ k6 ∷ k7 ∷ counter ∷ n0 ∷ n1 ∷ n2 ∷ []
    ≡ initial key counter nonce
unfolding initial
state_is key nonce counter k0 k1 k2 k3 k4 k5 k6 k7 n0 n1 n2 e0 e1 e2 e3 e4 e5 e6 e7 f0 f1 f2 =
    (λ i. 0x61707865 ∷ 0x3320646e ∷ 0x79622d32 ∷ 0x6b206574 ∷ e0 i ∷ e1 i ∷ e2 i ∷ e3 i ∷ e4 i ∷ e5 i ∷ e6 i ∷ e7 i ∷ counter ∷ f0 i ∷ f1 i ∷ f2 i ∷ [])

-- pieces of the bytes of sixteen words
abbrev pub IsPiece : ℕ → List ℕ → List ℕ → Type 0
IsPiece g ws bytes = bytes ≡ piece g (serialized ws)

pub first_piece : (a b c d e f g h i j k l m n o p : ℕ)
    → serialized (a ∷ b ∷ c ∷ d ∷ []) ≡ piece 0 (serialized (a ∷ b ∷ c ∷ d ∷ e ∷ f ∷ g ∷ h ∷ i ∷ j ∷ k ∷ l ∷ m ∷ n ∷ o ∷ p ∷ []))
unfolding serialized
first_piece a b c d e f g h i j k l m n o p = refl

pub second_piece : (a b c d e f g h i j k l m n o p : ℕ)
    → serialized (e ∷ f ∷ g ∷ h ∷ []) ≡ piece 1 (serialized (a ∷ b ∷ c ∷ d ∷ e ∷ f ∷ g ∷ h ∷ i ∷ j ∷ k ∷ l ∷ m ∷ n ∷ o ∷ p ∷ []))
unfolding serialized
second_piece a b c d e f g h i j k l m n o p = refl

pub third_piece : (a b c d e f g h i j k l m n o p : ℕ)
    → serialized (i ∷ j ∷ k ∷ l ∷ []) ≡ piece 2 (serialized (a ∷ b ∷ c ∷ d ∷ e ∷ f ∷ g ∷ h ∷ i ∷ j ∷ k ∷ l ∷ m ∷ n ∷ o ∷ p ∷ []))
unfolding serialized
third_piece a b c d e f g h i j k l m n o p = refl

pub fourth_piece : (a b c d e f g h i j k l m n o p : ℕ)
    → serialized (m ∷ n ∷ o ∷ p ∷ []) ≡ piece 3 (serialized (a ∷ b ∷ c ∷ d ∷ e ∷ f ∷ g ∷ h ∷ i ∷ j ∷ k ∷ l ∷ m ∷ n ∷ o ∷ p ∷ []))
unfolding serialized
fourth_piece a b c d e f g h i j k l m n o p = refl
