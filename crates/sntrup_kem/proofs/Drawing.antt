-- Words as bytes.
use Rattle.std.proofs.Common.{◌≡◌, ℕ, ◌+◌, ◌*◌, ◌≤◌, List, [], ◌∷◌, ◌++◌, length, take, arith, ap, sym, ◌∙◌, refl}
use Rattle.std.specs.Prelude.{flat_map}
use Rattle.std.specs.Int.{w32, to_le_bytes}
use Rattle.std.proofs.lemmas.List.{length-append, length-take, append-nil}
use Rattle.std.proofs.lemmas.List.Concat.{flat_map-append}
use Rattle.std.proofs.lemmas.List.FromFn.{map-range_with_len_more}
use Rattle.rand_words.specs.Words.{words_from}
use Rattle.rand_words.proofs.SampleLaws.{length-words_from}
use Rattle.sntrup_kem.specs.Kem.{word_bytes}

pub word_bytes-none : (word : ℕ → ℕ) (place : ℕ) → word_bytes word place 0 ≡ []
unfolding word_bytes
word_bytes-none word place = refl

pub word_bytes-more : (word : ℕ → ℕ) (place i : ℕ) (bytes : List ℕ) (x : ℕ) → x ≡ word (place + i) → bytes ≡ word_bytes word place i → bytes ++ to_le_bytes w32 x ≡ word_bytes word place (i + 1)
unfolding word_bytes
word_bytes-more word place i bytes x e is =
    ap (λ (t : List ℕ). t ++ to_le_bytes w32 x) is
    ∙ ap (λ t. flat_map (to_le_bytes w32) (words_from word place i) ++ to_le_bytes w32 t) e
    ∙ ap (λ (t : List ℕ). flat_map (to_le_bytes w32) (words_from word place i) ++ t) (sym (append-nil (to_le_bytes w32 (word (place + i)))))
    ∙ sym (flat_map-append (to_le_bytes w32) (words_from word place i) (word (place + i) ∷ []))
    ∙ ap (flat_map (to_le_bytes w32)) (sym (map-range_with_len_more word place i (place + i) refl))

length_bytes : (words : List ℕ) → length (flat_map (to_le_bytes w32) words) ≡ 4 * length words
length_bytes [] = refl
length_bytes (x ∷ xs) =
    omega (arith, length-append (to_le_bytes w32 x) (flat_map (to_le_bytes w32) xs), length_bytes xs)

pub length-word_bytes : (word : ℕ → ℕ) (place count : ℕ) → length (word_bytes word place count) ≡ 4 * count
unfolding word_bytes
length-word_bytes word place count =
    omega (arith, length_bytes (words_from word place count), length-words_from word place count)

pub length-front : (bytes : List ℕ) (n : ℕ) → n ≤ length bytes → length (take n bytes) ≡ n
length-front bytes n l = omega (arith, length-take n bytes)
