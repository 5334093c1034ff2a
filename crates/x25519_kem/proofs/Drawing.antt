-- Words as bytes.
use Rattle.std.proofs.Common.{◌≡◌, ℕ, ◌+◌, List, [], ◌∷◌, ◌++◌, ap, sym, ◌∙◌, refl}
use Rattle.std.specs.Prelude.{flat_map}
use Rattle.std.specs.Int.{w32, to_le_bytes}
use Rattle.std.proofs.lemmas.List.{append-nil}
use Rattle.std.proofs.lemmas.List.Concat.{flat_map-append}
use Rattle.std.proofs.lemmas.List.FromFn.{map-range_with_len_more}
use Rattle.rand_words.specs.Words.{words_from}
use Rattle.x25519_kem.specs.Kem.{word_bytes}

pub no_words : (word : ℕ → ℕ) (place : ℕ) → word_bytes word place 0 ≡ []
unfolding word_bytes
no_words word place = refl

-- one word more
pub one_word : (word : ℕ → ℕ) (place i : ℕ) (bytes : List ℕ) (x : ℕ) → x ≡ word (place + i) → bytes ≡ word_bytes word place i → bytes ++ to_le_bytes w32 x ≡ word_bytes word place (i + 1)
unfolding word_bytes
one_word word place i bytes x e is =
    ap (λ (t : List ℕ). t ++ to_le_bytes w32 x) is
    ∙ ap (λ t. flat_map (to_le_bytes w32) (words_from word place i) ++ to_le_bytes w32 t) e
    ∙ ap (λ (t : List ℕ). flat_map (to_le_bytes w32) (words_from word place i) ++ t) (sym (append-nil (to_le_bytes w32 (word (place + i)))))
    ∙ sym (flat_map-append (to_le_bytes w32) (words_from word place i) (word (place + i) ∷ []))
    ∙ ap (flat_map (to_le_bytes w32)) (sym (map-range_with_len_more word place i (place + i) refl))
