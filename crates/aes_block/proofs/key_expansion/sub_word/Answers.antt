use Rattle.std.proofs.Common.{◌≡◌, ℕ, [], ◌∷◌, get_or, map, ap, sym, ◌∙◌, arith}
use Rattle.aes_block.specs.Field.{s_box}
use Rattle.aes_block.specs.Sliced.{without_constant}
use Rattle.aes_block.proofs.Circuit.{constant_back}
use Rattle.aes_block.proofs.States.{spelled}
use Rattle.aes_block.proofs.key_expansion.sub_word.Goals as goal

four : {a b c d x y z w : ℕ} → a ≡ x → b ≡ y → c ≡ z → d ≡ w → a ∷ b ∷ c ∷ d ∷ [] ≡ x ∷ y ∷ z ∷ w ∷ []
four {a} {b} {c} {d} {x} {y} {z} {w} e f g h =
    ap (λ n. n ∷ b ∷ c ∷ d ∷ []) e ∙ ap (λ n. x ∷ n ∷ c ∷ d ∷ []) f ∙ ap (λ n. x ∷ y ∷ n ∷ d ∷ []) g ∙ ap (λ n. x ∷ y ∷ z ∷ n ∷ []) h

pub returns : goal.returns
returns c =
    let out = c.unsliced.ensures 0 (omega arith) in
    let start = c.sliced.ensures.states 0 (omega arith) in
    four
    (ap without_constant (ap (λ xs. get_or xs 0 0) out ∙ c.sub_bytes.ensures.bytes 0 0 (omega arith) (omega arith)) ∙ constant_back _ ∙ ap (λ xs. s_box (get_or xs 0 0)) start)
    (ap without_constant (ap (λ xs. get_or xs 1 0) out ∙ c.sub_bytes.ensures.bytes 4 0 (omega arith) (omega arith)) ∙ constant_back _ ∙ ap (λ xs. s_box (get_or xs 1 0)) start)
    (ap without_constant (ap (λ xs. get_or xs 2 0) out ∙ c.sub_bytes.ensures.bytes 8 0 (omega arith) (omega arith)) ∙ constant_back _ ∙ ap (λ xs. s_box (get_or xs 2 0)) start)
    (ap without_constant (ap (λ xs. get_or xs 3 0) out ∙ c.sub_bytes.ensures.bytes 12 0 (omega arith) (omega arith)) ∙ constant_back _ ∙ ap (λ xs. s_box (get_or xs 3 0)) start)
    ∙ sym (ap (map s_box) (spelled c.args.bytes 4 (omega arith)))
