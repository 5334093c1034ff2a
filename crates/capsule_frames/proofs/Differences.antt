-- The differences of bytes, or-ed.
use Rattle.std.proofs.Common.{◌≡◌, ℕ, ◌+◌, ◌<◌, ◌≤◌, List, [], ◌∷◌, ◌++◌, length, take, get_or, bit_or, bit_xor, arith, ap, sym, ◌∙◌, add-one}
use Rattle.std.specs.Int.Bits.{xor_assoc, xor_self, xor_zero_r}
use Rattle.std.proofs.Math.Seq.{take-suc}
use Rattle.std.proofs.lemmas.List.{take_all}
use Rattle.std.proofs.lemmas.Nat.{le_or_l, le_or_r, xor_comm}

or_left : (a b : ℕ) → bit_or a b ≡ 0 → a ≡ 0
or_left a b e = omega (arith, le_or_l a b, e)

or_right : (a b : ℕ) → bit_or a b ≡ 0 → b ≡ 0
or_right a b e = omega (arith, le_or_r a b, e)

xor_back : (a b : ℕ) → bit_xor (bit_xor a b) b ≡ a
xor_back a b = xor_assoc a b b ∙ ap (bit_xor a) (xor_self b) ∙ xor_zero_r a

xor_none : (a b : ℕ) → bit_xor a b ≡ 0 → a ≡ b
xor_none a b e = sym (xor_back a b) ∙ ap (λ t. bit_xor t b) e ∙ xor_comm 0 b ∙ xor_zero_r b

-- the bytes so far and the next ones are the same
pub one_more : (xs ys : List ℕ) (i found dx dy x y : ℕ) → i < length xs → length xs ≡ length ys → x ≡ get_or xs i dx → y ≡ get_or ys i dy
    → (found ≡ 0 → take i xs ≡ take i ys) → bit_or found (bit_xor x y) ≡ 0 → take (i + 1) xs ≡ take (i + 1) ys
one_more xs ys i found dx dy x y lt size here there so_far none =
    let front = so_far (or_left found (bit_xor x y) none) in
    let one : get_or xs i dx ≡ get_or ys i dy = sym here ∙ xor_none x y (or_right found (bit_xor x y) none) ∙ there in
    let low : i < length ys = omega (arith, lt, size) in
    ap (λ (n : ℕ). take n xs) (add-one i) ∙ take-suc xs i dx lt
    ∙ ap (λ (zs : List ℕ). zs ++ get_or xs i dx ∷ []) front ∙ ap (λ z. take i ys ++ z ∷ []) one
    ∙ sym (take-suc ys i dy low) ∙ ap (λ (n : ℕ). take n ys) (sym (add-one i))

-- all bytes are
pub all_same : (xs ys : List ℕ) (i : ℕ) → length xs ≡ length ys → length xs ≤ i → take i xs ≡ take i ys → xs ≡ ys
all_same xs ys i size le same =
    let le_too : length ys ≤ i = omega (arith, size, le) in
    sym (take_all i xs le) ∙ same ∙ take_all i ys le_too
