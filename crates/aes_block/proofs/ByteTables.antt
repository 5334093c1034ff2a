-- The table of single bytes, computed by the definition, and the inverses of all bytes.
use Rattle.std.proofs.Common.{◌≡◌, ◌≢◌, ◌<◌, ◌≤◌, ◌+◌, ◌-◌, ℕ, zero, suc, [], ◌∷◌, get_or, map, replicate, ap, sym, ◌∙◌, refl, arith}
use Rattle.std.proofs.lemmas.List.{get_or-replicate}
use Rattle.std.proofs.Math.Nat.{zero-add}
use Rattle.std.specs.List.{range_with_len}
use Rattle.std.proofs.lemmas.List.FromFn.{get_or-map-range_with_len}
use Rattle.aes_block.specs.declared.tables.TheConstants.{ROUND_CONSTANTS}
use Rattle.aes_block.specs.Field.{xtime, by_power, low_product, product, inverse_among, inverse}
use Rattle.aes_block.specs.Cipher.{rcon}

pub constants_table : map (λ i. by_power i 1) (range_with_len 0 10) ≡ ROUND_CONSTANTS
unfolding xtime by_power
constants_table = refl

pub constant_is : (i : ℕ) → i < 10 → get_or ROUND_CONSTANTS i 0 ≡ by_power i 1
constant_is i small =
    ap (λ xs. get_or xs i 0) (sym constants_table)
    ∙ get_or-map-range_with_len (λ i. by_power i 1) 0 10 i i 0 small (zero-add i)

-- rcon by the table's constant
pub rcon_is : (j : ℕ) → 1 ≤ j → j ≤ 10 → get_or ROUND_CONSTANTS (j - 1) 0 ∷ 0 ∷ 0 ∷ 0 ∷ [] ≡ rcon j
rcon_is j low high = let small : j - 1 < 10 = omega arith in ap (λ x. x ∷ 0 ∷ 0 ∷ 0 ∷ []) (constant_is (j - 1) small)

pub ruleset constants = (rcon_is)

inverses_table : map (λ a. product (a + 1) (inverse (a + 1))) (range_with_len 0 255) ≡ replicate 255 1
unfolding xtime by_power low_product product inverse_among inverse
inverses_table = refl

pub inverse_is : (a : ℕ) → a < 256 → a ≢ 0 → product a (inverse a) ≡ 1
inverse_is zero small some = absurd (some refl)
inverse_is (suc a) small some =
    let less : a < 255 = omega arith in
    let next : a + 1 ≡ suc a = omega arith in
    ap (λ b. product b (inverse b)) (sym next)
    ∙ sym (get_or-map-range_with_len (λ a. product (a + 1) (inverse (a + 1))) 0 255 a a 0 less (zero-add a))
    ∙ ap (λ xs. get_or xs a 0) inverses_table ∙ get_or-replicate 255 a 1 0 less

pub ruleset inverses = (inverse_is)
