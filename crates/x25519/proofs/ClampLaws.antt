-- A scalar that was clamped is clamped no further.
use Rattle.std.proofs.Common.{◌≡◌, ℕ, ◌<◌, ◌^◌, List, length, get_or, bit_and, bit_or, ap, sym, ◌∙◌, arith}
use Rattle.std.proofs.Math.ListN.{set}
use Rattle.std.proofs.lemmas.List.{set-get_or, get_or-set_same, get_or-set_other, length-set}
use Rattle.std.proofs.lemmas.Nat.{and_le_r, and_mask, and_or_self, or_lt}
use Rattle.std.proofs.lemmas.Nat.Bits.{and_high_mask_twice}
use Rattle.std.specs.Int.Bits.{or_add_and}
use Rattle.x25519.specs.Scalars.{clamped}

low_twice : (n : ℕ) → bit_and (bit_and n 248) 248 ≡ bit_and n 248
low_twice n = and_high_mask_twice 8 3 (omega arith) n 3 (omega arith)

high_twice : (n : ℕ) → bit_or (bit_and (bit_or (bit_and n 127) 64) 127) 64 ≡ bit_or (bit_and n 127) 64
high_twice n =
    let x = bit_and n 127 in
    let below : bit_or x 64 < 2 ^ 7 = or_lt 7 x 64 (omega (arith, and_le_r n 127)) (omega arith) in
    let same : bit_and (bit_or x 64) 127 ≡ bit_or x 64 = omega (arith, and_mask (bit_or x 64) 7, below) in
    let once : bit_or (bit_or x 64) 64 ≡ bit_or x 64 = omega (arith, or_add_and (bit_or x 64) 64, and_or_self 64 x) in
    ap (λ t. bit_or t 64) same ∙ once

pub clamped_twice : (k : List ℕ) → length k ≡ 32 → clamped (clamped k) ≡ clamped k
clamped_twice k long =
    let low = bit_and (get_or k 0 0) 248 in
    let front = set k 0 low in
    let high = bit_or (bit_and (get_or k 31 0) 127) 64 in
    let c = clamped k in
    let front_long : length front ≡ 32 = length-set k 0 low ∙ long in
    let first : get_or c 0 0 ≡ low = get_or-set_other front 31 0 _ 0 (λ e. absurd (omega (arith, e))) ∙ get_or-set_same k 0 low 0 (omega arith) in
    let last : get_or c 31 0 ≡ bit_or (bit_and (get_or k 31 0) 127) 64 = get_or-set_same front 31 _ 0 (omega arith) in
    let first_same : bit_and (get_or c 0 0) 248 ≡ get_or c 0 0 = ap (λ t. bit_and t 248) first ∙ low_twice (get_or k 0 0) ∙ sym first in
    let last_same : bit_or (bit_and (get_or c 31 0) 127) 64 ≡ get_or c 31 0 = ap (λ t. bit_or (bit_and t 127) 64) last ∙ high_twice (get_or k 31 0) ∙ sym last in
    (λ i. set (set c 0 (first_same i)) 31 (last_same i))
    ∙ ap (λ t. set t 31 (get_or c 31 0)) (set-get_or c 0 0)
    ∙ set-get_or c 31 0
