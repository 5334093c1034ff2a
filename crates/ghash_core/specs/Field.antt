-- The field of GCM (SP 800-38D, 6.3). An element is a block, a number below 2 ^ 128 whose highest
-- bit is the block's leftmost bit. Bit i from the left is the coefficient of u^i in a polynomial
-- over two elements, modulo u^128 + u^7 + u^2 + u + 1. The sum of two elements is `bit_xor`.
use Rattle.std.specs.Prelude.{◌≡◌, ◌<◌, List, slice_index, ℕ, zero, suc, ◌-◌, ◌*◌, ◌/◌, ◌%◌, ◌^◌, bit_xor}
use Rattle.std.specs.Int.{bit_at}

-- the coefficient of u^i
abbrev pub coefficient : ℕ → ℕ → ℕ
coefficient a i = bit_at a (127 - i)

-- R (6.3): 1 + u + u^2 + u^7, which is u^128
abbrev pub reduction : ℕ
reduction = 0xe1 * 2 ^ 120

-- the unit
abbrev pub one : ℕ
one = 2 ^ 127

-- u times a: each coefficient moves one place on, and u^128 is reduced
unfoldable pub by_u : ℕ → ℕ
by_u a = bit_xor (a / 2) (a % 2 * reduction)

-- u^i times a
unfoldable pub by_power : ℕ → ℕ → ℕ
by_power zero a = a
by_power (suc i) a = by_u (by_power i a)

-- the terms of a below u^n, times b
unfoldable pub low_product : ℕ → ℕ → ℕ → ℕ
low_product zero a b = 0
low_product (suc i) a b = bit_xor (low_product i a b) (coefficient a i * by_power i b)

-- the product (6.3): the sum of a_i u^i b
unfoldable pub product : ℕ → ℕ → ℕ
product a b = low_product 128 a b

-- h^n
unfoldable pub power : ℕ → ℕ → ℕ
power h zero = one
power h (suc n) = product (power h n) h

-- entry i is the product of h and the block i * 2^124, the polynomial of i's four bits
abbrev pub IsProducts : List ℕ → ℕ → Type 0
IsProducts products h = (i : ℕ) → i < 16 → slice_index products i ≡ product (i * 2 ^ 124) h
