-- The field of AES (FIPS 197, 4) and the S-box (5.1.1). A byte is a number below 256, and bit i is
-- the coefficient of x^i in a polynomial over two elements, modulo x^8 + x^4 + x^3 + x + 1. The sum
-- of two bytes is `bit_xor`.
use Rattle.std.specs.Prelude.{ℕ, zero, suc, true, false, ◌+◌, ◌-◌, ◌*◌, ◌/◌, ◌%◌, ◌^◌, ◌==◌, bit_xor}
use Rattle.std.specs.Int.{bit_at}

-- x times a (4.2): each coefficient moves one place up, and x^8 is x^4 + x^3 + x + 1
unfoldable pub xtime : ℕ → ℕ
xtime a = bit_xor (a * 2 % 256) (a / 128 * 0x1b)

-- x^i times a
unfoldable pub by_power : ℕ → ℕ → ℕ
by_power zero a = a
by_power (suc i) a = xtime (by_power i a)

-- the terms of a below x^n, times b
unfoldable pub low_product : ℕ → ℕ → ℕ → ℕ
low_product zero a b = 0
low_product (suc i) a b = bit_xor (low_product i a b) (bit_at a i * by_power i b)

-- the product (4.2): the sum of a_i x^i b
unfoldable pub product : ℕ → ℕ → ℕ
product a b = low_product 8 a b

-- the first b with a b = 1 of the last n bytes, or 0 where there is none
unfoldable pub inverse_among : ℕ → ℕ → ℕ
inverse_among zero a = 0
inverse_among (suc n) a =
    elim (product a (255 - n) == 1) [ true ↦ 255 - n | false ↦ inverse_among n a ]

-- the inverse of a: the b with a b = 1, or 0 for 0, which has none (5.1.1)
unfoldable pub inverse : ℕ → ℕ
inverse a = inverse_among 255 a

-- bit i of the affine map of b (5.1.1), with the constant 0x63
abbrev pub affine_bit : ℕ → ℕ → ℕ
affine_bit b i = (bit_at b i + bit_at b ((i + 4) % 8) + bit_at b ((i + 5) % 8)
    + bit_at b ((i + 6) % 8) + bit_at b ((i + 7) % 8) + bit_at 0x63 i) % 2

-- the first n bits of the affine map of b
unfoldable pub affine_bits : ℕ → ℕ → ℕ
affine_bits zero b = 0
affine_bits (suc i) b = affine_bits i b + affine_bit b i * 2 ^ i

-- SBox (5.1.1): the affine map of the inverse
unfoldable pub s_box : ℕ → ℕ
s_box a = affine_bits 8 (inverse a)
