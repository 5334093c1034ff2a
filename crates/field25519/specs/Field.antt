-- The field of Curve25519 (RFC 7748, 4.1): the numbers below p, with sums, differences, products and
-- powers modulo p.
use Rattle.std.specs.Prelude.{ℕ, ◌+◌, ◌-◌, ◌*◌, ◌%◌, ◌^◌}

-- p = 2^255 - 19 (RFC 7748, 4.1)
unfoldable pub prime : ℕ
prime = 2 ^ 255 - 19

-- a + b
abbrev pub plus : ℕ → ℕ → ℕ
plus a b = (a + b) % prime

-- a - b, for b up to p
abbrev pub minus : ℕ → ℕ → ℕ
minus a b = (a + (prime - b)) % prime

-- a * b
abbrev pub times : ℕ → ℕ → ℕ
times a b = a * b % prime

-- a^n
abbrev pub power : ℕ → ℕ → ℕ
power a n = a ^ n % prime
