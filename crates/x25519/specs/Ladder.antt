-- The Montgomery ladder of X25519 (RFC 7748, 5), step by step and by the RFC's names. Numbers are modulo
-- p, and a byte string is a list of numbers below 256.
use Rattle.std.specs.Prelude.{ℕ, zero, suc, ◌-◌, ◌==◌, List, bit_xor, if◌then◌else◌}
use Rattle.std.specs.Int.{bit_at}
use Rattle.field25519.specs.Field.{prime, plus, minus, times, power}
use Rattle.field25519.specs.Coding.{decode_u_coordinate, encode_u_coordinate}
use Rattle.x25519.specs.Scalars.{decode_scalar}
use Rattle.x25519.specs.declared.ladder.Points.{Points}

-- a24 = (486662 - 2) / 4 (RFC 7748, 5)
abbrev pub a24 : ℕ
a24 = 121665

-- cswap, of x_2 with x_3 and of z_2 with z_3: they change places where swap is 1 (RFC 7748, 5)
unfoldable pub cswap : ℕ → Points → Points
cswap swap s = if swap == 1 then record { x2 = s.x3; z2 = s.z3; x3 = s.x2; z3 = s.z2 } else s

-- what a turn makes of x_2, z_2, x_3 and z_3 with x_1, from A = x_2 + z_2 on (RFC 7748, 5)
unfoldable pub ladder_step : ℕ → Points → Points
ladder_step x1 s =
    let a = plus s.x2 s.z2 in
    let aa = times a a in
    let b = minus s.x2 s.z2 in
    let bb = times b b in
    let e = minus aa bb in
    let c = plus s.x3 s.z3 in
    let d = minus s.x3 s.z3 in
    let da = times d a in
    let cb = times c b in
    record {
      x2 = times aa bb;
      z2 = times e (plus aa (times a24 e));
      x3 = times (plus da cb) (plus da cb);
      z3 = times x1 (times (minus da cb) (minus da cb));
    }

-- the points, and swap
pub record State : Type 0 where
  pub points : Points
  pub swap : ℕ

-- the turn for the bit k_t: swap ^= k_t, the exchange, swap = k_t, the step
unfoldable pub turn : ℕ → ℕ → State → State
turn x1 bit s = record { points = ladder_step x1 (cswap (bit_xor s.swap bit) s.points); swap = bit }

-- before the first turn
abbrev pub start : ℕ → State
start u = record { points = record { x2 = 1; z2 = 0; x3 = u; z3 = 1 }; swap = 0 }

-- after n turns, for t = 254, 253, .. (bits - 1 down to 0)
unfoldable pub after_turns : ℕ → ℕ → ℕ → State
after_turns k u zero = start u
after_turns k u (suc n) = turn u (bit_at k (254 - n)) (after_turns k u n)

-- x_2 * z_2^(p - 2), after the last exchange
abbrev pub quotient : Points → ℕ
quotient s = times s.x2 (power s.z2 (prime - 2))

-- the u-coordinate of k times the point whose u-coordinate is u
unfoldable pub ladder : ℕ → ℕ → ℕ
ladder k u = let s = after_turns k u 255 in quotient (cswap s.swap s.points)

-- X25519(k, u) (RFC 7748, 5)
abbrev pub x25519 : List ℕ → List ℕ → List ℕ
x25519 k u = encode_u_coordinate (ladder (decode_scalar k) (decode_u_coordinate u))
