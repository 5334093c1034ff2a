-- The definition of the ladder, computed by the checker on the first vector of RFC 7748, 5.2. The last
-- power of the RFC can't be computed as it stands, so x_2 is compared with the output times z_2.
use Rattle.std.proofs.Common.{◌≡◌, ℕ, refl}
use Rattle.field25519.specs.Field.{prime, times}
use Rattle.x25519.specs.Ladder.{State, cswap, ladder_step, turn, after_turns}
use Rattle.x25519.specs.declared.ladder.Points.{Points}

-- decodeScalar25519 and decodeUCoordinate of the input, and the number of the output
scalar : ℕ
scalar = 0x449a44ba44226a50185afcc10a4c1462dd5e46824b15163b9d7c52f06be346a0

u_coordinate : ℕ
u_coordinate = 0x4c1cabd0a603a9103b35b326ec2466727c5fb124a4c19435db3030586768dbe6

output : ℕ
output = 0x5285a2775507b454f7711c4903cfec324f088df24dea948e90c6e99d3755dac3

abbrev is_quotient : Points → ℕ → Type 0
is_quotient s n = s.x2 ≡ times n s.z2

abbrev last : State → Points
last s = cswap s.swap s.points

published : is_quotient (last (after_turns scalar u_coordinate 255)) output
unfolding scalar u_coordinate output prime cswap ladder_step turn after_turns
published = refl
