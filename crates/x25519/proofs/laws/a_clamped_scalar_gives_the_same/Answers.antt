use Rattle.std.proofs.Common.{ℕ, List, ap}
use Rattle.field25519.specs.Coding.{decode_little_endian, decode_u_coordinate, encode_u_coordinate}
use Rattle.x25519.specs.Ladder.{ladder}
use Rattle.x25519.proofs.ClampLaws.{clamped_twice}
use Rattle.x25519.proofs.laws.a_clamped_scalar_gives_the_same.Goals as goal

pub returns : goal.returns
returns c = λ k u long.
    ap (λ (t : List ℕ). encode_u_coordinate (ladder (decode_little_endian t) (decode_u_coordinate u))) (clamped_twice k long)
