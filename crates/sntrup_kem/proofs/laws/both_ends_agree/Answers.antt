use Rattle.std.proofs.Common.{arith}
use Rattle.sntrup_kem.proofs.Rounds.{IsSet}
use Rattle.sntrup_kem.proofs.Agreement.{draws_short, both_ends}
use Rattle.sntrup_kem.proofs.laws.both_ends_agree.Goals as goal

pub returns : goal.returns
returns g c =
    let laws = g.S.Params in
    let s : IsSet laws.set = record {
      degree = laws.degree_least;
      least = laws.modulus_least;
      most = omega (arith, laws.modulus_most);
      odd = laws.modulus_odd;
      thirds = laws.half_thirds;
      weight = laws.weight_most;
      bound = laws.weight_bound;
    } in
    record { short = draws_short laws.set s; agreement = both_ends laws.set s }
