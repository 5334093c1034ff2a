use Rattle.sntrup_core.proofs.Decryption.{decrypts}
use Rattle.sntrup_core.proofs.laws.decrypts_exactly.Goals as goal

pub returns : goal.returns
returns g c =
    let laws = g.S.Params in
    decrypts laws.set laws.degree_least laws.modulus_least laws.modulus_odd laws.weight_most laws.weight_bound
