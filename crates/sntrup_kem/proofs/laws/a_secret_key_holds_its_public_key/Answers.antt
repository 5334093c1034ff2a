use Rattle.sntrup_kem.proofs.Agreement.{holds_public}
use Rattle.sntrup_kem.proofs.laws.a_secret_key_holds_its_public_key.Goals as goal

pub returns : goal.returns
returns g c = holds_public g.S.Params.set
