use Rattle.ohttp_capsule.proofs.Exchanging.{whole_exchange_lem}
use Rattle.ohttp_capsule.proofs.laws.a_whole_exchange.Goals as goal

pub returns : goal.returns
returns g c =
    whole_exchange_lem g.S.Params.set g.S.KemParams.ID c.both_ends_agree.ensures.agreement
