use Rattle.capsule_frames.proofs.Exchanging.{whole_exchanges_lem}
use Rattle.capsule_frames.proofs.laws.whole_exchanges.Goals as goal

pub returns : goal.returns
returns c =
    whole_exchanges_lem
    (record { short = c.both_ends_agree.ensures.short; whole = c.a_whole_exchange.ensures })
    (record { short = c.both_ends_agree-2.ensures.short; whole = c.a_whole_exchange-2.ensures })
