use Rattle.context_table.proofs.Ends.{ends_match_lem}
use Rattle.context_table.proofs.laws.ends_match.Goals as goal

pub returns : goal.returns
returns c =
    let a = c.both_ends_agree.ensures in
    let b = c.both_ends_agree-2.ensures in
    ends_match_lem (record { short = a.short; agreement = a.agreement })
    (record { short = b.short; agreement = b.agreement })
