use Rattle.call_places.specs.declared.entries.Mark.{Mark}
use Rattle.journal_check.proofs.Linked.{link_past, link_firsts, link_next}
use Rattle.journal_check.proofs.links.link_place.Goals as goal

-- what an index past the end would read
abbrev no_mark : Mark
no_mark = record { place = record { lane = 0; call = 0; item = 0 }; stamp = 0 }

pub returns-then-lane-firsts-clause-firsts : goal.returns-then-lane-firsts-clause-firsts
returns-then-lane-firsts-clause-firsts c =
    link_past c.args.marks.now c.args.firsts.now c.args.i no_mark c.requires.there c.requires.firsts c.if-lane-firsts.true

pub returns-clause-next : goal.returns-clause-next
returns-clause-next c =
    link_next c.args.marks.now c.args.firsts.now c.args.i no_mark c.requires.there c.requires.firsts c.if-lane-firsts.false

pub returns-clause-firsts : goal.returns-clause-firsts
returns-clause-firsts c = link_firsts c.args.marks.now c.args.firsts.now c.args.i no_mark c.requires.there c.requires.firsts
