use Rattle.std.proofs.Common.{◌∙◌, sym, rules}
use Rattle.std.proofs.lemmas.Bool.{eqb-true}
use Rattle.field_text.proofs.Judging.{trailing, whole_text}
use Rattle.field_text.proofs.lines.read_whole.Goals as goal

pub returns-then-not-is_empty-clause-read : goal.returns-then-not-is_empty-clause-read
returns-then-not-is_empty-clause-read g c =
    rw c.bad.ensures (trailing _ (g.D.Draft.plan c.in_ok-front.front.draft) c.in_ok-front.front.lines c.in_ok-front.front.rest.now c.in_ok-front.ensures.read (search rules))

pub returns-clause-read : goal.returns-clause-read
returns-clause-read g c =
    let front = c.in_ok-front.front in
    whole_text _ (g.D.Draft.plan front.draft) front.lines front.rest.now c.in_ok-front.ensures.read
    (eqb-true _ _ (sym c.is_empty.ensures ∙ c.if-not-is_empty.false))
