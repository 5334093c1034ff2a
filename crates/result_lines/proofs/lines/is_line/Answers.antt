use Rattle.std.proofs.Common.{Some, None, ◌∙◌}
use Rattle.std.proofs.lemmas.Bool.Decides.{Decides-eqb}
use Rattle.std.proofs.lemmas.Slice.Eq.{strip_suffix_is}
use Rattle.result_lines.proofs.Feeds.{with_its_feed, without_feed}
use Rattle.result_lines.proofs.lines.is_line.Goals as goal

pub returns-in-Some : goal.returns-in-Some
returns-in-Some c =
    let is = strip_suffix_is Decides-eqb c.args.due.now c.as_slice.result.now (Some c.in-Some.body) c.in-Some.ensures.cases in
    let e = c.eq.ensures in
    e ∙ with_its_feed c.args.line.now c.in-Some.body.now c.args.due.now c.as_slice.result.now c.as_slice.ensures is

pub returns-in-None : goal.returns-in-None
returns-in-None c =
    without_feed c.args.line.now c.args.due.now c.as_slice.result.now c.as_slice.ensures
    (strip_suffix_is Decides-eqb c.args.due.now c.as_slice.result.now None c.in-None.ensures.cases)
