use Rattle.result_lines.proofs.Cursors.{something_left}
use Rattle.std.proofs.Common.{◌≡◌, ◌<◌, ◌==◌, length, false, sym, ap, ◌∙◌, arith}
use Rattle.std.proofs.lemmas.Bool.Decides.{nat_tests}
use Rattle.result_lines.specs.Places.{ended}
use Rattle.result_lines.proofs.lines.Lines.end.Goals as goal

pub returns-else-is_empty : goal.returns-else-is_empty
returns-else-is_empty c =
    let some : (length c.self.inside.rest.now == 0) ≡ false = sym c.is_empty.ensures ∙ c.if-is_empty.false in
    let more : 0 < length c.self.inside.rest.now = grind (arith, nat_tests) in
    ap ended (sym c.self.view_is) ∙ something_left c.self.inside.number c.self.inside.rest.now more
