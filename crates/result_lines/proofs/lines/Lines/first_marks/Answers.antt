use Rattle.std.proofs.Common.{◌≡◌, ◌++◌, ◌-◌, ◌+◌, ℕ, [], List, ap, ◌∙◌, arith}
use Rattle.std.specs.Prelude.{take}
use Rattle.std.proofs.lemmas.List.{take_all}
use Rattle.call_places.specs.declared.entries.Mark.{Mark}
use Rattle.result_lines.specs.Places.{MarksFound, marks_of}
use Rattle.result_lines.proofs.Cursors.{journal_ends, first_go_on}
use Rattle.result_lines.proofs.Steps.{nothing_more}
use Rattle.result_lines.proofs.lines.Lines.first_marks.Goals as goal

pub marks-preserved : goal.marks-preserved
marks-preserved c =
    let n = c.args.most in
    let i = c.marks._mark in
    ap (λ (xs : List Mark). xs ++ take (n - (i + 1)) (marks_of c.args.stamps c.mark.new.self).marks) c.in_ok-push-in-Some.ensures.items
    ∙ first_go_on c.args.stamps c.marks.self c.in-Some.mark c.mark.new.self n i c.marks.marks.items _ c.marks-test.true c.in-Some.ensures.some c.marks.invariant

pub returns-in-None : goal.returns-in-None
returns-in-None c =
    let n = c.args.most - c.marks._mark in
    nothing_more c.marks.marks.items (take n (marks_of c.args.stamps c.marks.self).marks) _
    (ap (λ (found : MarksFound). take n found.marks) (journal_ends c.args.stamps c.marks.self c.in-None.ensures.none.0) ∙ take_all n [] (omega arith))
    c.marks.invariant

pub returns : goal.returns
returns c =
    let end = c.marks-test.false in
    let left : c.args.most - c.marks._mark ≡ 0 = omega arith in
    let marks = (marks_of c.args.stamps c.marks.self).marks in
    nothing_more c.marks.marks.items (take (c.args.most - c.marks._mark) marks) _ (ap (λ (n : ℕ). take n marks) left) c.marks.invariant
