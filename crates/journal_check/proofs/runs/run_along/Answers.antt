use Rattle.std.proofs.Common.{ℕ, List, length, subst, sym, ◌∙◌}
use Rattle.hpke_context.specs.Contexts.{ContextView, cipher_of}
use Rattle.journal_check.specs.Runs.{CanDo, IsAskedIn}
use Rattle.journal_check.proofs.AskedItems.{get_in, asked_within, some_is, one_asked}
use Rattle.journal_check.proofs.Along.{line_more, number_more, count_fits, count_more, lines_end, numbers_end}
use Rattle.journal_check.proofs.runs.run_along.Goals as goal

pub asked_of-asked-requires-clause-some : goal.asked_of-asked-requires-clause-some
asked_of-asked-requires-clause-some c =
    let f = c.requires.fit _ (get_in c.args.marks.now c.marks.mark-index _ c.marks-test.true) in
    some_is _ f.asked f.at

pub answer-requires-clause-can : goal.answer-requires-clause-can
answer-requires-clause-can c =
    let f = c.requires.fit _ (get_in c.args.marks.now c.marks.mark-index _ c.marks-test.true) in
    subst (λ (v : ContextView). CanDo v c.asked_of-asked.result) (sym c.marks.invariant.context)
    (subst (CanDo c.args.sequential.now.context) (one_asked _ f.asked c.asked_of-asked.result f.at c.asked_of-asked.ensures) f.can)

pub answer-requires-clause-within : goal.answer-requires-clause-within
answer-requires-clause-within c =
    subst (λ (pool : List ℕ). IsAskedIn (length pool) c.asked_of-asked.result) (sym c.as_slice.ensures.items)
    (asked_within c.args.plan.now _ c.asked_of-asked.result c.requires.within c.asked_of-asked.ensures)

pub asked_of-asked-requires-clause-within : goal.asked_of-asked-requires-clause-within
asked_of-asked-requires-clause-within c = c.requires.within

pub answer-requires-clause-count : goal.answer-requires-clause-count
answer-requires-clause-count c =
    count_fits c.marks.checks c.args.checks.now c.marks.mark-index (length c.args.marks.now) c.marks.invariant.checks c.requires.count c.marks-test.true

pub marks-preserved : goal.marks-preserved
marks-preserved c =
    let plan = c.args.plan.now in
    let context = c.args.sequential.now.context in
    let marks = c.args.marks.now in
    let i = c.marks.mark-index in
    let s = c.marks.sequential in
    let inv = c.marks.invariant in
    let asked = c.asked_of-asked.result in
    let pool = c.as_slice.result.now in
    let line = c.in_ok-line.ensures in
    record {
      lines = line_more plan context marks i _ c.marks-test.true asked c.asked_of-asked.ensures s inv.context pool c.as_slice.ensures.items
          c.marks.lines.items c.push-in-marks.new.self.items c.from_vec.result c.answer.new.sequential.seq _
          (c.from_vec.ensures.items ∙ line.line) line.seq c.in_ok-push-2.ensures.items inv.lines;
      numbers = number_more plan context marks i _ c.marks-test.true asked c.asked_of-asked.ensures s inv.context pool c.as_slice.ensures.items
          c.marks.numbers.items c.push.new.self.items c.seq.result c.answer.new.sequential.seq _
          c.seq.ensures.seq line.seq c.in_ok-push.ensures.items inv.numbers;
      context = line.context ∙ inv.context;
      checks = count_more c.answer.new.checks c.marks.checks c.args.checks.now i line.checked inv.checks;
    }

pub returns-clause-lines : goal.returns-clause-lines
returns-clause-lines c =
    lines_end c.args.plan.now (cipher_of c.args.sequential.now.context) c.marks.sequential.seq c.args.marks.now c.marks.mark-index c.marks.lines.items _
    c.marks-test.false c.marks.invariant.lines

pub returns-clause-numbers : goal.returns-clause-numbers
returns-clause-numbers c =
    numbers_end c.args.plan.now (cipher_of c.args.sequential.now.context) c.marks.sequential.seq c.args.marks.now c.marks.mark-index c.marks.numbers.items _
    c.marks-test.false c.marks.invariant.numbers

pub returns-clause-context : goal.returns-clause-context
returns-clause-context c = c.marks.invariant.context
