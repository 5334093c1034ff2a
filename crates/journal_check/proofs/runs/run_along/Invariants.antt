use Rattle.std.proofs.Common.{◌≡◌, ◌≤◌, ◌+◌, ◌++◌, map, drop}
use Rattle.hpke_context.specs.Answers.{run}
use Rattle.hpke_context.specs.Contexts.{cipher_of}
use Rattle.context_books.specs.Histories.{places}
use Rattle.context_books.specs.Entries.{numbers_from}
use Rattle.context_books.specs.Runs.{answer_line}
use Rattle.journal_check.specs.Runs.{items_at}
use Rattle.journal_check.proofs.runs.run_along.Given as goal

abbrev pub invariant-marks : goal.invariant-marks
invariant-marks l =
    let c = cipher_of l.initial.sequential.context in
    let left = items_at l.plan (places (drop l.mark-index l.marks)) in
    let all = items_at l.plan (places l.marks) in
    record {
      lines : l.lines.items ++ map answer_line (run c l.sequential.seq left) ≡ map answer_line (run c 0 all);
      numbers : l.numbers.items ++ numbers_from c l.sequential.seq left ≡ numbers_from c 0 all;
      context : l.sequential.context ≡ l.initial.sequential.context;
      checks : l.checks ≤ l.initial.checks + l.mark-index;
    }
