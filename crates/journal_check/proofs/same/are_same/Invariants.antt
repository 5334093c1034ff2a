use Rattle.std.proofs.Common.{◌≡◌, length, drop}
use Rattle.context_books.specs.Checks.{are_same}
use Rattle.journal_check.proofs.same.are_same.Given as goal

abbrev pub invariant-values : goal.invariant-values
invariant-values g l = record {
  same : are_same g.T.Same.same (drop l.i l.values) (drop l.i l.others) ≡ are_same g.T.Same.same l.values l.others;
  size : length l.values ≡ length l.others;
}
