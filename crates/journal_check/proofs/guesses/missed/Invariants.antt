use Rattle.std.proofs.Common.{◌≡◌, ◌+◌, ◌≤◌, drop}
use Rattle.context_books.specs.Guesses.{missed}
use Rattle.journal_check.proofs.guesses.missed.Given as goal

abbrev pub invariant-numbers : goal.invariant-numbers
invariant-numbers l = record {
  so_far : missed l.guess 0 l.numbers ≡ l.count + missed l.guess l.i (drop l.i l.numbers);
  few : l.count ≤ l.i;
}
