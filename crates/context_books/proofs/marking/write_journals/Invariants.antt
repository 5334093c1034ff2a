use Rattle.std.proofs.Common.{◌≡◌, ◌<◌, ◌≤◌, ℕ, [], get_or, None}
use Rattle.context_books.specs.Journals.{written}
use Rattle.context_books.proofs.marking.write_journals.Given as goal

abbrev pub invariant-books : goal.invariant-books
invariant-books l = record {
  done : (n : ℕ) → n < l.i → get_or l.journals n []
      ≡ written (get_or l.books n None) (get_or l.initial.journals n []);
  left : (n : ℕ) → l.i ≤ n → get_or l.journals n [] ≡ get_or l.initial.journals n [];
}
