use Rattle.std.proofs.Common.{◌≡◌, ◌<◌, ◌≤◌, ℕ, [], None, length, take}
use Rattle.std.specs.Prelude.{slice_index_or}
use Rattle.shared_runs.specs.Closing.{entries_of}
use Rattle.shared_runs.proofs.journals.cut_journals.Given as goal

abbrev pub invariant-books : goal.invariant-books
invariant-books l = record {
  cut : (n : ℕ) → n < l.i → slice_index_or l.journals n []
      ≡ take (length (entries_of (slice_index_or l.books n None)))
      (slice_index_or l.initial.journals n []);
  rest : (n : ℕ) → l.i ≤ n → slice_index_or l.journals n [] ≡ slice_index_or l.initial.journals n [];
}
