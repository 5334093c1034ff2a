use Rattle.std.proofs.Common.{◌≡◌, ◌+◌, ◌≤◌, ◌++◌, take, drop, length}
use Rattle.std.specs.Prelude.{slice_index}
use Rattle.call_places.specs.Entries.{own, seq_of, StampsBelow}
use Rattle.hpke_context.specs.Contexts.{cipher_of}
use Rattle.context_books.specs.Entries.{entries_from, steps_from, numbers_from}
use Rattle.context_books.specs.Guesses.{missed}
use Rattle.context_books.specs.Books.{SameTerms}
use Rattle.context_books.specs.Openings.{opening_steps, opening_misses, unseals}
use Rattle.context_books.proofs.book.Book.settle.Given as goal

-- with what is left of the call, the steps and the misses are what they will be
abbrev pub invariant-loop-i : goal.invariant-loop-i
invariant-loop-i l = record {
  terms : SameTerms l.initial.self l.self;
  steps : opening_steps l.context (seq_of l.initial.self.entries) l.pool l.items
      ≡ take l.i l.steps ++ steps_from (cipher_of l.context) (seq_of l.self.entries) (drop l.i (unseals l.pool l.items));
  entries : l.self.entries ≡ l.initial.self.entries ++ entries_from l.lane l.call 0 l.first_stamp (take l.i l.steps);
  missed : opening_misses l.context (seq_of l.initial.self.entries) l.pool l.items l.table.guess
      ≡ l.missed + missed l.table.guess l.i (numbers_from (cipher_of l.context) (seq_of l.self.entries) (drop l.i (unseals l.pool l.items)));
  few : l.missed ≤ l.i;
  least : l.initial.checks ≤ l.checks;
  most : l.checks ≤ l.initial.checks + l.missed;
  room : length (own l.lane l.self.entries) + length l.items ≤ slice_index l.initial.self.quotas l.lane + l.i;
  below : StampsBelow (l.first_stamp + l.i) l.self.entries;
}
