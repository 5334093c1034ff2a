use Rattle.std.proofs.Common.{◌≡◌}
use Rattle.lattice_tests.proofs.rand_words_tests.first_words.Given as goal

abbrev pub invariant-loop-k : goal.invariant-loop-k
invariant-loop-k l = l.words.word_pos ≡ l.k
