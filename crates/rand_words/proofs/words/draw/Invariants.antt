use Rattle.std.proofs.Common.{◌≡◌, ◌+◌, ℕ, ◌<◌, get_or}
use Rattle.rand_words.proofs.words.draw.Given as goal

abbrev pub invariant-loop-i : goal.invariant-loop-i
invariant-loop-i g l = record {
  moves : g.R.Words.place l.words ≡ g.R.Words.place l.initial.words + l.i;
  stays : g.R.Words.word l.words ≡ g.R.Words.word l.initial.words;
  drawn : (k : ℕ) → k < l.i → get_or l.list k 0 ≡ g.R.Words.word l.initial.words (g.R.Words.place l.initial.words + k);
}
