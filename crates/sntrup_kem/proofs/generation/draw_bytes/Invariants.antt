use Rattle.std.proofs.Common.{◌≡◌, ◌+◌}
use Rattle.sntrup_kem.specs.Kem.{word_bytes}
use Rattle.sntrup_kem.proofs.generation.draw_bytes.Given as goal

abbrev pub invariant-loop-word : goal.invariant-loop-word
invariant-loop-word g l = record {
  place : g.R.Words.place l.words ≡ g.R.Words.place l.initial.words + l._word;
  stays : g.R.Words.word l.words ≡ g.R.Words.word l.initial.words;
  bytes : l.bytes.items ≡ word_bytes (g.R.Words.word l.initial.words) (g.R.Words.place l.initial.words) l._word;
}
