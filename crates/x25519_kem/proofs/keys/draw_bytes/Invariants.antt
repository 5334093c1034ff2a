use Rattle.std.proofs.Common.{◌≡◌, ◌+◌, ◌*◌, length, take}
use Rattle.x25519_kem.specs.Kem.{word_bytes}
use Rattle.x25519_kem.proofs.keys.draw_bytes.Given as goal

abbrev pub invariant-loop-i : goal.invariant-loop-i
invariant-loop-i g l = record {
  place : g.R.Words.place l.words ≡ g.R.Words.place l.initial.words + l.i;
  stays : g.R.Words.word l.words ≡ g.R.Words.word l.initial.words;
  long : length l.bytes ≡ 32;
  bytes : take (4 * l.i) l.bytes ≡ word_bytes (g.R.Words.word l.initial.words) (g.R.Words.place l.initial.words) l.i;
}
