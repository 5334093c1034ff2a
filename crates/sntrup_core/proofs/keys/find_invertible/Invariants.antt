use Rattle.std.proofs.Common.{◌≡◌, ◌+◌, ◌*◌}
use Rattle.sntrup_core.specs.Keys.{FindsNone}
use Rattle.sntrup_core.proofs.keys.find_invertible.Given as goal

abbrev pub invariant-loop-draw : goal.invariant-loop-draw
invariant-loop-draw g l = record {
  place : g.R.Words.place l.words ≡ g.R.Words.place l.initial.words + l._draw * g.S.Params.set.p;
  stays : g.R.Words.word l.words ≡ g.R.Words.word l.initial.words;
  none : FindsNone g.S.Params.set (g.R.Words.word l.initial.words) (g.R.Words.place l.initial.words) l._draw;
}
