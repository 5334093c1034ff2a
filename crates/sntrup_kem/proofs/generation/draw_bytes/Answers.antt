use Rattle.std.proofs.Common.{ℕ, ◌++◌, ap, sym, ◌∙◌, arith, refl}
use Rattle.sntrup_kem.proofs.Drawing.{word_bytes-none, word_bytes-more}
use Rattle.sntrup_kem.proofs.generation.draw_bytes.Goals as goal

pub loop-word-init : goal.loop-word-init
loop-word-init g c = record {
  place = omega arith;
  stays = refl;
  bytes = c.new-bytes.ensures.items ∙ sym (word_bytes-none (g.R.Words.word c.args.words.now) (g.R.Words.place c.args.words.now));
}

pub loop-word-preserved : goal.loop-word-preserved
loop-word-preserved g c = record {
  place = omega (arith, c.next_word.ensures.moves, c.loop-word.invariant.place);
  stays = c.next_word.ensures.stays ∙ c.loop-word.invariant.stays;
  bytes = c.in_ok-extend_from_slice.ensures.items
      ∙ ap (λ t. c.loop-word.bytes.items ++ t) c.to_le_bytes.ensures
      ∙ word_bytes-more (g.R.Words.word c.args.words.now) (g.R.Words.place c.args.words.now) c.loop-word._word c.loop-word.bytes.items c.next_word.result
      (c.next_word.ensures.value
      ∙ ap (λ (w : ℕ → ℕ). w (g.R.Words.place c.loop-word.words)) c.loop-word.invariant.stays
      ∙ ap (g.R.Words.word c.args.words.now) c.loop-word.invariant.place)
      c.loop-word.invariant.bytes;
}
