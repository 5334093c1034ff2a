use Rattle.std.proofs.Common.{◌≡◌, ℕ, ◌+◌, ◌*◌, take, ap, sym, ◌∙◌, arith, refl}
use Rattle.std.proofs.lemmas.List.{take_all}
use Rattle.x25519_kem.specs.Kem.{word_bytes}
use Rattle.x25519_kem.proofs.Drawing.{no_words, one_word}
use Rattle.x25519_kem.proofs.keys.draw_bytes.Goals as goal

pub loop-i-init : goal.loop-i-init
loop-i-init g c = record {
  place = omega arith;
  stays = refl;
  long = refl;
  bytes = sym (no_words (g.R.Words.word c.args.words.now) (g.R.Words.place c.args.words.now));
}

pub loop-i-preserved : goal.loop-i-preserved
loop-i-preserved g c =
    let i = c.loop-i.i in
    let next : 4 * (i + 1) ≡ 4 * i + 4 = omega arith in
    record {
      place = omega (arith, c.next_word.ensures.moves, c.loop-i.invariant.place);
      stays = c.next_word.ensures.stays ∙ c.loop-i.invariant.stays;
      long = c.put_word.array_long;
      bytes = ap (λ n. take n c.put_word.new.out) next
          ∙ c.put_word.ensures
          ∙ one_word (g.R.Words.word c.args.words.now) (g.R.Words.place c.args.words.now) i (take (4 * i) c.loop-i.bytes) c.next_word.result
          (c.next_word.ensures.value
          ∙ ap (λ (w : ℕ → ℕ). w (g.R.Words.place c.loop-i.words)) c.loop-i.invariant.stays
          ∙ ap (g.R.Words.word c.args.words.now) c.loop-i.invariant.place)
          c.loop-i.invariant.bytes;
    }

pub returns-clause-bytes : goal.returns-clause-bytes
returns-clause-bytes g c =
    let i = c.loop-i.i in
    let all : i ≡ 8 = omega arith in
    let whole = take_all (4 * i) c.loop-i.bytes (omega (arith, all, c.loop-i.invariant.long)) in
    sym whole
    ∙ c.loop-i.invariant.bytes
    ∙ ap (word_bytes (g.R.Words.word c.args.words.now) (g.R.Words.place c.args.words.now)) all
