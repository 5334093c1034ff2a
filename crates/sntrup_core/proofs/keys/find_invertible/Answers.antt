use Rattle.std.proofs.Common.{◌≡◌, ℕ, ◌+◌, ◌*◌, arith, ap, refl, ◌∙◌}
use Rattle.std.proofs.lemmas.Nat.{mul-le}
use Rattle.sntrup_core.specs.Keys.{FindsNone, IsExhausted}
use Rattle.sntrup_core.proofs.Draws.{room_for_draw, FindsNone-more, found_with}
use Rattle.sntrup_core.proofs.keys.find_invertible.Goals as goal

pub loop-draw-init : goal.loop-draw-init
unfolding FindsNone
loop-draw-init g c = record {
  place = omega arith;
  stays = refl;
  none = λ i l h. absurd (omega arith);
}

pub draw_invertible-requires : goal.draw_invertible-requires
draw_invertible-requires g c =
    omega (
      arith,
      c.loop-draw.invariant.place,
      room_for_draw g.S.Params.set.p (g.R.Words.place c.args.words.now) c.loop-draw._draw (omega arith) c.requires,
    )

pub loop-draw-preserved : goal.loop-draw-preserved
loop-draw-preserved g c =
    let here = rw c.in_default.is at c.in_ok-drawn.ensures.none in
    record {
      place = omega (arith, c.in_ok-drawn.ensures.taken, c.loop-draw.invariant.place);
      stays = c.in_ok-drawn.ensures.stays ∙ c.loop-draw.invariant.stays;
      none =
          FindsNone-more g.S.Params.set (g.R.Words.word c.args.words.now) (g.R.Words.word c.loop-draw.words) (g.R.Words.place c.args.words.now) (g.R.Words.place c.loop-draw.words) c.loop-draw._draw c.loop-draw.invariant.stays c.loop-draw.invariant.place c.loop-draw.invariant.none here;
    }

pub returns-in-Some-clause-some : goal.returns-in-Some-clause-some
returns-in-Some-clause-some g c =
    let here = rw c.in-Some.is at c.in_ok-drawn.ensures.some in
    found_with g.S.Params.set (g.R.Words.word c.args.words.now) (g.R.Words.word c.loop-draw.words) (g.R.Words.place c.args.words.now) (g.R.Words.place c.loop-draw.words) (g.R.Words.place c.draw_invertible.new.words) c.loop-draw._draw c.in-Some.found.g c.in-Some.found.ginv c.loop-draw.invariant.stays c.loop-draw.invariant.place (omega arith) c.loop-draw.invariant.none here c.in_ok-drawn.ensures.taken

pub returns-in-Some-clause-stays : goal.returns-in-Some-clause-stays
returns-in-Some-clause-stays g c = c.in_ok-drawn.ensures.stays ∙ c.loop-draw.invariant.stays

pub returns-clause-none : goal.returns-clause-none
unfolding IsExhausted FindsNone
returns-clause-none g c =
    let end : c.loop-draw._draw ≡ 64 = omega arith in (
      λ i l. c.loop-draw.invariant.none i (omega arith),
      omega (arith, c.loop-draw.invariant.place, ap {B = ℕ} (λ t. t * g.S.Params.set.p) end),
    )

pub returns-in-Some-clause-at_most : goal.returns-in-Some-clause-at_most
returns-in-Some-clause-at_most g c =
    let p = g.S.Params.set.p in
    let most = mul-le (c.loop-draw._draw + 1) p 64 p (omega arith) (omega arith) in (
      omega (arith, c.in_ok-drawn.ensures.taken, c.loop-draw.invariant.place),
      omega (arith, c.in_ok-drawn.ensures.taken, c.loop-draw.invariant.place, most),
    )
