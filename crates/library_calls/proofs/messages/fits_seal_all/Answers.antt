use Rattle.std.proofs.Common.{◌≡◌, ◌<◌, ◌≤◌, ◌-◌, ◌^◌, length, ap, arith, rules}
use Rattle.library_calls.specs.Messages.{item, sealed_size}
use Rattle.library_calls.proofs.Sizes.{added-none, added-more, added-within, below-next}
use Rattle.library_calls.proofs.messages.fits_seal_all.Goals as goal

pub loop-k-init : goal.loop-k-init
loop-k-init c = record {
  sum = omega (arith, added-none (sealed_size c.args.texts.now));
  aad = λ j lt. absurd (omega (arith, lt));
  text = λ j lt. absurd (omega (arith, lt));
}

pub returns-in_default : goal.returns-in_default
returns-in_default c =
    let aads = c.args.aads.now in
    let texts = c.args.texts.now in
    let k = c.loop-k.k in
    let aad_is : length c.item.result.now ≡ length (item aads k) = ap length c.item.ensures in
    let text_is : length c.item-in-loop-k.result.now ≡ length (item texts k) =
    ap length c.item-in-loop-k.ensures in
    let lt = c.loop-k-test.true in
    (search rules, λ fits. absurd (omega (arith, aad_is, text_is, c.in_default.ensures.none, fits.aad k lt, fits.text k lt, fits.room_is, c.loop-k.invariant.sum, added-within (sealed_size texts) k (length texts) lt)))

pub loop-k-preserved : goal.loop-k-preserved
loop-k-preserved c =
    let aads = c.args.aads.now in
    let texts = c.args.texts.now in
    let k = c.loop-k.k in
    let told = c.in-Some.ensures.size in
    let aad_is : length c.item.result.now ≡ length (item aads k) = ap length c.item.ensures in
    let text_is : length c.item-in-loop-k.result.now ≡ length (item texts k) =
    ap length c.item-in-loop-k.ensures in
    let aad_fits : length (item aads k) < 2 ^ 61 = omega (arith, told, aad_is) in
    let text_fits : length (item texts k) ≤ 2 ^ 36 - 32 = omega (arith, told, text_is) in
    record {
      sum = omega (arith, told, text_is, c.loop-k.invariant.sum, added-more (sealed_size texts) k);
      aad = below-next (λ j. length (item aads j) < 2 ^ 61) k c.loop-k.invariant.aad aad_fits;
      text = below-next (λ j. length (item texts j) ≤ 2 ^ 36 - 32) k c.loop-k.invariant.text text_fits;
    }
