use Rattle.std.proofs.Common.{◌≡◌, ◌<◌, ◌≤◌, ◌-◌, ◌^◌, length, ap, arith, rules}
use Rattle.library_calls.specs.Messages.{item, opened_size}
use Rattle.library_calls.proofs.Sizes.{added-none, added-more, added-within, below-next}
use Rattle.library_calls.proofs.messages.fits_open_all.Goals as goal

pub loop-k-init : goal.loop-k-init
loop-k-init c = record {
  sum = omega (arith, added-none (opened_size c.args.cts.now));
  aad = λ j lt. absurd (omega (arith, lt));
  most = λ j lt. absurd (omega (arith, lt));
}

pub returns-in_default : goal.returns-in_default
returns-in_default c =
    let aads = c.args.aads.now in
    let cts = c.args.cts.now in
    let k = c.loop-k.k in
    let aad_is : length c.item.result.now ≡ length (item aads k) = ap length c.item.ensures in
    let ct_is : length c.item-in-loop-k.result.now ≡ length (item cts k) =
    ap length c.item-in-loop-k.ensures in
    let lt = c.loop-k-test.true in
    (search rules, λ fits. absurd (omega (arith, aad_is, ct_is, c.in_default.ensures.none, fits.aad k lt, fits.most k lt, fits.room_is, c.loop-k.invariant.sum, added-within (opened_size cts) k (length cts) lt)))

pub loop-k-preserved : goal.loop-k-preserved
loop-k-preserved c =
    let aads = c.args.aads.now in
    let cts = c.args.cts.now in
    let k = c.loop-k.k in
    let told = c.in-Some.ensures.size in
    let aad_is : length c.item.result.now ≡ length (item aads k) = ap length c.item.ensures in
    let ct_is : length c.item-in-loop-k.result.now ≡ length (item cts k) =
    ap length c.item-in-loop-k.ensures in
    let aad_fits : length (item aads k) < 2 ^ 61 = omega (arith, told, aad_is) in
    let most_fits : length (item cts k) ≤ 2 ^ 36 - 16 = omega (arith, told, ct_is) in
    record {
      sum = omega (arith, told, ct_is, c.loop-k.invariant.sum, added-more (opened_size cts) k);
      aad = below-next (λ j. length (item aads j) < 2 ^ 61) k c.loop-k.invariant.aad aad_fits;
      most = below-next (λ j. length (item cts j) ≤ 2 ^ 36 - 16) k c.loop-k.invariant.most most_fits;
    }
