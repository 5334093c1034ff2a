use Rattle.std.proofs.Common.{◌≡◌, ◌+◌, ◌++◌, ℕ, List, length, ap, ap₂, refl, sym, ◌∙◌, arith}
use Rattle.hpke_aead.specs.Aeads.{clear}
use Rattle.library_calls.specs.Messages.{item, opened_size, nonce_of}
use Rattle.library_calls.proofs.Sizes.{added-none, added-more, added-within, joined-none, joined-more}
use Rattle.library_calls.proofs.messages.open_each.Goals as goal

pub loop-k-init : goal.loop-k-init
loop-k-init c =
    let f : ℕ → List ℕ = λ i. clear c.args.key.now (nonce_of c.args.base_nonce.now c.args.number i) (item c.args.cts.now i) in
    record {
      filled = sym (added-none (opened_size c.args.cts.now));
      size = refl;
      sum = sym (joined-none f);
    }

pub put_opened-filled-requires-clause-room : goal.put_opened-filled-requires-clause-room
put_opened-filled-requires-clause-room c =
    let cts = c.args.cts.now in
    let size : length c.item-in-loop-k.result.now ≡ length (item cts c.loop-k.k) =
    ap length c.item-in-loop-k.ensures in
    omega (arith, size, c.loop-k.invariant.filled, c.loop-k.invariant.size, c.requires.fits.room_is, added-within (opened_size cts) c.loop-k.k (length cts) c.loop-k-test.true)

pub loop-k-preserved : goal.loop-k-preserved
loop-k-preserved c =
    let cts = c.args.cts.now in
    let k = c.loop-k.k in
    let size : length c.item-in-loop-k.result.now ≡ length (item cts k) =
    ap length c.item-in-loop-k.ensures in
    let key = c.args.key.now in
    let f : ℕ → List ℕ = λ i. clear key (nonce_of c.args.base_nonce.now c.args.number i) (item cts i) in
    let text : clear key c.nonce_at-nonce.result c.item-in-loop-k.result.now ≡ f k =
    ap₂ (λ n ct. clear key n ct) c.nonce_at-nonce.ensures c.item-in-loop-k.ensures in
    record {
      filled = omega (arith, size, c.put_opened-filled.ensures.end, c.loop-k.invariant.filled, added-more (opened_size cts) k);
      size = c.put_opened-filled.ensures.size ∙ c.loop-k.invariant.size;
      sum = c.put_opened-filled.ensures.bytes
          ∙ ap₂ (λ front back. front ++ back) c.loop-k.invariant.sum text
          ∙ sym (joined-more f k);
    }
