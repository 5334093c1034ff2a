use Rattle.std.proofs.Common.{◌≡◌, ◌+◌, ◌++◌, ℕ, List, length, ap, ap₂, refl, sym, ◌∙◌, arith}
use Rattle.hpke_aead.specs.Aeads.{seal}
use Rattle.library_calls.specs.Messages.{item, sealed_size, nonce_of}
use Rattle.library_calls.proofs.Sizes.{added-none, added-more, added-within, joined-none, joined-more}
use Rattle.library_calls.proofs.messages.seal_each.Goals as goal

pub loop-k-init : goal.loop-k-init
loop-k-init c =
    let f : ℕ → List ℕ = λ i. seal c.args.key.now (nonce_of c.args.base_nonce.now c.args.number i) (item c.args.aads.now i) (item c.args.texts.now i) in
    record {
      filled = sym (added-none (sealed_size c.args.texts.now));
      size = refl;
      sum = sym (joined-none f);
    }

pub put_sealed-filled-requires-clause-room : goal.put_sealed-filled-requires-clause-room
put_sealed-filled-requires-clause-room c =
    let texts = c.args.texts.now in
    let size : length c.item-in-loop-k.result.now ≡ length (item texts c.loop-k.k) =
    ap length c.item-in-loop-k.ensures in
    omega (arith, size, c.loop-k.invariant.filled, c.loop-k.invariant.size, c.requires.fits.room_is, added-within (sealed_size texts) c.loop-k.k (length texts) c.loop-k-test.true)

pub loop-k-preserved : goal.loop-k-preserved
loop-k-preserved c =
    let texts = c.args.texts.now in
    let aads = c.args.aads.now in
    let k = c.loop-k.k in
    let size : length c.item-in-loop-k.result.now ≡ length (item texts k) =
    ap length c.item-in-loop-k.ensures in
    let key = c.args.key.now in
    let f : ℕ → List ℕ = λ i. seal key (nonce_of c.args.base_nonce.now c.args.number i) (item aads i) (item texts i) in
    let ct : seal key c.nonce_at-nonce.result c.item.result.now c.item-in-loop-k.result.now ≡ f k =
    ap (λ n. seal key n c.item.result.now c.item-in-loop-k.result.now) c.nonce_at-nonce.ensures
    ∙ ap₂ (λ aad text. seal key (nonce_of c.args.base_nonce.now c.args.number k) aad text) c.item.ensures c.item-in-loop-k.ensures in
    record {
      filled = omega (arith, size, c.put_sealed-filled.ensures.end, c.loop-k.invariant.filled, added-more (sealed_size texts) k);
      size = c.put_sealed-filled.ensures.size ∙ c.loop-k.invariant.size;
      sum = c.put_sealed-filled.ensures.bytes
          ∙ ap₂ (λ front back. front ++ back) c.loop-k.invariant.sum ct
          ∙ sym (joined-more f k);
    }
