use Rattle.std.proofs.Common.{◌≡◌, ◌≤◌, ◌+◌, ◌*◌, length, ◌∙◌, arith}
use Rattle.aes_gcm.proofs.Streams.{gctr-next}
use Rattle.aes_gcm.proofs.key.GcmKey.add_blocks_of.Goals as goal

pub loop-k-preserved : goal.loop-k-preserved
loop-k-preserved c =
    let key = c.args.self.now in
    let nonce = c.args.nonce.now in
    let text = c.loop-k.text in
    let k = c.loop-k.k in
    let stream = c.next_block-stream.result in
    let more : 16 * k + 16 ≤ length text = omega (arith, c.loop-k.invariant.size) in
    let is = c.next_block-stream.ensures.block in
    let size : length stream ≡ 16 = omega arith in
    record {
      size = c.add_block_at.auto.text ∙ c.loop-k.invariant.size;
      last = c.next_block-stream.ensures.group;
      sum = gctr-next key nonce k text stream c.add_block_at.new.text _ is size more c.loop-k.invariant.sum c.add_block_at.ensures.sum c.add_block_at.ensures.rest;
    }
