use Rattle.std.proofs.Common.{◌≡◌, ◌≤◌, ◌<◌, ◌+◌, ◌*◌, ◌++◌, length, take, drop, length-drop, ap, sym, ◌∙◌, arith}
use Rattle.std.proofs.lemmas.List.{take_all, append-nil}
use Rattle.aes_gcm.proofs.Streams.{gctr_from-rest, gctr_from-none}
use Rattle.aes_gcm.proofs.key.GcmKey.add_key_stream.Goals as goal

pub returns-then-blocks-text-clause-sum : goal.returns-then-blocks-text-clause-sum
returns-then-blocks-text-clause-sum c =
    let key = c.args.self.now in
    let nonce = c.args.nonce.now in
    let text = c.add_blocks_of-blocks.new.text in
    let blocks = c.add_blocks_of-blocks.result in
    let rest = drop (16 * blocks) text in
    let stream = c.next_block-stream.result in
    let size : length stream ≡ 16 = omega arith in
    let some : 0 < length rest = omega (arith, length-drop (16 * blocks) text) in
    let short : length rest ≤ 16 = omega (arith, length-drop (16 * blocks) text) in
    c.add_rest.ensures
    ∙ ap (λ xs. take (16 * blocks) text ++ xs)
    (sym (gctr_from-rest key nonce (blocks + 1) rest stream c.next_block-stream.ensures.block size some short))
    ∙ c.add_blocks_of-blocks.ensures.sum

pub returns-else-blocks-text-clause-sum : goal.returns-else-blocks-text-clause-sum
returns-else-blocks-text-clause-sum c =
    let text = c.add_blocks_of-blocks.new.text in
    let blocks = c.add_blocks_of-blocks.result in
    let all : length text ≤ 16 * blocks = omega arith in
    let none : length (drop (16 * blocks) text) ≡ 0 = omega (arith, length-drop (16 * blocks) text) in
    sym (ap (λ xs. take (16 * blocks) text ++ xs) (gctr_from-none c.args.self.now c.args.nonce.now (blocks + 1) (drop (16 * blocks) text) none)
    ∙ append-nil (take (16 * blocks) text) ∙ take_all (16 * blocks) text all)
    ∙ c.add_blocks_of-blocks.ensures.sum
