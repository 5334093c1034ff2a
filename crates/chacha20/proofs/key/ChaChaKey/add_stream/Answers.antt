use Rattle.std.proofs.Common.{◌≡◌, ◌≤◌, ◌<◌, ◌+◌, ◌*◌, ◌++◌, length, take, drop, length-drop, ap, sym, ◌∙◌, arith}
use Rattle.std.proofs.lemmas.List.{take_all, append-nil}
use Rattle.chacha20.proofs.Pieces.{encrypt_from-rest, encrypt_from-none}
use Rattle.chacha20.proofs.key.ChaChaKey.add_stream.Goals as goal

pub returns-then-pieces-text : goal.returns-then-pieces-text
returns-then-pieces-text c =
    let key = c.args.self.now in
    let nonce = c.args.nonce.now in
    let pieces = c.add_pieces-pieces.result in
    let text = c.add_pieces-pieces.new.text in
    let rest = drop (16 * pieces) text in
    let stream = c.next_piece-stream.result in
    let size : length stream ≡ 16 = omega arith in
    let some : 0 < length rest = omega (arith, length-drop (16 * pieces) text) in
    let short : length rest ≤ 16 = omega (arith, length-drop (16 * pieces) text) in
    c.add_rest.ensures
    ∙ ap (λ xs. take (16 * pieces) text ++ xs)
    (sym (encrypt_from-rest key nonce (c.args.i + pieces) rest stream c.next_piece-stream.ensures.piece size some short))
    ∙ c.add_pieces-pieces.ensures.sum

pub returns-else-pieces-text : goal.returns-else-pieces-text
returns-else-pieces-text c =
    let pieces = c.add_pieces-pieces.result in
    let text = c.add_pieces-pieces.new.text in
    let all : length text ≤ 16 * pieces = omega arith in
    let none : length (drop (16 * pieces) text) ≡ 0 = omega (arith, length-drop (16 * pieces) text) in
    sym (ap (λ xs. take (16 * pieces) text ++ xs) (encrypt_from-none c.args.self.now c.args.nonce.now (c.args.i + pieces) (drop (16 * pieces) text) none)
    ∙ append-nil (take (16 * pieces) text) ∙ take_all (16 * pieces) text all)
    ∙ c.add_pieces-pieces.ensures.sum
