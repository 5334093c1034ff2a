use Rattle.std.proofs.Common.{◌≡◌, ◌+◌, length, take, drop, bit_xor, length-drop, sym, ◌∙◌, arith}
use Rattle.std.proofs.lemmas.List.{length-take-le}
use Rattle.std.proofs.lemmas.Simd.{length-zip2, take_more_put_chunk}
use Rattle.byte_strings.specs.Bytes.{xor_bytes}
use Rattle.chacha20.proofs.XorBytes.{drop-put_chunk}
use Rattle.chacha20.proofs.adding.add_piece_at.Goals as goal

pub returns-clause-sum : goal.returns-clause-sum
returns-clause-sum c =
    let at = c.args.at in
    let text = c.args.text.now in
    let sum = xor_bytes (take 16 (drop at text)) c.args.stream.now in
    let long : length (take 16 (drop at text)) ≡ 16 = length-take-le 16 (drop at text) (omega (arith, length-drop at text)) in
    let size : length sum ≡ 16 = length-zip2 bit_xor (take 16 (drop at text)) c.args.stream.now (long ∙ sym c.told-stream) ∙ long in
    take_more_put_chunk at text sum (at + 16) (omega arith) (omega arith)

pub returns-clause-rest : goal.returns-clause-rest
returns-clause-rest c =
    let at = c.args.at in
    let text = c.args.text.now in
    let sum = xor_bytes (take 16 (drop at text)) c.args.stream.now in
    let long : length (take 16 (drop at text)) ≡ 16 = length-take-le 16 (drop at text) (omega (arith, length-drop at text)) in
    let size : length sum ≡ 16 = length-zip2 bit_xor (take 16 (drop at text)) c.args.stream.now (long ∙ sym c.told-stream) ∙ long in
    drop-put_chunk at (at + 16) text sum (omega (arith, size))
