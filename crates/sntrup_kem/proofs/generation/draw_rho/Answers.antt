use Rattle.std.proofs.Common.{◌≡◌, ◌*◌, length, arith, ap, ◌∙◌}
use Rattle.sntrup_kem.proofs.Drawing.{length-front, length-word_bytes}
use Rattle.sntrup_kem.proofs.generation.draw_rho.Goals as goal

pub returns-clause-count : goal.returns-clause-count
returns-clause-count g c =
    let word = g.R.Words.word c.args.words.now in
    let place = g.R.Words.place c.args.words.now in
    let size = c.small_size-size.result in
    let drawn : length c.in_ok-bytes.bytes.items ≡ 4 * c.div_ceil.result =
    ap length c.in_ok-bytes.ensures.bytes ∙ length-word_bytes word place c.div_ceil.result
    in
    ap length c.from_vec.ensures.items
    ∙ ap length c.truncate.ensures.items
    ∙ length-front c.in_ok-bytes.bytes.items size (omega (arith, drawn, c.div_ceil.ensures))
    ∙ c.small_size-size.ensures.size
