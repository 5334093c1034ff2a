use Rattle.std.proofs.Common.{◌*◌, ◌++◌, ◌∙◌, ap, arith, bit_and, replicate, take}
use Rattle.std.proofs.lemmas.Simd.{length-zip2, length-chunk}
use lib.Lanes.{chunk}
use Rattle.field_text.proofs.HexPrinting.{two_stores, lane_digits}
use Rattle.field_text.proofs.hex_printing.write_digits.Goals as goal

pub digits-low-requires : goal.digits-low-requires
digits-low-requires c =
    let bytes = chunk c.args.at 16 c.args.bytes.now in
    let long = length-chunk c.args.at 16 c.args.bytes.now c.requires.bytes in
    length-zip2 bit_and bytes (replicate 16 15) long ∙ long

pub returns-clause-digits : goal.returns-clause-digits
returns-clause-digits c =
    let bytes = chunk c.args.at 16 c.args.bytes.now in
    let long = length-chunk c.args.at 16 c.args.bytes.now c.requires.bytes in
    let sizes = c.woven.ensures.sizes in
    let woven = lane_digits bytes c.digits-high.result c.digits-low.result long
    c.digits-high.ensures c.digits-low.ensures in
    two_stores (2 * c.args.at) c.args.room.now c.woven.result.0 c.woven.result.1 (omega arith)
    sizes.0 sizes.1
    ∙ ap (λ zs. take (2 * c.args.at) c.args.room.now ++ zs) (c.woven.ensures.lanes ∙ woven)
