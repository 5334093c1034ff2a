use Rattle.std.proofs.Common.{◌+◌, ◌∙◌, sym, w8}
use Rattle.std.proofs.lemmas.Simd.{chunk-fits}
use Rattle.field_text.proofs.HexReading.{block_test, block_bytes}
use Rattle.field_text.proofs.hex_reading.block.Goals as goal

pub returns-then-are_all_values : goal.returns-then-are_all_values
returns-then-are_all_values c =
    let at = c.args.at in
    let xs = c.args.digits.now in
    let a = c.values-first.result in
    let b = c.values-second.result in
    let test = block_test at xs a b (chunk-fits w8 at 16 xs c.type_inv.digits)
    (chunk-fits w8 (at + 16) 16 xs c.type_inv.digits)
    c.values-first.ensures c.values-second.ensures in (
      test ∙ sym c.are_all_values.ensures ∙ c.if-are_all_values.true,
      c.joined.ensures ∙ block_bytes at xs a b c.values-first.ensures c.values-second.ensures,
    )

pub returns-else-are_all_values : goal.returns-else-are_all_values
returns-else-are_all_values c = λ good.
    let at = c.args.at in
    let xs = c.args.digits.now in
    let test = block_test at xs c.values-first.result c.values-second.result
    (chunk-fits w8 at 16 xs c.type_inv.digits)
    (chunk-fits w8 (at + 16) 16 xs c.type_inv.digits)
    c.values-first.ensures c.values-second.ensures in
    cc (sym good ∙ test ∙ sym c.are_all_values.ensures ∙ c.if-are_all_values.false)
