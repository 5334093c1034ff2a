use Rattle.std.proofs.Common.{◌≡◌, ◌*◌, ◌+◌, drop, ◌∙◌, ap, arith}
use Rattle.std.specs.List.{list_all}
use Rattle.std.proofs.lemmas.Simd.{length-put_chunk}
use Rattle.field_text.specs.Fields.{is_hex_digit}
use Rattle.field_text.proofs.HexReading.{block_none, block_some, block_written}
use Rattle.field_text.proofs.hex_reading.decode_blocks.Goals as goal

pub returns-in_err-bytes-clause-none : goal.returns-in_err-bytes-clause-none
returns-in_err-bytes-clause-none c =
    rw c.from_residual.ensures
    (c.lanes.invariant.good ∙ block_none (2 * c.lanes.done) c.args.digits.now c.in_err-bytes.ensures)

pub lanes-preserved : goal.lanes-preserved
lanes-preserved c =
    let i = c.lanes.done in
    let digits = c.args.digits.now in
    let room = c.lanes.room in
    let bytes = c.in_ok-bytes.bytes in
    let next : 2 * i + 32 ≡ 2 * (i + 16) = omega arith in
    let size = length-put_chunk i room bytes in
    record {
      size = size ∙ c.lanes.invariant.size;
      within = omega (arith, size);
      good = c.lanes.invariant.good ∙ block_some (2 * i) digits c.in_ok-bytes.ensures.0
          ∙ ap (λ k. list_all is_hex_digit (drop k digits)) next;
      bytes = block_written i digits room bytes (omega arith) (omega arith) (omega arith)
          c.in_ok-bytes.ensures.1 c.lanes.invariant.bytes;
    }
