use Rattle.std.proofs.Common.{◌∙◌, ◌*◌, ◌+◌, get_or, slice_set, w8, arith}
use Rattle.std.proofs.lemmas.List.{length-set}
use Rattle.std.proofs.lemmas.Simd.{chunk-fits}
use Rattle.hex.specs.Hex.{lower_digits}
use Rattle.hex.proofs.Pairs.{encode_step}
use Rattle.field_text.proofs.HexPrinting.{digits_written, digits_done, high_digit, low_digit}
use Rattle.field_text.proofs.hex_printing.encode_front.Goals as goal

pub lanes-preserved : goal.lanes-preserved
lanes-preserved c =
    let bytes = c.args.bytes.now in
    let fits = chunk-fits w8 c.lanes.done 16 bytes c.type_inv.bytes in
    record {
      size = c.write_digits.ensures.size ∙ c.lanes.invariant.size;
      within = omega arith;
      digits = digits_written bytes c.lanes.room c.write_digits.new.room c.lanes.done fits
          c.write_digits.ensures.digits c.lanes.invariant.digits;
    }

pub rest-preserved : goal.rest-preserved
rest-preserved c =
    let i = c.rest.done in
    let byte = get_or c.args.bytes.now i 0 in
    let fits = (c.type_inv.bytes i).fits in
    let one = slice_set c.rest.room (2 * i) c.digit.result in
    record {
      size = length-set one (2 * i + 1) c.digit-in-rest.result
          ∙ length-set c.rest.room (2 * i) c.digit.result ∙ c.rest.invariant.size;
      within = omega arith;
      digits = encode_step lower_digits c.args.bytes.now c.rest.room i c.digit.result
          c.digit-in-rest.result (omega arith) (omega (arith, c.rest.invariant.size))
          (c.digit.ensures ∙ high_digit byte fits) (c.digit-in-rest.ensures ∙ low_digit byte fits)
          c.rest.invariant.digits;
    }

pub returns : goal.returns
returns c =
    digits_done c.args.bytes.now c.rest.room c.rest.done (omega arith) c.rest.invariant.digits
