use Rattle.std.proofs.Common.{◌∙◌, sym, arith}
use Rattle.std.proofs.lemmas.List.{length-set}
use Rattle.field_text.proofs.HexReading.{pair_none, pair_some, pair_written, all_written}
use Rattle.field_text.proofs.hex_reading.decode.Goals as goal

pub returns-in-None-clause-good : goal.returns-in-None-clause-good
returns-in-None-clause-good c =
    let other = pair_none c.args.digits.now c.rest.done (omega arith) c.in-None.ensures in
    sym (c.rest.invariant.good ∙ other)

pub rest-preserved : goal.rest-preserved
rest-preserved c =
    let i = c.rest.done in
    let digits = c.args.digits.now in
    let room = c.rest.room in
    let byte = c.in-Some-pair.byte in
    let size = length-set room i byte in
    record {
      size = size ∙ c.rest.invariant.size;
      within = omega (arith, size);
      good = c.rest.invariant.good ∙ pair_some digits i (omega arith) c.in-Some-pair.ensures.0;
      bytes = pair_written digits room i byte (omega arith) (omega arith)
          c.in-Some-pair.ensures.1 c.rest.invariant.bytes;
    }

pub returns-clause-bytes : goal.returns-clause-bytes
returns-clause-bytes c = λ _.
    all_written c.args.digits.now c.rest.room c.rest.done (omega arith) (omega arith)
    c.rest.invariant.bytes
