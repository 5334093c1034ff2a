use Rattle.std.proofs.Common.{arith}
use Rattle.std.proofs.lemmas.List.{length-set}
use Rattle.field_text.specs.Cuts.{pieces_of, pieces_left}
use Rattle.field_text.proofs.Cutting.{one_more}
use Rattle.field_text.proofs.pieces.Pieces.of.Goals as goal

pub ahead-preserved : goal.ahead-preserved
ahead-preserved c =
    let found = c.ahead.found in
    let end = c.ahead.end in
    let piece = c.in-Some.piece in
    record {
      cut = one_more found end piece (pieces_left c.ahead.rest) (pieces_left c.cut_off.new.rest)
          (pieces_of c.args.line.now) (omega arith) c.in-Some.ensures.some c.ahead.invariant.cut;
      size = omega (arith, length-set found end piece);
      within = omega arith;
    }
