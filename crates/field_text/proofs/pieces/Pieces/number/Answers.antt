use Rattle.field_text.specs.Fields.{number}
use Rattle.field_text.proofs.Nexts.{next_reads}
use Rattle.field_text.proofs.pieces.Pieces.number.Goals as goal

pub returns-clause-read : goal.returns-clause-read
returns-clause-read c =
    next_reads (number c.args.low c.args.high) c.args.self.now c.in_ok-piece.piece.now c.piece.new.self
    c.read_number.result c.in_ok-piece.ensures.taken c.read_number.ensures.read
