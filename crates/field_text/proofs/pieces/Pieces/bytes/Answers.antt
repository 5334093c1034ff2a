use Rattle.field_text.specs.Fields.{bytes}
use Rattle.field_text.proofs.Nexts.{next_gives}
use Rattle.field_text.proofs.pieces.Pieces.bytes.Goals as goal

pub returns-clause-read : goal.returns-clause-read
returns-clause-read c =
    next_gives _ (bytes c.args.most c.args.pool.now.items) c.args.self.now c.in_ok-piece.piece.now c.piece.new.self
    c.read_bytes.result c.in_ok-piece.ensures.taken c.read_bytes.ensures.read
