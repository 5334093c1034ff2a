use Rattle.std.proofs.Common.{◌∙◌, sym, ap, arith, rules}
use Rattle.std.specs.Str.{bytes_eq}
use Rattle.field_text.proofs.HexReading.{field_bytes}
use Rattle.field_text.proofs.fields.read_bytes.Goals as goal

pub returns-clause-read : goal.returns-clause-read
returns-clause-read c =
    let piece = c.args.piece.now in
    let dash = ap (bytes_eq piece) (sym c.as_slice.ensures) ∙ sym c.eq.ensures ∙ c.if-eq.false in
    field_bytes c.args.most c.args.pool.now.items piece c.len-start.result
    c.push_decoded.new.pool.items dash (omega arith) (omega arith) (omega arith)
    (search rules) (search rules) (search rules)
