use Rattle.std.proofs.Common.{◌==◌}
use Rattle.field_text.proofs.Cutting.{first_place}
use Rattle.field_text.proofs.cuts.place_of.Goals as goal

pub returns : goal.returns
returns c = first_place (λ byte. byte == c.args.separator) c.args.text.now c.memchr.result c.memchr.ensures
