use Rattle.field_text.proofs.HexPrinting.{by_turns}
use Rattle.field_text.proofs.hex_printing.woven.Goals as goal

pub returns-clause-lanes : goal.returns-clause-lanes
returns-clause-lanes c = by_turns c.args.a c.args.b c.requires.0 c.requires.1
