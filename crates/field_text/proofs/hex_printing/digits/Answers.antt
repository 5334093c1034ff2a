use Rattle.field_text.proofs.HexPrinting.{digits_in_lanes}
use Rattle.field_text.proofs.hex_printing.digits.Goals as goal

pub returns : goal.returns
returns c = digits_in_lanes c.args.values 16 c.requires
