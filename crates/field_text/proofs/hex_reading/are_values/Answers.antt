use Rattle.field_text.proofs.HexReading.{tested}
use Rattle.field_text.proofs.hex_reading.are_values.Goals as goal

pub returns : goal.returns
returns c = tested c.args.values c.requires
