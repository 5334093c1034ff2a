use Rattle.field_text.proofs.HexReading.{values_of}
use Rattle.field_text.proofs.hex_reading.values.Goals as goal

pub returns : goal.returns
returns c = values_of c.args.digits 16 c.requires
