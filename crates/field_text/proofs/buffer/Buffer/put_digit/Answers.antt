use Rattle.std.proofs.Common.{refl}
use Rattle.field_text.proofs.Held.{Puts-added}
use Rattle.field_text.proofs.buffer.Buffer.put_digit.Goals as goal

pub returns : goal.returns
returns g c = Puts-added c.make_room.ensures.text refl c.push.ensures.items
