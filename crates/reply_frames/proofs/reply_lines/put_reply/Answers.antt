use Rattle.std.proofs.Common.{ap}
use Rattle.field_text.proofs.Held.{Puts-same}
use Rattle.batch_plans.specs.Lines.{exported_line}
use Rattle.reply_frames.proofs.reply_lines.put_reply.Goals as goal

pub returns-in-Exported : goal.returns-in-Exported
returns-in-Exported g c =
    rw c.in-Exported.is (Puts-same (ap exported_line c.of-in-Exported.ensures) c.put_exported.ensures)
