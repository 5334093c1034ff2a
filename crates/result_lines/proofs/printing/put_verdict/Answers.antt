use Rattle.std.proofs.Common.{sym, ap}
use Rattle.field_text.proofs.Held.{Puts-same}
use Rattle.result_lines.specs.VerdictText.{verdict_text}
use Rattle.result_lines.proofs.printing.put_verdict.Goals as goal

pub returns-in-Legal : goal.returns-in-Legal
returns-in-Legal g c = Puts-same (ap verdict_text (sym c.in-Legal.is)) c.put_text.ensures

pub returns-in-Form : goal.returns-in-Form
returns-in-Form g c = Puts-same (ap verdict_text (sym c.in-Form.is)) c.put_numbered.ensures

pub returns-in-Journal : goal.returns-in-Journal
returns-in-Journal g c = Puts-same (ap verdict_text (sym c.in-Journal.is)) c.put_journal.ensures

pub returns-in-Table : goal.returns-in-Table
returns-in-Table g c = Puts-same (ap verdict_text (sym c.in-Table.is)) c.put_text-in-Table.ensures

pub returns-in-Stamps : goal.returns-in-Stamps
returns-in-Stamps g c = Puts-same (ap verdict_text (sym c.in-Stamps.is)) c.put_text-in-Stamps.ensures

pub returns-in-Reply : goal.returns-in-Reply
returns-in-Reply g c = Puts-same (ap verdict_text (sym c.in-Reply.is)) c.put_numbered-in-Reply.ensures

pub returns-in-Guess : goal.returns-in-Guess
returns-in-Guess g c = Puts-same (ap verdict_text (sym c.in-Guess.is)) c.put_numbered-in-Guess.ensures
