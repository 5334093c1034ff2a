use Rattle.reply_frames.proofs.Chains.{◌⨾◌}
use Rattle.demo_runs.proofs.report_lines.put_report.Goals as goal

pub returns : goal.returns
returns g c =
    c.put_text.ensures ⨾ c.put_number.ensures ⨾ c.put_text-2.ensures ⨾ c.put_number-2.ensures ⨾ c.put_text-3.ensures
    ⨾ c.put_number-3.ensures ⨾ c.put_text-4.ensures ⨾ c.put_text-5.ensures ⨾ c.put_hex.ensures ⨾ c.put_text-6.ensures
