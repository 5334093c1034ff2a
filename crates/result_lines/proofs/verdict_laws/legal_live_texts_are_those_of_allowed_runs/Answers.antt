use Rattle.result_lines.proofs.LiveTexts.{live_sound, live_complete_texts}
use Rattle.result_lines.proofs.verdict_laws.legal_live_texts_are_those_of_allowed_runs.Goals as goal

pub returns : goal.returns
returns c = λ plan keys replies standing text within. (
  live_sound plan keys replies standing text within,
  live_complete_texts plan keys replies standing text within,
)
