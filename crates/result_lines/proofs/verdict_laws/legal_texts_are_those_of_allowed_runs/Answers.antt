use Rattle.result_lines.proofs.LegalTexts.{sound, complete}
use Rattle.result_lines.proofs.verdict_laws.legal_texts_are_those_of_allowed_runs.Goals as goal

pub returns : goal.returns
returns c = λ plan keys replies contexts text within standing. (
  sound plan keys replies contexts text within,
  complete plan keys replies contexts text within,
)
