use Rattle.std.proofs.Common.{refl}
use Rattle.context_books.specs.Runs.{run_text, run_along}
use Rattle.result_lines.proofs.LegalTexts.{one_run}
use Rattle.result_lines.proofs.verdict_laws.a_text_tells_one_run.Goals as goal

pub returns : goal.returns
returns c = λ plan keys replies contexts journals others guesses further within standing first second same.
    one_run plan keys replies contexts (run_text keys replies (run_along plan contexts journals guesses)) within journals others guesses further first second refl same
