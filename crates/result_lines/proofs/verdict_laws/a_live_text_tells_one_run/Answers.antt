use Rattle.std.proofs.Common.{refl}
use Rattle.context_books.specs.Live.{live_run_text, live_run_along}
use Rattle.result_lines.proofs.LiveTexts.{one_live_run}
use Rattle.result_lines.proofs.verdict_laws.a_live_text_tells_one_run.Goals as goal

pub returns : goal.returns
returns c = λ plan keys replies standing journals others guesses further notes tables within first second same.
    one_live_run plan keys replies standing (live_run_text keys (live_run_along plan replies standing journals guesses notes)) within journals others guesses further notes tables first second refl same
