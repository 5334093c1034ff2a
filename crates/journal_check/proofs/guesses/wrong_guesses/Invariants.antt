use Rattle.std.proofs.Common.{◌≡◌, drop}
use Rattle.result_lines.specs.Guesses.{wrong_guesses}
use Rattle.journal_check.specs.Walks.{run_in}
use Rattle.journal_check.proofs.guesses.wrong_guesses.Given as goal

abbrev pub invariant-lanes : goal.invariant-lanes
invariant-lanes l =
    wrong_guesses (run_in l.checked) 0 l.checked.guesses.now ≡ wrong_guesses (run_in l.checked) l.lane (drop l.lane l.checked.guesses.now)
