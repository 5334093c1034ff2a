-- The line of a verdict, a format of this program's own. Numbers are decimal without leading zeros.
use Rattle.std.specs.Prelude.{ℕ, List, ◌++◌, ◌-◌, nat_lt, codes, decimal, if◌then◌else◌}
use Rattle.batch_plans.specs.Limits.{first_name}
use Rattle.result_lines.specs.declared.verdicts.Verdict.{Verdict}
use Rattle.result_lines.specs.declared.verdicts.Verdict.TheVariants.{Legal, Form, Journal, Table, Stamps, Reply, Guess}

-- `C`, and `+K` of a context that is added
abbrev pub context_called : ℕ → List ℕ
context_called number =
    if nat_lt number first_name then decimal number
    else codes "+" ++ decimal (number - first_name)

-- `legal`, or `broken` and what is wrong: `form LINE`, `journal C` or `journal +K`, `table`, `stamps`,
-- `reply LINE` or `guess LINE`
abbrev pub verdict_text : Verdict → List ℕ
verdict_text Legal = codes "legal\n"
verdict_text (Form line) = codes "broken form " ++ decimal line ++ codes "\n"
verdict_text (Journal context) = codes "broken journal " ++ context_called context ++ codes "\n"
verdict_text Table = codes "broken table\n"
verdict_text Stamps = codes "broken stamps\n"
verdict_text (Reply line) = codes "broken reply " ++ decimal line ++ codes "\n"
verdict_text (Guess line) = codes "broken guess " ++ decimal line ++ codes "\n"
