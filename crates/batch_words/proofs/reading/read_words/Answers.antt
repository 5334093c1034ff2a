use Rattle.std.proofs.Common.{◌≡◌, ◌∙◌, ◌-◌, ◌≤◌, ℕ, Global, List, [], ◌∷◌, Result, IfOk, Option, String, ap, arith, codes, drop, get_or, length, map, rules, subst, sym, take}
use Rattle.std.specs.String.{string_bytes}
use Rattle.std.proofs.lemmas.List.{take_all}
use Rattle.std.proofs.lemmas.Result.{IfOk-weaker}
use Rattle.batch_words.specs.Words.{command_of}
use Rattle.batch_words.specs.declared.commands.Command.{Command}
use Rattle.batch_words.proofs.Within.{capsules_read, check_read, demo_read, live_read, rehearse_read, run_read}
use Rattle.batch_words.proofs.reading.read_words.Goals as goal

-- the texts of all words but the first
abbrev rest_of : List (String Global) → List (List ℕ)
rest_of words = map string_bytes (take (length words - 1) (drop 1 words))

first_and_rest : (words : List (String Global)) (first : String Global) → 1 ≤ length words → first ≡ get_or words 0 first
    → map string_bytes words ≡ string_bytes first ∷ rest_of words
first_and_rest [] first some is = absurd (omega arith)
first_and_rest (word ∷ more) first some is =
    let rest : take (length (word ∷ more) - 1) (drop 1 (word ∷ more)) ≡ more = take_all _ more (omega arith) in
    ap (λ one. string_bytes one ∷ map string_bytes more) (sym is) ∙ ap (λ left. string_bytes first ∷ map string_bytes left) (sym rest)

-- the command of words whose first is `name`
at_name : {E : Type 0} (words : List (String Global)) (first : String Global) (name : List ℕ) (result : Result (Option Command) E)
    → 1 ≤ length words → first ≡ get_or words 0 first → string_bytes first ≡ name
    → IfOk result (λ command. command ≡ command_of (name ∷ rest_of words))
    → IfOk result (λ command. command ≡ command_of (map string_bytes words))
at_name words first name result some is named read =
    let same : map string_bytes words ≡ name ∷ rest_of words =
    first_and_rest words first some is ∙ ap (λ word. word ∷ rest_of words) named in
    subst (λ texts. IfOk result (λ command. command ≡ command_of texts)) (sym same) read

pub returns-in-run-clause-command : goal.returns-in-run-clause-command
returns-in-run-clause-command c =
    at_name _ _ (codes "run") _ c.in-len1-up.len_at_least c.first-item.is (sym c.as_str.ensures.value ∙ c.in-run.is) (search rules)

pub returns-in-run-clause-within : goal.returns-in-run-clause-within
returns-in-run-clause-within c = IfOk-weaker c.read_run.result _ _ (run_read (rest_of c.args.words.now)) c.read_run.ensures

pub returns-in-live-clause-command : goal.returns-in-live-clause-command
returns-in-live-clause-command c =
    at_name _ _ (codes "live") _ c.in-len1-up.len_at_least c.first-item.is (sym c.as_str.ensures.value ∙ c.in-live.is) (search rules)

pub returns-in-live-clause-within : goal.returns-in-live-clause-within
returns-in-live-clause-within c = IfOk-weaker c.read_live.result _ _ (live_read (rest_of c.args.words.now)) c.read_live.ensures

pub returns-in-rehearse-clause-command : goal.returns-in-rehearse-clause-command
returns-in-rehearse-clause-command c =
    at_name _ _ (codes "rehearse") _ c.in-len1-up.len_at_least c.first-item.is (sym c.as_str.ensures.value ∙ c.in-rehearse.is) (search rules)

pub returns-in-rehearse-clause-within : goal.returns-in-rehearse-clause-within
returns-in-rehearse-clause-within c = IfOk-weaker c.read_rehearse.result _ _ (rehearse_read (rest_of c.args.words.now)) c.read_rehearse.ensures

pub returns-in-demo-clause-command : goal.returns-in-demo-clause-command
returns-in-demo-clause-command c =
    at_name _ _ (codes "demo") _ c.in-len1-up.len_at_least c.first-item.is (sym c.as_str.ensures.value ∙ c.in-demo.is) (search rules)

pub returns-in-demo-clause-within : goal.returns-in-demo-clause-within
returns-in-demo-clause-within c = IfOk-weaker c.read_demo.result _ _ (demo_read (rest_of c.args.words.now)) c.read_demo.ensures

pub returns-in-check-clause-command : goal.returns-in-check-clause-command
returns-in-check-clause-command c =
    at_name _ _ (codes "check") _ c.in-len1-up.len_at_least c.first-item.is (sym c.as_str.ensures.value ∙ c.in-check.is) (search rules)

pub returns-in-check-clause-within : goal.returns-in-check-clause-within
returns-in-check-clause-within c = IfOk-weaker c.read_check.result _ _ (check_read (rest_of c.args.words.now)) c.read_check.ensures

pub returns-in-capsules-clause-command : goal.returns-in-capsules-clause-command
returns-in-capsules-clause-command c =
    at_name _ _ (codes "capsules") _ c.in-len1-up.len_at_least c.first-item.is (sym c.as_str.ensures.value ∙ c.in-capsules.is) (search rules)

pub returns-in-capsules-clause-within : goal.returns-in-capsules-clause-within
returns-in-capsules-clause-within c = IfOk-weaker c.read_capsules.result _ _ (capsules_read (rest_of c.args.words.now)) c.read_capsules.ensures
