use Rattle.std.proofs.Common.{◌≡◌, ◌++◌, codes, string_bytes}
use Rattle.demo_runs.specs.Texts.{front_text, opening_lines}
use Rattle.demo_runs.proofs.texts.opening_text.Given as goal

abbrev pub invariant-lines : goal.invariant-lines
invariant-lines l =
    string_bytes l.text ≡ front_text l.seed ++ (codes "lane\n" ++ opening_lines l.cts l.n)
