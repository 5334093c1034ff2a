use Rattle.std.proofs.Common.{◌≡◌, ◌++◌, List, ℕ, codes, ap, ◌∙◌, append_assoc}
use Rattle.std.proofs.lemmas.Slice.{pushed}
use Rattle.field_text.specs.Printing.{hex_text}
use Rattle.demo_runs.specs.Texts.{set_up_lines}
use Rattle.demo_runs.specs.SetUp.{seed_bytes}
use Rattle.demo_runs.proofs.texts.front_text.Goals as goal

joined : (hex : List ℕ) → (codes "hpkebatch 1\nrand " ++ hex) ++ (codes "\n" ++ set_up_lines)
    ≡ codes "hpkebatch 1\n" ++ ((codes "rand " ++ (hex ++ codes "\n")) ++ set_up_lines)
joined hex = simp append_assoc

pub returns : goal.returns
returns c =
    let hex : List ℕ = hex_text (seed_bytes c.args.seed) in
    let digits : c.as_str.result.now ≡ hex = c.as_str.ensures.value ∙ c.in_ok-digits.ensures in
    let a = pushed c.as_str.result.now c.in_ok-text.ensures.ok c.in_ok-push_str.was c.push_str.ensures.bytes in
    let b = pushed (codes "\n" ++ set_up_lines) a c.in_ok-push_str-2.was c.push_str-2.ensures.bytes in
    b ∙ ap (λ (text : List ℕ). (codes "hpkebatch 1\nrand " ++ text) ++ (codes "\n" ++ set_up_lines)) digits ∙ joined hex
