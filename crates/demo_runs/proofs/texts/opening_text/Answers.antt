use Rattle.std.proofs.Common.{◌≡◌, ℕ, ◌++◌, List, codes, ap, sym, ◌∙◌, append_assoc, length, string_bytes, arith}
use Rattle.std.proofs.lemmas.Slice.{pushed}
use Rattle.std.specs.Fork.{slice_chunk}
use Rattle.demo_runs.specs.Texts.{front_text, opening_lines, opening_count, opening_line, opening_size}
use Rattle.demo_runs.proofs.Parts.{lines_more, grows}
use Rattle.demo_runs.proofs.texts.opening_text.Goals as goal

pub lines-preserved : goal.lines-preserved
lines-preserved c =
    let cts : List (List ℕ) = c.args.cts.now in
    let n : ℕ = c.lines.n in
    let line : List ℕ = opening_line (slice_chunk cts opening_size n) in
    grows (front_text c.args.seed) (codes "lane\n" ++ opening_lines cts n) line
    (c.in_ok-push_opening.ensures ∙ ap (λ (part : List (List ℕ)). string_bytes c.lines.text ++ opening_line part) c.part.ensures) c.lines.invariant
    (ap (λ (text : List ℕ). codes "lane\n" ++ text) (lines_more cts n) ∙ sym (append_assoc (codes "lane\n") (opening_lines cts n) line))

pub returns : goal.returns
returns c =
    let front : List ℕ = front_text c.args.seed in
    let lines : ℕ → List ℕ = λ n. codes "lane\n" ++ opening_lines c.args.cts.now n in
    let end = pushed (codes "end\n") c.lines.invariant c.in_ok-push_str-2.was c.push_str-2.ensures.bytes in
    let last : c.lines.n ≡ opening_count (length c.args.cts.now) = let e = c.div_ceil-n-end.ensures in omega arith in
    end ∙ append_assoc front (lines c.lines.n) (codes "end\n")
    ∙ ap (λ (n : ℕ). front ++ (lines n ++ codes "end\n")) last
