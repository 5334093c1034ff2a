use Rattle.std.proofs.Common.{ℕ, List, codes, inl, inr, ap, sym, ◌∙◌, arith}
use Rattle.std.specs.Str.{bytes_eq}
use Rattle.std.proofs.lemmas.Bool.{cases_lt}
use Rattle.std.proofs.lemmas.List.{get_or_past}
use Rattle.std.proofs.lemmas.List.FromFn.{get_or-range_with_len}
use Rattle.hex.specs.Hex.{IsBytes}
use Rattle.call_places.specs.Spans.{span_bytes}
use Rattle.batch_plans.specs.AnswersText.{reply_line}
use Rattle.demo_runs.specs.Demo.{sealed_text}
use Rattle.demo_runs.proofs.Lines.{lines_same}
use Rattle.demo_runs.proofs.opening.is_opened.Goals as goal

text_are : IsBytes sealed_text
text_are i =
    elim (cases_lt i 64) [
      | inl low ↦ (let e = get_or-range_with_len 0 64 i 0 low in omega arith)
      | inr high ↦ (let e = get_or_past sealed_text i 0 high in omega arith)
    ]

pub returns-in-Opened : goal.returns-in-Opened
returns-in-Opened c = λ n small e.
    let bytes : List ℕ = span_bytes c.args.pool.now c.in-Opened.text in
    let same = lines_same (codes "opened ") n c.in-Opened.number sealed_text bytes (omega arith) c.see_number.ensures text_are
    (sym e ∙ ap (reply_line c.args.pool.now) c.in-Opened.is) in
    c.eq.ensures ∙ ap (λ (xs : List ℕ). bytes_eq xs c.as_slice.result.now) (c.of.ensures ∙ sym same.1)
    ∙ ap (bytes_eq sealed_text) c.as_slice.ensures
