use Rattle.std.proofs.Common.{List, ℕ, refl, sym, ap, ◌∙◌, subst}
use Rattle.std.proofs.lemmas.Result.{err_from_is_err_and}
use Rattle.result_lines.specs.Readings.{Stops}
use Rattle.result_lines.specs.Told.{with_line}
use Rattle.result_lines.proofs.Taking.{notes_go_on, notes_stop}
use Rattle.result_lines.proofs.live_reading.read_notes.Goals as goal

pub returns-in_err-expect : goal.returns-in_err-expect
returns-in_err-expect c =
    let p = err_from_is_err_and c.from_residual-in_err-expect.result c.from_residual-in_err-expect.ensures.1 in
    let line = c.deref.ensures.value ∙ c.in_ok-line.ensures in
    rw (p.1, p.2) (notes_stop c.in_err-expect.field-0.0 c.args.notes.now c.notes.note-index _ _ c.notes.told _ c.notes-test.true refl
    (subst (λ (due : List ℕ). Stops c.in_err-expect.field-0.0 (with_line due c.notes.told)) line c.in_err-expect.ensures) c.notes.invariant)

pub notes-preserved : goal.notes-preserved
notes-preserved c =
    let line = c.deref.ensures.value ∙ c.in_ok-line.ensures in
    notes_go_on c.args.notes.now c.notes.note-index _ _ c.notes.told c.expect.new.self _ c.notes-test.true refl
    (ap (λ (due : List ℕ). with_line due c.notes.told) (sym line) ∙ c.in_ok-expect.ensures) c.notes.invariant
