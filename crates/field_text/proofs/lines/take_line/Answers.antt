use Rattle.std.proofs.Common.{◌∙◌, ℕ, Err, length, sum_by, refl, sym, ap, arith}
use Rattle.std.proofs.lemmas.List.Sums.{sum_by-cons}
use Rattle.std.specs.Str.{bytes_eq}
use Rattle.field_text.proofs.Judging.{bare_line, end_line, no_word, word_line}
use Rattle.field_text.proofs.Nexts.{stopped}
use Rattle.field_text.proofs.lines.take_line.Goals as goal

pub returns-clause-read : goal.returns-clause-read
returns-clause-read g c =
    let piece = c.in_ok-piece.piece.now in
    let other = ap (bytes_eq piece) (sym c.as_slice.ensures) ∙ sym c.eq.ensures ∙ c.if-eq.false in
    rw (word_line g.D.Draft.grammar (g.D.Draft.plan c.args.draft.now) c.args.line.now piece c.piece.new.self
    c.in_ok-word.word (sym c.of-fields.ensures.pieces ∙ c.in_ok-piece.ensures.taken) other c.in_ok-word.ensures)
    c.take_word.ensures.read

pub returns-then-eq-clause-read : goal.returns-then-eq-clause-read
returns-then-eq-clause-read g c =
    let piece = c.in_ok-piece.piece.now in
    let end = ap (bytes_eq piece) (sym c.as_slice.ensures) ∙ sym c.eq.ensures ∙ c.if-eq.true in
    rw (
      end_line g.D.Draft.grammar (g.D.Draft.plan c.args.draft.now) c.args.line.now piece c.piece.new.self
          (sym c.of-fields.ensures.pieces ∙ c.in_ok-piece.ensures.taken) end,
      c.in_ok-exactly.ensures.read,
    ) refl

pub returns-in_err-word-clause-read : goal.returns-in_err-word-clause-read
returns-in_err-word-clause-read g c =
    let piece = c.in_ok-piece.piece.now in
    let other = ap (bytes_eq piece) (sym c.as_slice.ensures) ∙ sym c.eq.ensures ∙ c.if-eq.false in
    stopped _ c.from_residual-in_err-word.result c.in_err-word.field-0.0 _ c.from_residual-in_err-word.ensures.1
    (no_word g.D.Draft.grammar (g.D.Draft.plan c.args.draft.now) c.args.line.now piece c.piece.new.self
    c.in_err-word.field-0.0 (sym c.of-fields.ensures.pieces ∙ c.in_ok-piece.ensures.taken) other c.in_err-word.ensures)

pub returns-in_err-exactly-clause-read : goal.returns-in_err-exactly-clause-read
returns-in_err-exactly-clause-read g c =
    let piece = c.in_ok-piece.piece.now in
    let end = ap (bytes_eq piece) (sym c.as_slice.ensures) ∙ sym c.eq.ensures ∙ c.if-eq.true in
    stopped _ c.from_residual-in_err-exactly.result c.in_err-exactly.field-0.0 _ c.from_residual-in_err-exactly.ensures.1
    (rw (
      end_line g.D.Draft.grammar (g.D.Draft.plan c.args.draft.now) c.args.line.now piece c.piece.new.self
          (sym c.of-fields.ensures.pieces ∙ c.in_ok-piece.ensures.taken) end,
      c.in_err-exactly.ensures.read,
    ) refl)

pub returns-in_err-piece-clause-read : goal.returns-in_err-piece-clause-read
returns-in_err-piece-clause-read g c =
    let none = c.in_err-piece.ensures.fields in
    stopped _ c.from_residual.result c.in_err-piece.field-0.0 _ c.from_residual.ensures.1
    (bare_line g.D.Draft.grammar (g.D.Draft.plan c.args.draft.now) c.args.line.now (sym c.of-fields.ensures.pieces ∙ none.1)
    ∙ ap (λ reason. Err reason) (sym none.0))

pub take_word-requires-clause-room : goal.take_word-requires-clause-room
take_word-requires-clause-room g c =
    let taken = c.in_ok-piece.ensures.taken in
    omega (
      arith,
      c.of-fields.ensures.size,
      ap (sum_by (length {A = ℕ})) taken,
      sum_by-cons (length {A = ℕ}) c.in_ok-piece.piece.now c.piece.new.self,
    )

pub take_word-requires-clause-few : goal.take_word-requires-clause-few
take_word-requires-clause-few g c =
    omega (arith, c.of-fields.ensures.count, ap length c.in_ok-piece.ensures.taken)
