use Rattle.std.proofs.Common.{◌≡◌, ◌+◌, [], get_or, refl, sym, ap, subst, ◌∙◌, arith, inl, inr}
use Rattle.std.proofs.lemmas.Bool.{cases_lt}
use Rattle.std.proofs.lemmas.Grind.{get_or-set_at}
use Rattle.std.proofs.lemmas.List.{get_or-set_other}
use Rattle.std.proofs.lemmas.Option.{get_or_from_slice_get}
use Rattle.call_places.specs.declared.spans.Item.{Item}
use Rattle.call_places.specs.Messages.{sealed_message}
use Rattle.speculative_open.specs.Tables.{IsRow}
use Rattle.speculative_open.proofs.Verdicts.{row_moved}
use Rattle.speculative_open.proofs.rows.Opener.fill_piece.Goals as goal

pub loop-j-preserved : goal.loop-j-preserved
loop-j-preserved c = λ m item l is.
    let self = c.args.self.now in
    let items = c.args.items.now in
    let rows = c.loop-j.rows in
    let start = c.args.start in
    let j = c.loop-j.j in
    let none : Item = record { aad = record { start = 0; len = 0 }; text = record { start = 0; len = 0 } } in
    elim (cases_lt m j) [
      | inl before ↦
          row_moved self.guess self.limit self.key.now self.base_nonce.now (start + m) (start + m) (sealed_message self.pool.now item) _ _ refl
          (sym (get_or-set_other rows j m c.row.result [] (λ e. omega arith))) (c.loop-j.invariant m item before is)
      | inr past ↦
          let same : m ≡ j = omega arith in
          row_moved self.guess self.limit self.key.now self.base_nonce.now (start + j) (start + m) (sealed_message self.pool.now item) c.row.result _ (omega arith)
          (sym (get_or-set_at rows j m c.row.result [] same (omega arith)))
          (subst (λ it. IsRow self.guess self.limit self.key.now self.base_nonce.now (start + j) (sealed_message self.pool.now it) c.row.result)
          (ap (λ k. get_or items (start + k) none) (sym same) ∙ get_or_from_slice_get items (start + m) item none is) c.row.ensures)
    ]
