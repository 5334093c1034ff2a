use Rattle.std.proofs.Common.{◌≡◌, ◌<◌, ◌+◌, ◌-◌, [], length, take, slice_index_or, arith, sym, subst, ◌∙◌, get_or-take, length-take}
use Rattle.std.proofs.lemmas.List.{get_or_read}
use Rattle.speculative_open.specs.Tables.{TableView, Fits, OpensAt}
use Rattle.speculative_open.proofs.Verdicts.{verdict_read}
use Rattle.speculative_open.proofs.table.GuessTable.look.Goals as goal

pub returns-clause-tells : goal.returns-clause-tells
returns-clause-tells c = λ key base_nonce items x fits is.
    let i = c.args.i in
    let n = c.args.n in
    let k = c.in_ok-k.k in
    let table = c.self.inside in
    let checked = c.in_ok-k.ensures.some.0 in
    let whole = subst (λ (t : TableView). Fits t key base_nonce items) (sym c.self.view_is) fits in
    let shown : i < length (take table.used table.rows.items) = subst (λ (t : TableView). i < length t.rows) (sym c.self.view_is) c.requires.row in
    let short = length-take table.used table.rows.items in
    let row : slice_index_or (take table.used table.rows.items) i [] ≡ c.index.result.now =
    get_or-take table.used table.rows.items i [] (omega (arith, short)) ∙ sym (get_or_read table.rows.items i _ (omega (arith, short)) c.index.ensures []) in
    let is_place : n + k ≡ table.guess + i = c.in_ok-k.ensures.some.1 in
    let place : table.guess + i - n ≡ k = omega arith in
    verdict_read _ _ _ _ (OpensAt key base_nonce n x) row place (whole.each i x is n checked)
