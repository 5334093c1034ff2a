use Rattle.std.proofs.Common.{◌≤◌, length, arith, sym, subst}
use Rattle.speculative_open.specs.Tables.{TableView}
use Rattle.speculative_open.proofs.Verdicts.{fits_taken}
use Rattle.speculative_open.proofs.table.GuessTable.fill_alone.Goals as goal

pub returns-clause-fits : goal.returns-clause-fits
returns-clause-fits c =
    let few : length c.args.items.now ≤ length c.self.inside.rows.items =
    subst (λ (t : TableView). length c.args.items.now ≤ t.room) (sym c.self.view_is) c.requires.room in
    fits_taken _ c.args.guess c.args.limit c.self.inside.rows.len c.args.key.now c.args.base_nonce.now c.args.pool.now c.args.items.now
    c.fill_alone.new.rows _ (omega arith) (omega arith) c.fill_alone.ensures
