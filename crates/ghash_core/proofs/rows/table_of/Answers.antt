use Rattle.std.proofs.Common.{◌≡◌, ◌<◌, ◌^◌, ◌∙◌, get_or, ap, arith}
use Rattle.ghash_core.specs.Field.{by_u, by_power}
use Rattle.ghash_core.specs.Rows.{row}
use Rattle.ghash_core.proofs.Tables.{row_moved}
use Rattle.ghash_core.proofs.rows.table_of.Goals as goal

pub returns : goal.returns
unfolding by_power
returns c =
    let h = c.args.h in
    let fits : h < 2 ^ 128 = omega arith in
    let moved : c.by_u.result ≡ by_power 4 h = c.by_u.ensures ∙ ap (λ xs. by_u (get_or xs 3 0)) c.terms.ensures in
    record {
      high = λ j lt. c.rows_of.ensures j lt;
      low = λ j lt. c.rows_of-2.ensures j lt ∙ ap (row j (2 ^ 124)) moved ∙ row_moved j h fits;
    }
