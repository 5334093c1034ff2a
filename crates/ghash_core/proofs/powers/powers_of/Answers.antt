use Rattle.std.proofs.Common.{◌<◌, ◌^◌, ◌∙◌, ap, subst, arith}
use Rattle.ghash_core.specs.Field.{product}
use Rattle.ghash_core.specs.Rows.{IsTable}
use Rattle.ghash_core.proofs.FourBlocks.{power-two, power-next}
use Rattle.ghash_core.proofs.powers.powers_of.Goals as goal

pub returns : goal.returns
returns c =
    let h = c.args.h in
    let fits : h < 2 ^ 128 = omega arith in
    let table = c.table_of-first.ensures in
    let second = c.product_by-second.ensures h fits table ∙ ap (λ x. product x h) c.to_lanes.ensures ∙ power-two h fits in
    let third = c.product_by-third.ensures h fits table ∙ ap (λ x. product x h) second ∙ power-next h 2 in
    let fourth = c.product_by-fourth.ensures h fits table ∙ ap (λ x. product x h) third ∙ power-next h 3 in
    record {
      first = table;
      second = subst (IsTable c.table_of.result) (c.from_lanes.ensures ∙ second) c.table_of.ensures;
      third = subst (IsTable c.table_of-2.result) (c.from_lanes-2.ensures ∙ third) c.table_of-2.ensures;
      fourth = subst (IsTable c.table_of-3.result) (c.from_lanes-3.ensures ∙ fourth) c.table_of-3.ensures;
    }
