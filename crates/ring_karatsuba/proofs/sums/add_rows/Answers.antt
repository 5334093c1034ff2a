use Rattle.std.proofs.Common.{rules, arith, sym, ◌∙◌, pos}
use Rattle.std.specs.Int.{w32}
use Rattle.std.specs.Int.RustNames.{FitsSigned}
use Rattle.std.proofs.lemmas.Int.{to_z-of_z}
use Rattle.std.proofs.lemmas.List.{get_or_past}
use Rattle.ring_core.specs.Product.{coefficients}
use Rattle.ring_core.proofs.Partial.{conv_none, conv_whole}
use Rattle.ring_karatsuba.proofs.Bounds.{row_fits}
use Rattle.ring_karatsuba.proofs.Terms.{row_more}
use Rattle.ring_karatsuba.proofs.sums.add_rows.Goals as goal

pub loop-i-init : goal.loop-i-init
loop-i-init c = (c.requires.double, λ n. c.requires.zeros n ∙ sym (conv_none (coefficients c.args.long.now) n))

pub add_at-requires-clause-fits : goal.add_at-requires-clause-fits
add_at-requires-clause-fits c =
    let fits : FitsSigned w32 (coefficients c.args.small.now c.loop-i.i) = search rules in
    simp to_z-of_z (row_fits c.args.small.now c.args.long.now c.loop-i.sums c.loop-i.i c.requires.parts (omega arith) c.loop-i.invariant.1)

pub loop-i-preserved : goal.loop-i-preserved
loop-i-preserved c =
    let fits : FitsSigned w32 (coefficients c.args.small.now c.loop-i.i) = search rules in
    let added = simp to_z-of_z at c.add_at.ensures in
    (omega arith, row_more c.args.small.now c.args.long.now c.loop-i.sums c.add_at.new.sums c.loop-i.i added c.loop-i.invariant.1)

pub returns : goal.returns
returns c =
    λ n. c.loop-i.invariant.1 n
    ∙ conv_whole c.loop-i.i (coefficients c.args.small.now) (coefficients c.args.long.now) n (record { after = λ k l. get_or_past c.args.small.now k (pos 0) (omega arith) })
