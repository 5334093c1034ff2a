use Rattle.std.proofs.Common.{◌≡◌, ◌∙◌, List, ℕ, length, ap}
use Rattle.std.proofs.lemmas.List.{length-map}
use Rattle.ghash_core.specs.Field.{power}
use Rattle.ghash_core.specs.Rows.{element, sum_of_four, bytes_of_products}
use Rattle.ghash_core.proofs.FourBlocks.{element-four, length-four}
use Rattle.ghash_core.proofs.powers.bytes_of_four.Goals as goal

long : (xs ys : List ℕ) (j h : ℕ) → length ys ≡ 16 → xs ≡ bytes_of_products j h ys → length xs ≡ 16
long xs ys j h is same = ap length same ∙ length-map ys _ ∙ is

pub returns-clause-sum : goal.returns-clause-sum
returns-clause-sum c = λ h tables.
    let j = c.args.j in
    let first = c.bytes_at.ensures (power h 4) tables.fourth in
    let second = c.bytes_at-2.ensures (power h 3) tables.third in
    let third = c.bytes_at-3.ensures (power h 2) tables.second in
    let fourth = c.bytes_at-4.ensures h tables.first in
    element-four _ _ _ _ (long _ c.args.a j (power h 4) c.fits-a.0 first) (long _ c.args.b j (power h 3) c.fits-b.0 second)
    (long _ c.args.c j (power h 2) c.fits-c.0 third) (long _ c.args.d j h c.fits-d.0 fourth)
    ∙ (λ i. sum_of_four (element (first i)) (element (second i)) (element (third i)) (element (fourth i)))

pub returns-clause-long : goal.returns-clause-long
returns-clause-long c = λ h tables.
    let j = c.args.j in
    let first = c.bytes_at.ensures (power h 4) tables.fourth in
    let second = c.bytes_at-2.ensures (power h 3) tables.third in
    let third = c.bytes_at-3.ensures (power h 2) tables.second in
    let fourth = c.bytes_at-4.ensures h tables.first in
    length-four _ _ _ _ (long _ c.args.a j (power h 4) c.fits-a.0 first) (long _ c.args.b j (power h 3) c.fits-b.0 second)
    (long _ c.args.c j (power h 2) c.fits-c.0 third) (long _ c.args.d j h c.fits-d.0 fourth)
