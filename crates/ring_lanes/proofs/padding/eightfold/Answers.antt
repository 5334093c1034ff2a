use Rattle.std.proofs.Common.{◌≡◌, ◌+◌, ◌*◌, arith, ap, sym, ◌∙◌}
use Rattle.std.proofs.lemmas.List.{take_at}
use Rattle.ring_core.specs.Product.{coefficients}
use Rattle.ring_lanes.proofs.padding.eightfold.Goals as goal

pub returns-clause-copies : goal.returns-clause-copies
returns-clause-copies c =
    let made = c.write_eightfold.new.copies in
    rw (take_at made _ c.in_ok-copies.copies.len (omega arith)) (λ i j l.
    c.write_eightfold.ensures i j l
    ∙ sym (ap (coefficients made) (let e : 8 * i ≡ 8 * i + 0 = omega arith in e) ∙ c.write_eightfold.ensures i 0 (omega arith)))

pub returns-clause-numbers : goal.returns-clause-numbers
returns-clause-numbers c =
    let made = c.write_eightfold.new.copies in
    rw (take_at made _ c.in_ok-copies.copies.len (omega arith)) (λ i.
    ap (coefficients made) (let e : 8 * i ≡ 8 * i + 0 = omega arith in e) ∙ c.write_eightfold.ensures i 0 (omega arith))
