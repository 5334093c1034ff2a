use Rattle.std.proofs.Common.{◌≤◌, length, drop, take, ap, ◌∙◌, refl, arith, length-drop}
use Rattle.std.proofs.lemmas.List.{take_all}
use Rattle.poly1305.specs.Poly1305.{number, first_blocks, polynomial}
use Rattle.poly1305.proofs.mac.Poly1305.start.Goals as goal

pub returns-clause-s : goal.returns-clause-s
returns-clause-s c =
    let back = drop 16 c.args.key.now in
    let short : length back ≤ 16 = omega (arith, length-drop 16 c.args.key.now, c.told-key) in
    c.first_number-2.ensures ∙ ap (λ xs. number (take 16 xs)) (take_all 16 back short) ∙ ap number (take_all 16 back short)

pub returns-clause-none : goal.returns-clause-none
unfolding first_blocks polynomial
returns-clause-none c = record {
  whole = refl;
  sum = refl;
}
