use Rattle.std.proofs.Common.{◌≡◌, map, take}
use Rattle.radix_pack.specs.Steps.{step_digit}
use Rattle.radix_pack.proofs.elements.digits_of.Given as goal

abbrev pub invariant-loop-coefficient : goal.invariant-loop-coefficient
invariant-loop-coefficient l =
    l.digits.items ≡ map (step_digit l.step l.modulus) (take l.coefficient-index l.coefficients)
