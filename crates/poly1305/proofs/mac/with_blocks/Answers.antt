use Rattle.std.proofs.Common.{◌≡◌, ◌≤◌, ◌+◌, ◌*◌, ◌^◌, ◌%◌, length, take, drop, ap, sym, ◌∙◌, arith, length-drop}
use Rattle.std.proofs.lemmas.List.{take_rest}
use Rattle.poly1305.specs.Poly1305.{number, prime, blocks}
use Rattle.poly1305.specs.Limbs.{sum_after, value, factor}
use Rattle.poly1305.proofs.Arithmetic.{step, sum_after-none}
use Rattle.poly1305.proofs.Blocks.{blocks-first, blocks-none}
use Rattle.poly1305.proofs.mac.with_blocks.Goals as goal

pub loop-rest-preserved : goal.loop-rest-preserved
loop-rest-preserved c =
    let rest = c.loop-rest.rest.now in
    let r = factor c.args.r in
    let a = value c.loop-rest.sum in
    let v = value c.next-after.result in
    let long : 16 ≤ length rest = c.loop-rest-test.true in
    let was : length rest % 16 ≡ 0 = c.loop-rest.invariant.whole in
    let less : length (drop 16 rest) % 16 ≡ 0 = omega (arith, length-drop 16 rest) in
    record {
      small = c.next-after.ensures.small;
      whole = ap (λ xs. length xs % 16) (take_rest rest 16) ∙ less;
      sum = ap (λ xs. sum_after r v (blocks xs) % prime) (take_rest rest 16)
          ∙ step r a (number (take 16 rest) + 2 ^ 128) v (blocks (drop 16 rest))
          (c.next-after.ensures.value ∙ ap (λ n. ((a + (n + 2 ^ 128)) * r) % prime) c.first_number.ensures)
          ∙ ap (λ cs. sum_after r a cs % prime) (sym (blocks-first rest long))
          ∙ c.loop-rest.invariant.sum;
    }

pub returns-clause-sum : goal.returns-clause-sum
returns-clause-sum c =
    let rest = c.loop-rest.rest.now in
    let r = factor c.args.r in
    let none : length rest ≡ 0 = omega arith in
    ap (λ x. x % prime) (sym (ap (sum_after r (value c.loop-rest.sum)) (blocks-none rest none) ∙ sum_after-none r (value c.loop-rest.sum)))
    ∙ c.loop-rest.invariant.sum
