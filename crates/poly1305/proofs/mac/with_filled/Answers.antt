use Rattle.std.proofs.Common.{◌≡◌, ◌<◌, ◌+◌, ◌*◌, ◌^◌, ◌%◌, length, ap, sym, ◌∙◌, arith}
use Rattle.std.proofs.lemmas.Bool.Decides.{nat_tests}
use Rattle.poly1305.specs.Poly1305.{number, prime}
use Rattle.poly1305.specs.Limbs.{sum_after, value, factor}
use Rattle.poly1305.proofs.Arithmetic.{last_step, sum_after-none}
use Rattle.poly1305.proofs.Blocks.{blocks-filled, padded-none}
use Rattle.poly1305.proofs.mac.with_filled.Goals as goal

pub returns-then-is_empty-clause-sum : goal.returns-then-is_empty-clause-sum
returns-then-is_empty-clause-sum c =
    let bytes = c.args.bytes.now in
    let a = value c.args.a in
    let r = factor c.args.r in
    let none : length bytes ≡ 0 = grind (arith, nat_tests) in
    ap (λ x. x % prime) (sym (ap (sum_after r a) (padded-none bytes none) ∙ sum_after-none r a))

pub returns-else-is_empty-clause-sum : goal.returns-else-is_empty-clause-sum
returns-else-is_empty-clause-sum c =
    let bytes = c.args.bytes.now in
    let a = value c.args.a in
    let r = factor c.args.r in
    let some : 0 < length bytes = grind (arith, nat_tests) in
    last_step r a _ _ (c.next.ensures.value
    ∙ ap (λ n. ((a + (n + 2 ^ 128)) * r) % prime) (c.number.ensures ∙ ap number c.filled.ensures))
    ∙ ap (λ cs. sum_after r a cs % prime) (sym (blocks-filled bytes some c.requires.short))
