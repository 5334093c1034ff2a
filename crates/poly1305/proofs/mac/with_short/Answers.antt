use Rattle.std.proofs.Common.{◌≡◌, ◌<◌, ◌+◌, ◌*◌, ◌-◌, ◌^◌, ◌%◌, length, ap, sym, ◌∙◌, arith}
use Rattle.std.proofs.lemmas.Bool.Decides.{nat_tests}
use Rattle.std.proofs.lemmas.Nat.{one_shl}
use Rattle.poly1305.specs.Poly1305.{number, prime, block_number}
use Rattle.poly1305.specs.Limbs.{sum_after, value, factor}
use Rattle.poly1305.proofs.Arithmetic.{last_step, sum_after-none}
use Rattle.poly1305.proofs.Blocks.{blocks-short, blocks-none, number-filled}
use Rattle.poly1305.proofs.mac.with_short.Goals as goal

pub returns-then-is_empty-clause-sum : goal.returns-then-is_empty-clause-sum
returns-then-is_empty-clause-sum c =
    let bytes = c.args.bytes.now in
    let a = value c.args.a in
    let r = factor c.args.r in
    let none : length bytes ≡ 0 = grind (arith, nat_tests) in
    ap (λ x. x % prime) (sym (ap (sum_after r a) (blocks-none bytes none) ∙ sum_after-none r a))

pub returns-else-is_empty-clause-sum : goal.returns-else-is_empty-clause-sum
returns-else-is_empty-clause-sum c =
    let bytes = c.args.bytes.now in
    let a = value c.args.a in
    let r = factor c.args.r in
    let some : 0 < length bytes = grind (arith, nat_tests) in
    let one : 1 * 2 ^ (8 * length bytes) % 2 ^ 128 ≡ 2 ^ (8 * length bytes) = one_shl (8 * length bytes) 128 (omega arith) in
    let n = c.number.ensures ∙ ap number c.filled.ensures ∙ number-filled bytes (16 - length bytes) in
    let all : value c.plus-else-is_empty.result ≡ a + block_number bytes =
    omega (arith, one, n, c.plus-else-is_empty.ensures.value, c.plus.ensures.value) in
    last_step r a (block_number bytes) (value c.times.result) (c.times.ensures.value ∙ ap (λ x. x * r % prime) all)
    ∙ ap (λ cs. sum_after r a cs % prime) (sym (blocks-short bytes some (omega arith)))
