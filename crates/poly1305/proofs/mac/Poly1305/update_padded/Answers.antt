use Rattle.std.proofs.Common.{◌≡◌, ◌*◌, ◌/◌, ◌%◌, length, take, drop, ap, sym, ◌∙◌, arith, length-append}
use Rattle.std.proofs.lemmas.List.{length-take}
use Rattle.poly1305.specs.Poly1305.{prime, blocks, polynomial, padded}
use Rattle.poly1305.specs.Limbs.{sum_after, value, factor}
use Rattle.poly1305.proofs.Blocks.{parts, more_taken, padded-parts, padded-whole}
use Rattle.poly1305.proofs.mac.Poly1305.update_padded.Goals as goal

pub returns-clause-more : goal.returns-clause-more
returns-clause-more c = λ xs took.
    let bytes = c.args.bytes.now in
    let n = length bytes / 16 * 16 in
    let r = factor c.self.inside.r in
    let a = value c.self.inside.sum in
    let w = value c.with_blocks-sum.result in
    let v = value c.with_filled-padded.result in
    let even : length (take n bytes) % 16 ≡ 0 = omega (arith, length-take n bytes) in
    let same_r : r ≡ c.args.self.now.r = ap (λ t. t.r) c.self.view_is in
    let same_a : a ≡ c.args.self.now.sum = ap (λ t. t.sum) c.self.view_is in
    let first : w % prime ≡ sum_after r a (blocks (take n bytes)) % prime =
    c.with_blocks-sum.ensures.sum ∙ ap (λ bs. sum_after r a (blocks bs) % prime) c.split_at.ensures.front in
    let second : v % prime ≡ sum_after r w (blocks (padded (drop n bytes))) % prime =
    c.with_filled-padded.ensures.sum ∙ ap (λ bs. sum_after r w (blocks (padded bs)) % prime) c.split_at.ensures.back in
    let all : v % prime ≡ sum_after r a (blocks (padded bytes)) % prime =
    parts r a v w (take n bytes) (padded (drop n bytes)) even first second
    ∙ ap (λ bs. sum_after r a (blocks bs) % prime) (sym (padded-parts n bytes (omega arith))) in
    let taken : a % prime ≡ polynomial r (blocks xs) % prime =
    ap (λ x. x % prime) same_a ∙ took.sum ∙ ap (λ k. polynomial k (blocks xs) % prime) (sym same_r) in
    record {
      whole = omega (arith, took.whole, padded-whole bytes, length-append xs (padded bytes));
      sum = more_taken r a v xs (padded bytes) took.whole taken all;
    }
