use Rattle.std.proofs.Common.{◌≡◌, ◌+◌, ◌-◌, List, ℤ, pos, length, arith, ap, sym, ◌∙◌, inl, inr}
use Rattle.std.proofs.lemmas.Bool.{cases_lt}
use Rattle.std.proofs.lemmas.List.{get_or_past}
use borrow.Rule.Slice.PartMut.{put_mid}
use Rattle.ring_core.specs.Product.{coefficients}
use Rattle.ring_core.proofs.Convolved.{put_low, put_at, put_high}
use Rattle.ring_core.proofs.QuotientLaws.{shifted_low, shifted_high}
use Rattle.ring_lanes.proofs.padding.write_behind.Goals as goal

pub returns : goal.returns
returns c =
    let xs = c.args.padded.now in
    let ys = c.args.list.now in
    let a = c.args.front in
    let n = a + length ys - a in
    let same : c.copy_from_slice.new.self ≡ ys = c.copy_from_slice.ensures.after in
    λ k. ap (λ (t : List ℤ). coefficients (put_mid a n xs t) k) same ∙ elim (cases_lt k a) [
      | inl low ↦ put_low xs ys a n k low (omega arith) ∙ c.requires.zeros k ∙ sym (shifted_low a (coefficients ys) k low)
      | inr from ↦ elim (cases_lt k (a + n)) [
        | inl within ↦ ap (coefficients (put_mid a n xs ys)) (let e : k ≡ a + (k - a) = omega arith in e)
            ∙ put_at xs ys a n (k - a) (omega arith) (omega arith) (omega arith)
            ∙ sym (shifted_high a (coefficients ys) (k - a) k (omega arith))
        | inr past ↦ put_high xs ys a n k past (omega arith) (omega arith)
            ∙ c.requires.zeros k
            ∙ sym (shifted_high a (coefficients ys) (k - a) k (omega arith) ∙ get_or_past ys (k - a) (pos 0) (omega arith))
      ]
    ]
