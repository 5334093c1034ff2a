use Rattle.std.proofs.Common.{arith, refl, ap, length}
use Rattle.std.proofs.lemmas.List.{take_at}
use Rattle.ring_karatsuba.specs.Sums.{AreParts}
use Rattle.ring_karatsuba.proofs.Bounds.{halves, AreParts-low, AreParts-high, AreParts-folded, IsWithin-parts}
use Rattle.ring_karatsuba.proofs.Splitting.{IsConvolution-joined}
use Rattle.ring_karatsuba.proofs.split.+convolution.Goals as goal

pub convolution-requires : goal.convolution-requires
convolution-requires t c =
    let es = halves c.args.small.now c.args.long.now _ _ c.requires.same c.split_at.ensures.front c.split_at.ensures.back in
    let el = halves c.args.long.now c.args.long.now _ _ refl c.split_at-2.ensures.front c.split_at-2.ensures.back in
    (omega arith, (omega arith, AreParts-low _ _ _ _ _ _ es el c.requires.parts))

pub convolution-requires-2 : goal.convolution-requires-2
convolution-requires-2 t c =
    let es = halves c.args.small.now c.args.long.now _ _ c.requires.same c.split_at.ensures.front c.split_at.ensures.back in
    let el = halves c.args.long.now c.args.long.now _ _ refl c.split_at-2.ensures.front c.split_at-2.ensures.back in
    (omega arith, (omega arith, AreParts-high _ _ _ _ _ _ es el c.requires.parts))

pub convolution-requires-3 : goal.convolution-requires-3
convolution-requires-3 t c =
    let es = halves c.args.small.now c.args.long.now _ _ c.requires.same c.split_at.ensures.front c.split_at.ensures.back in
    let el = halves c.args.long.now c.args.long.now _ _ refl c.split_at-2.ensures.front c.split_at-2.ensures.back in
    let parts : AreParts c.in_ok-small_sum.small_sum.items c.in_ok-long_sum.long_sum.items =
    AreParts-folded _ _ _ _ _ _ _ _ es el (omega arith) (omega (arith, c.in_ok-long_sum.ensures.count, c.in_ok-long_sum.long_sum.ok.0)) c.requires.parts c.in_ok-small_sum.ensures.sums c.in_ok-long_sum.ensures.sums
    in (
      omega (arith, ap length c.deref.ensures.value, c.in_ok-small_sum.ensures.count, c.in_ok-small_sum.small_sum.ok.0),
      (
        omega (
          arith,
          ap length c.deref.ensures.value,
          ap length c.deref-2.ensures.value,
          c.in_ok-small_sum.ensures.count,
          c.in_ok-small_sum.small_sum.ok.0,
          c.in_ok-long_sum.ensures.count,
          c.in_ok-long_sum.long_sum.ok.0,
        ),
        rw (c.deref.ensures.value, c.deref-2.ensures.value) parts,
      ),
    )

pub join-requires-clause-low_bound : goal.join-requires-clause-low_bound
join-requires-clause-low_bound t c =
    let es = halves c.args.small.now c.args.long.now _ _ c.requires.same c.split_at.ensures.front c.split_at.ensures.back in
    let el = halves c.args.long.now c.args.long.now _ _ refl c.split_at-2.ensures.front c.split_at-2.ensures.back in
    rw c.deref-3.ensures.value (IsWithin-parts _ _ _ (omega arith) (AreParts-low _ _ _ _ _ _ es el c.requires.parts) c.in_ok-low.ensures.sums)

pub join-requires-clause-middle_bound : goal.join-requires-clause-middle_bound
join-requires-clause-middle_bound t c =
    let es = halves c.args.small.now c.args.long.now _ _ c.requires.same c.split_at.ensures.front c.split_at.ensures.back in
    let el = halves c.args.long.now c.args.long.now _ _ refl c.split_at-2.ensures.front c.split_at-2.ensures.back in
    let sums = rw (c.deref.ensures.value, c.deref-2.ensures.value) at c.in_ok-middle.ensures.sums in
    rw c.deref-4.ensures.value (IsWithin-parts _ _ _ (omega (arith, c.in_ok-small_sum.ensures.count, c.in_ok-small_sum.small_sum.ok.0, c.in_ok-long_sum.ensures.count, c.in_ok-long_sum.long_sum.ok.0))
    (AreParts-folded _ _ _ _ _ _ _ _ es el (omega arith) (omega (arith, c.in_ok-long_sum.ensures.count, c.in_ok-long_sum.long_sum.ok.0)) c.requires.parts c.in_ok-small_sum.ensures.sums c.in_ok-long_sum.ensures.sums)
    sums)

pub join-requires-clause-high_bound : goal.join-requires-clause-high_bound
join-requires-clause-high_bound t c =
    let es = halves c.args.small.now c.args.long.now _ _ c.requires.same c.split_at.ensures.front c.split_at.ensures.back in
    let el = halves c.args.long.now c.args.long.now _ _ refl c.split_at-2.ensures.front c.split_at-2.ensures.back in
    rw c.deref-5.ensures.value (IsWithin-parts _ _ _ (omega arith) (AreParts-high _ _ _ _ _ _ es el c.requires.parts) c.in_ok-high.ensures.sums)

pub returns-clause-sums : goal.returns-clause-sums
returns-clause-sums t c =
    let es = halves c.args.small.now c.args.long.now _ _ c.requires.same c.split_at.ensures.front c.split_at.ensures.back in
    let el = halves c.args.long.now c.args.long.now _ _ refl c.split_at-2.ensures.front c.split_at-2.ensures.back in
    let middle = rw (c.deref.ensures.value, c.deref-2.ensures.value) at c.in_ok-middle.ensures.sums in
    let joined = rw (c.deref-3.ensures.value, c.deref-4.ensures.value, c.deref-5.ensures.value) at c.join.ensures in
    rw (take_at c.join.new.sums _ c.in_ok-sums.sums.len (omega arith))
    (IsConvolution-joined _ _ _ _ _ _ _ _ _ _ _ _ _ es el c.in_ok-small_sum.ensures.sums c.in_ok-long_sum.ensures.sums c.in_ok-low.ensures.sums middle c.in_ok-high.ensures.sums joined)
