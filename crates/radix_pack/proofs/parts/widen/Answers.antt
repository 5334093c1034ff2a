use Rattle.std.proofs.Common.{◌≡◌, ℕ, ◌+◌, ◌*◌, ◌/◌, arith, drop, length, length-take, get_or}
use Rattle.std.proofs.lemmas.Nat.{mod_below}
use Rattle.radix_pack.specs.Radix.{pair_bytes, whole, parted}
use Rattle.radix_pack.proofs.PartSteps.{Parting-none, Parting-room, Parting-more, Parting-all, part_number}
use Rattle.radix_pack.proofs.parts.widen.Goals as goal

pub loop-i-init : goal.loop-i-init
loop-i-init c = Parting-none c.args.values.now c.args.radices.now c.args.bytes.now c.requires.count

pub loop-i-preserved : goal.loop-i-preserved
loop-i-preserved c =
    let ms = c.args.radices.now in
    let bytes = c.args.bytes.now in
    let above = drop (length ms / 2) c.args.values.now in
    let i = c.loop-i.i in
    let from = c.loop-i.from in
    let all = parted ms bytes above in
    let count = pair_bytes (get_or ms (2 * i) 0) (get_or ms (2 * i + 1) 0) in
    let same : c.pair_count.result ≡ count = c.pair_count.ensures.count in
    let room = Parting-room c.loop-i.values all ms bytes above i from (omega arith) c.loop-i.invariant in
    let number : c.number_below-whole.result ≡ whole count (drop from bytes) (get_or c.loop-i.values (length ms / 2 + i) 0) =
    part_number bytes from (from + c.pair_count.result) count (get_or c.loop-i.values (length ms / 2 + i) 0) c.number_below-whole.result (omega arith) (omega arith) c.number_below-whole.ensures
    in
    rw (c.from.ensures, c.from-in-loop-i.ensures, c.from-in-loop-i-2.ensures, same) (
    Parting-more c.loop-i.values all ms bytes above i from c.number_below-whole.result (omega arith) (omega arith) number c.loop-i.invariant
    )

pub returns : goal.returns
returns c =
    let ms = c.args.radices.now in
    let above = drop (length ms / 2) c.args.values.now in
    Parting-all c.loop-i.values (parted ms c.args.bytes.now above) ms c.args.bytes.now above c.loop-i.i c.loop-i.from (omega arith) (omega arith) c.loop-i.invariant

pub pair_count-requires-clause-first : goal.pair_count-requires-clause-first
pair_count-requires-clause-first c = (c.requires.radices (2 * c.loop-i.i) (omega arith)).1

pub pair_count-requires-clause-second : goal.pair_count-requires-clause-second
pair_count-requires-clause-second c = (c.requires.radices (2 * c.loop-i.i + 1) (omega arith)).1

pub nonzero_rem-values : goal.nonzero_rem-values
nonzero_rem-values c = omega (arith, c.from.ensures, (c.requires.radices (2 * c.loop-i.i) (omega arith)).0)

pub nonzero_div-values : goal.nonzero_div-values
nonzero_div-values c =
    omega (arith, c.from-in-loop-i.ensures, (c.requires.radices (2 * c.loop-i.i) (omega arith)).0)

pub nonzero_rem-values-in-loop-i : goal.nonzero_rem-values-in-loop-i
nonzero_rem-values-in-loop-i c =
    omega (arith, c.from-in-loop-i-2.ensures, (c.requires.radices (2 * c.loop-i.i + 1) (omega arith)).0)

pub overflow_cast-values : goal.overflow_cast-values
overflow_cast-values c =
    let first = c.requires.radices (2 * c.loop-i.i) (omega arith) in
    omega (arith, c.from.ensures, mod_below c.number_below-whole.result c.from.result (omega (arith, c.from.ensures, first.0)), first.1)

pub overflow_cast-values-in-loop-i : goal.overflow_cast-values-in-loop-i
overflow_cast-values-in-loop-i c =
    let second = c.requires.radices (2 * c.loop-i.i + 1) (omega arith) in
    omega (arith, c.from-in-loop-i-2.ensures, mod_below (c.number_below-whole.result / c.from-in-loop-i.result) c.from-in-loop-i-2.result (omega (arith, c.from-in-loop-i-2.ensures, second.0)), second.1)

pub number_below-whole-requires : goal.number_below-whole-requires
number_below-whole-requires c = omega (arith, length-take {A = ℕ}, c.pair_count.ensures.two)
