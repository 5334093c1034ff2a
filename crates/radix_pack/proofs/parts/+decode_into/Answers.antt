use Rattle.std.proofs.Common.{arith, ◌≡◌, ◌-◌, ◌/◌, ◌∙◌, ap, length, take, drop, subst, sym}
use Rattle.std.proofs.lemmas.List.{take_rest, length-drop, length-take-le}
use borrow.Rule.Slice.PartMut.{put_mid}
use Rattle.radix_pack.specs.Radix.{level_count, next_radices, length_in, parted, AreRadices}
use Rattle.radix_pack.proofs.RadixLaws.{AreRadices-next, length-next_radices}
use Rattle.radix_pack.proofs.PartSteps.{length_last, length_rest, decode_only, decode_rest, part_written}
use Rattle.radix_pack.proofs.parts.+decode_into.Goals as goal

pub number_of-requires : goal.number_of-requires
number_of-requires t c =
    omega (arith, length_last c.requires.count.0 c.args.radices.now c.if-radices-eq1.true, c.requires.count.2)

pub returns-then-radices-eq1 : goal.returns-then-radices-eq1
returns-then-radices-eq1 t c levels h =
    rw (c.number_of.ensures.number, c.from.ensures) (
    decode_only levels c.args.radices.now c.args.bytes.now c.args.values.now c.if-radices-eq1.true h (omega arith)
    )

pub slice_bounds-decode_into-count : goal.slice_bounds-decode_into-count
slice_bounds-decode_into-count t c =
    let ms = c.args.radices.now in
    let bytes = c.args.bytes.now in
    let rest = length_rest c.requires.count.0 ms (length bytes) (omega arith) c.requires.count.1 c.requires.count.2 in
    omega (arith, rest.2, c.count_level-count.ensures)

pub slice_bounds-decode_into-start : goal.slice_bounds-decode_into-start
slice_bounds-decode_into-start t c =
    let ms = c.args.radices.now in
    let bytes = c.args.bytes.now in
    let rest = length_rest c.requires.count.0 ms (length bytes) (omega arith) c.requires.count.1 c.requires.count.2 in
    omega (arith, rest.2, c.count_level-count.ensures)

pub decode_into-requires : goal.decode_into-requires
decode_into-requires t c =
    let ms = c.args.radices.now in
    let bytes = c.args.bytes.now in
    let count = c.count_level-count.result in
    let rest = length_rest c.requires.count.0 ms (length bytes) (omega arith) c.requires.count.1 c.requires.count.2 in
    let next : c.write_next_radices.new.next ≡ next_radices ms = c.write_next_radices.ensures in
    let few = length-next_radices ms in
    let same : count ≡ level_count ms = c.count_level-count.ensures in
    let left : length (take (length bytes - count) (drop count bytes)) ≡ length bytes - count = ap length (take_rest bytes count) ∙ length-drop count bytes in (
      omega (arith, c.decreases, ap length next),
      (
        omega (arith, ap length next),
        (
          subst AreRadices (sym next) (AreRadices-next ms c.requires.radices),
          (
            (rest.0, omega (arith, ap length next, rest.1), omega (arith, left, rest.2, ap (length_in rest.0) next)),
            (
              omega (arith, ap length next, c.div_ceil.ensures, c.split_at_mut-next.ensures.back_len, c.requires.scratch),
              ap length (take_rest c.args.values.now (length ms / 2)) ∙ length-drop (length ms / 2) c.args.values.now ∙ omega (arith, ap length next, c.requires.room),
            ),
          ),
        ),
      ),
    )

pub slice_bounds-widen-end : goal.slice_bounds-widen-end
slice_bounds-widen-end t c =
    let ms = c.args.radices.now in
    let bytes = c.args.bytes.now in
    let rest = length_rest c.requires.count.0 ms (length bytes) (omega arith) c.requires.count.1 c.requires.count.2 in
    sym (length-take-le c.count_level-count.result bytes (omega (arith, rest.2, c.count_level-count.ensures)))

pub widen-requires-clause-count : goal.widen-requires-clause-count
widen-requires-clause-count t c =
    let ms = c.args.radices.now in
    let bytes = c.args.bytes.now in
    let rest = length_rest c.requires.count.0 ms (length bytes) (omega arith) c.requires.count.1 c.requires.count.2 in
    length-take-le c.count_level-count.result bytes (omega (arith, rest.2, c.count_level-count.ensures)) ∙ c.count_level-count.ensures

pub returns-else-radices-eq1 : goal.returns-else-radices-eq1
returns-else-radices-eq1 t c levels h =
    let ms = c.args.radices.now in
    let bytes = c.args.bytes.now in
    let count = c.count_level-count.result in
    let later = take (length bytes - count) (drop count bytes) in
    let next : c.write_next_radices.new.next ≡ next_radices ms = c.write_next_radices.ensures in
    let back : drop (length ms / 2) (put_mid (length ms / 2) (length c.args.values.now - length ms / 2) c.args.values.now c.decode_into.new.values) ≡ c.decode_into.new.values = part_written (length ms / 2) c.args.values.now c.decode_into.new.values (omega arith) in
    decode_rest levels count ms c.write_next_radices.new.next bytes later c.decode_into.new.values c.widen.new.values (omega arith) c.count_level-count.ensures next (take_rest bytes count) c.decode_into.ensures (c.widen.ensures ∙ ap (parted ms (take count bytes)) back) h
