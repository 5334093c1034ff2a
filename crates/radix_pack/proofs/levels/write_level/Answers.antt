use Rattle.std.proofs.Common.{◌++◌, arith, length, ◌≡◌, ◌+◌, ◌/◌}
use Rattle.radix_pack.specs.declared.levels.Digit.{Digit}
use Rattle.radix_pack.specs.Radix.{level_bytes, next_digits}
use Rattle.radix_pack.proofs.LevelSteps.{Pairs-none, Pairs-at, Pairs-more, Pairs-even, Pairs-odd}
use Rattle.radix_pack.proofs.levels.write_level.Goals as goal

pub loop-i-init : goal.loop-i-init
loop-i-init c = Pairs-none c.args.out.now.items c.args.digits.now c.requires

pub write_pair-requires : goal.write_pair-requires
write_pair-requires c =
    let zeros : Digit = record { value = 0; radix = 0 } in
    let parts = Pairs-at c.loop-i.out.items (c.args.out.now.items ++ level_bytes c.args.digits.now) c.loop-i.digits (next_digits c.args.digits.now) c.loop-i.i zeros (omega arith) c.loop-i.invariant in
    record { x = parts.0; y = parts.2.0; x_radix = parts.1; y_radix = parts.2.1 }

pub loop-i-preserved : goal.loop-i-preserved
loop-i-preserved c =
    let zeros : Digit = record { value = 0; radix = 0 } in
    rw (c.in_ok-digits.ensures.bytes, c.in_ok-digits.ensures.digit) (
    Pairs-more c.loop-i.out.items (c.args.out.now.items ++ level_bytes c.args.digits.now) c.loop-i.digits (next_digits c.args.digits.now) c.loop-i.i zeros (omega arith) c.loop-i.invariant
    )

pub returns-then-digits-eq1 : goal.returns-then-digits-eq1
returns-then-digits-eq1 c =
    let zeros : Digit = record { value = 0; radix = 0 } in
    let all = Pairs-odd c.loop-i.out.items (c.args.out.now.items ++ level_bytes c.args.digits.now) c.loop-i.digits (next_digits c.args.digits.now) c.loop-i.i zeros (omega arith) c.loop-i.invariant in
    let half : length c.args.digits.now / 2 ≡ c.loop-i.i = omega arith in
    let more : (length c.args.digits.now + 1) / 2 ≡ c.loop-i.i + 1 = omega arith in
    record { bytes = all.0; next = rw (more, half) all.1 }

pub returns-else-digits-eq1 : goal.returns-else-digits-eq1
returns-else-digits-eq1 c =
    let all = Pairs-even c.loop-i.out.items (c.args.out.now.items ++ level_bytes c.args.digits.now) c.loop-i.digits (next_digits c.args.digits.now) c.loop-i.i (omega arith) c.loop-i.invariant in
    let half : (length c.args.digits.now + 1) / 2 ≡ c.loop-i.i = omega arith in
    record { bytes = all.0; next = rw half all.1 }
