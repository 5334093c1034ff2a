use Rattle.std.proofs.Common.{arith, ◌≡◌, ◌+◌, ◌/◌, ◌++◌, ◌∙◌, ap, length, take, subst, sym}
use Rattle.std.proofs.lemmas.Result.{IfOk-weaker}
use Rattle.radix_pack.specs.declared.levels.Digit.{Digit}
use Rattle.radix_pack.specs.Radix.{next_digits, AreDigits}
use Rattle.radix_pack.proofs.RoundTrip.{AreDigits-next, length-next_digits}
use Rattle.radix_pack.proofs.LevelSteps.{encode_last, encode_rest}
use Rattle.radix_pack.proofs.levels.+write_levels.Goals as goal

pub write_levels-requires : goal.write_levels-requires
write_levels-requires t c =
    let half : c.div_ceil-next.result ≡ (length c.args.digits.now + 1) / 2 = omega (arith, c.div_ceil-next.ensures) in
    let next : take c.div_ceil-next.result c.write_level.new.digits ≡ next_digits c.args.digits.now = rw half c.in_ok-write_level.ensures.next in
    let count : length (take c.div_ceil-next.result c.write_level.new.digits) ≡ (length c.args.digits.now + 1) / 2 = ap length next ∙ length-next_digits c.args.digits.now in
    (omega (arith, c.decreases, count), (omega arith, subst AreDigits (sym next) (AreDigits-next c.args.digits.now c.requires.digits)))

pub returns-in_ok-write_low_bytes : goal.returns-in_ok-write_low_bytes
returns-in_ok-write_low_bytes t c levels h =
    let zeros : Digit = record { value = 0; radix = 0 } in
    c.in_ok-write_low_bytes.ensures.bytes
    ∙ ap (λ bytes. c.args.out.now.items ++ bytes) (encode_last levels c.args.digits.now zeros c.if-digits-eq1.true h)

pub returns-in_ok-write_level : goal.returns-in_ok-write_level
returns-in_ok-write_level t c =
    let half : c.div_ceil-next.result ≡ (length c.args.digits.now + 1) / 2 = omega (arith, c.div_ceil-next.ensures) in
    let next : take c.div_ceil-next.result c.write_level.new.digits ≡ next_digits c.args.digits.now = rw half c.in_ok-write_level.ensures.next in
    IfOk-weaker c.write_levels.result _ _
    (λ _ rest. encode_rest c.args.out.now.items c.write_level.new.out.items c.write_levels.new.out.items c.args.digits.now (take c.div_ceil-next.result c.write_level.new.digits) (omega arith) next c.in_ok-write_level.ensures.bytes rest)
    c.write_levels.ensures
