use Rattle.std.proofs.Common.{◌≡◌, arith, rules, get_or}
use Rattle.std.proofs.Common.{below_more, eq-eqb}
use Rattle.std.proofs.lemmas.Bool.{eqb-true}
use Rattle.x25519_kem.proofs.Zeros.{left_zero, right_zero, both_zero, zeros_from_bytes, bytes_from_zeros}
use Rattle.x25519_kem.proofs.exchanges.is_zero.Goals as goal

pub loop-byte-preserved : goal.loop-byte-preserved
loop-byte-preserved c =
    let found = c.loop-byte.found in
    let byte = get_or c.args.bytes.now c.loop-byte.byte-index 0 in
    let inv = c.loop-byte.invariant in
    (λ e. below_more (λ k. get_or c.args.bytes.now k 0 ≡ 0) c.loop-byte.byte-index (inv.0 (left_zero found byte e)) (right_zero found byte e), λ each. both_zero found byte (inv.1 (λ k h. each k (omega arith))) (each c.loop-byte.byte-index (omega arith)))

pub returns : goal.returns
returns c =
    let bytes = c.args.bytes.now in
    let found = c.loop-byte.found in
    let inv = c.loop-byte.invariant in
    let all : c.loop-byte.byte-index ≡ 32 = omega arith in
    (λ t. zeros_from_bytes bytes (search rules) (λ k h. inv.0 (eqb-true found 0 t) k (omega arith)), λ e. eq-eqb found 0 (inv.1 (λ k h. bytes_from_zeros bytes e k (omega arith))))
