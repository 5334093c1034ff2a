use Rattle.radix_pack.proofs.Digits.{bad_found, none_found, found_is}
use Rattle.radix_pack.proofs.small.is_malformed.Goals as goal

pub loop-k-preserved : goal.loop-k-preserved
loop-k-preserved c = record {
  some = bad_found c.loop-k.found c.args.degree c.loop-k.k c.bits_of-bits.result c.args.bytes.now c.bits_of-bits.ensures.bits c.loop-k.invariant.some;
  none = none_found c.loop-k.found c.args.degree c.loop-k.k c.bits_of-bits.result c.args.bytes.now c.bits_of-bits.ensures.bits c.loop-k.invariant.none;
}

pub returns : goal.returns
returns c =
    found_is c.loop-k.found c.args.degree c.loop-k.k c.args.bytes.now c.loop-k-test.false c.loop-k.invariant.some c.loop-k.invariant.none
