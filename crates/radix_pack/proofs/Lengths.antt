-- The lengths of the codings of both sets, in bytes, computed over all their radices.
use Rattle.std.proofs.Common.{◌≡◌, refl}
use Rattle.ring_core.specs.Sets.{sntrup761, sntrup857}
use Rattle.radix_pack.specs.Radix.{pair_bytes, pair_radix, last_bytes, encoded_length}
use Rattle.radix_pack.specs.Codings.{rq_length, rounded_length}

pub rq_length_761 : rq_length sntrup761 ≡ 1158
unfolding rq_length encoded_length pair_bytes pair_radix last_bytes
rq_length_761 = refl

pub rounded_length_761 : rounded_length sntrup761 ≡ 1007
unfolding rounded_length encoded_length pair_bytes pair_radix last_bytes
rounded_length_761 = refl

pub rq_length_857 : rq_length sntrup857 ≡ 1322
unfolding rq_length encoded_length pair_bytes pair_radix last_bytes
rq_length_857 = refl

pub rounded_length_857 : rounded_length sntrup857 ≡ 1152
unfolding rounded_length encoded_length pair_bytes pair_radix last_bytes
rounded_length_857 = refl

pub ruleset lengths = (rq_length_761, rounded_length_761, rq_length_857, rounded_length_857)
