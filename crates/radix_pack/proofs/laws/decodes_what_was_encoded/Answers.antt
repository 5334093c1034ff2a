use Rattle.radix_pack.proofs.RoundTrip.{decode-encode}
use Rattle.radix_pack.proofs.laws.decodes_what_was_encoded.Goals as goal

pub returns : goal.returns
returns c = decode-encode
