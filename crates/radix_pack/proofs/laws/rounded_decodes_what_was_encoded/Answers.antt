use Rattle.radix_pack.proofs.ElementLaws.{rounded_source}
use Rattle.radix_pack.proofs.laws.rounded_decodes_what_was_encoded.Goals as goal

pub returns : goal.returns
returns c = rounded_source
