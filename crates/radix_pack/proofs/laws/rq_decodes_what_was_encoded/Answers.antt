use Rattle.radix_pack.proofs.ElementLaws.{rq_source}
use Rattle.radix_pack.proofs.laws.rq_decodes_what_was_encoded.Goals as goal

pub returns : goal.returns
returns c = rq_source
