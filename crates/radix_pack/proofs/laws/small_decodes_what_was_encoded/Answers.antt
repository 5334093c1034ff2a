use Rattle.radix_pack.proofs.SmallLaws.{small_well_formed, small_source}
use Rattle.radix_pack.proofs.laws.small_decodes_what_was_encoded.Goals as goal

pub returns-clause-well_formed : goal.returns-clause-well_formed
returns-clause-well_formed c = small_well_formed

pub returns-clause-source : goal.returns-clause-source
returns-clause-source c = small_source
