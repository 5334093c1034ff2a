use Rattle.ohttp_capsule.proofs.Naming.{names_one_lem}
use Rattle.ohttp_capsule.proofs.laws.a_header_names_one_suite.Goals as goal

pub returns : goal.returns
returns c = names_one_lem
