use Rattle.std.proofs.Common.{◌∙◌, arith}
use Rattle.sntrup_kem.specs.Hashes.{key_hash}
use Rattle.sntrup_kem.proofs.Parts.{AreJoined}
use Rattle.sntrup_kem.proofs.Generating.{well_formed}
use Rattle.sntrup_kem.proofs.generation.paired.Goals as goal

pub from_list-secret-requires-clause-form : goal.from_list-secret-requires-clause-form
from_list-secret-requires-clause-form g c =
    let key = c.args.key in
    let pk = key.public in
    let sk = c.in_ok-secret_bytes.field-0 in
    let joined : AreJoined g.S.Params.set sk key.f key.ginv pk c.args.rho.now (key_hash pk) = record {
      is = c.in_ok-secret_bytes.ensures.bytes;
      f_count = c.requires.counts.1;
      ginv_count = c.requires.counts.2;
      public_count = c.requires.counts.0;
      rho_count = c.requires.counts.3;
    } in
    well_formed g.S.Params.set sk key.f key.ginv pk c.args.rho.now (key_hash pk) joined c.requires.forms.0 c.requires.forms.1

pub from_list-secret-requires-clause-count : goal.from_list-secret-requires-clause-count
from_list-secret-requires-clause-count g c =
    omega (arith, c.in_ok-secret_bytes.ensures.count, c.requires.counts, g.met.S.KemParams.secret_is)

pub from_list-requires : goal.from_list-requires
from_list-requires g c = omega (arith, c.requires.counts.0, g.met.S.KemParams.public_is)

pub returns-clause-keys : goal.returns-clause-keys
returns-clause-keys g c = (c.from_list.ensures, c.from_list-secret.ensures ∙ c.in_ok-secret_bytes.ensures.bytes)
