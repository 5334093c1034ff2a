use Rattle.std.proofs.Common.{◌≡◌, arith}
use Rattle.std.specs.Prelude.{◌-◌}
use Rattle.sntrup_kem.specs.Sizes.{rounded_size}
use Rattle.sntrup_kem.proofs.encapsulation.decap.Goals as goal

pub returns : goal.returns
returns g c =
    let size : c.ENC.result - 32 ≡ rounded_size g.S.Params.set = omega (arith, c.ENC.ensures, g.met.S.KemParams.enc_is) in
    cc (c.chosen_key.ensures, c.in_ok-again.ensures.enc, c.in_ok-again.ensures.r_enc, c.in_ok-r.ensures, c.f_bytes.ensures.bytes, c.ginv_bytes.ensures.bytes, c.public_bytes.ensures.bytes, c.cache.ensures, c.rho.ensures.bytes, size)
