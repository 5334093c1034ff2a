-- How long an exporter_secret is.
use Rattle.std.proofs.Common.{◌≤◌, ℕ, List, length, length-take, take, arith}
use Rattle.hkdf_labelled.specs.Hkdf.{expand}
use Rattle.hkdf_labelled.specs.Suites.{hash_size}
use Rattle.hkdf_labelled.specs.declared.suites.Suite.{Suite}
use Rattle.hkdf_labelled.specs.declared.suites.Kdf.{Kdf}
use Rattle.hkdf_labelled.specs.declared.suites.Kdf.TheVariants.{Sha256, Sha384, Sha512}
use Rattle.key_schedule.specs.declared.modes.Mode.{Mode}
use Rattle.key_schedule.specs.Schedule.{secrets_of}

front_short : (n : ℕ) (xs : List ℕ) → n ≤ 64 → length (take n xs) ≤ 64
front_short n xs le = omega (arith, length-take n xs, le)

expanded_short : (kdf : Kdf) (prk info : List ℕ) → length (expand kdf prk info (hash_size kdf)) ≤ 64
unfolding expand
expanded_short Sha256 prk info = front_short 32 _ (omega arith)
expanded_short Sha384 prk info = front_short 48 _ (omega arith)
expanded_short Sha512 prk info = front_short 64 _ (omega arith)

pub exporter_short : (suite : Suite) (mode : Mode) (shared_secret info psk psk_id : List ℕ)
    → length (secrets_of suite mode shared_secret info psk psk_id).exporter ≤ 64
exporter_short suite mode shared_secret info psk psk_id = expanded_short suite.kdf _ _
