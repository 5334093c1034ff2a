-- The labelled forms of HKDF (RFC 9180, 4). Labels are ASCII texts, as their bytes. Each form takes in
-- a suite_id: HPKE's own has the numbers of its three algorithms, and a KEM's the number of the KEM.
use Rattle.std.specs.Prelude.{ℕ, List, ◌++◌, codes}
use Rattle.byte_strings.specs.Bytes.{i2osp}
use Rattle.hkdf_labelled.specs.Suites.{kdf_id, aead_id}
use Rattle.hkdf_labelled.specs.Hkdf.{extract, expand}
use Rattle.hkdf_labelled.specs.declared.suites.Kdf.{Kdf}
use Rattle.hkdf_labelled.specs.declared.suites.Suite.{Suite}

-- LabeledExtract(salt, label, ikm) with a suite_id (RFC 9180, 4)
abbrev pub labeled_extract_with : Kdf → List ℕ → List ℕ → List ℕ → List ℕ → List ℕ
labeled_extract_with kdf suite_id salt label ikm =
    extract kdf salt (codes "HPKE-v1" ++ suite_id ++ label ++ ikm)

-- LabeledExpand(prk, label, info, L) with a suite_id (RFC 9180, 4)
abbrev pub labeled_expand_with : Kdf → List ℕ → List ℕ → List ℕ → List ℕ → ℕ → List ℕ
labeled_expand_with kdf suite_id prk label info len =
    expand kdf prk (i2osp len 2 ++ codes "HPKE-v1" ++ suite_id ++ label ++ info) len

-- suite_id of HPKE: "HPKE", I2OSP(kem_id, 2), I2OSP(kdf_id, 2), I2OSP(aead_id, 2) (RFC 9180, 5.1)
abbrev pub suite_id : Suite → List ℕ
suite_id suite =
    codes "HPKE" ++ i2osp suite.kem 2 ++ i2osp (kdf_id suite.kdf) 2 ++ i2osp (aead_id suite.aead) 2

-- LabeledExtract(salt, label, ikm) of HPKE (RFC 9180, 4)
abbrev pub labeled_extract : Suite → List ℕ → List ℕ → List ℕ → List ℕ
labeled_extract suite salt label ikm =
    labeled_extract_with suite.kdf (suite_id suite) salt label ikm

-- LabeledExpand(prk, label, info, L) of HPKE (RFC 9180, 4)
abbrev pub labeled_expand : Suite → List ℕ → List ℕ → List ℕ → ℕ → List ℕ
labeled_expand suite prk label info len =
    labeled_expand_with suite.kdf (suite_id suite) prk label info len
