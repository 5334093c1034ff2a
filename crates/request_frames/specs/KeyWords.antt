-- The words of key lines, and the field KDF.
use Rattle.std.specs.Prelude.{ℕ, ◌==◌, Bool, true, false, List, [], ◌∷◌, ◌++◌, codes, Result, Ok, if◌then◌else◌}
use Rattle.hkdf_labelled.specs.declared.suites.Kdf.{Kdf}
use Rattle.hkdf_labelled.specs.declared.suites.Kdf.TheVariants.{Sha256, Sha384, Sha512}
use Rattle.field_text.specs.declared.reasons.Reason.{Reason}
use Rattle.field_text.specs.Fields.{◌>>=◌, number}
use Rattle.request_frames.specs.declared.key_words.KeyWord.{KeyWord}
use Rattle.request_frames.specs.declared.key_words.KeyWord.TheVariants.{Generate, Secret, Peer}
use Rattle.batch_plans.specs.declared.plan.KeySet.{KeySet}
use Rattle.batch_plans.specs.declared.plan.KeySet.TheVariants.{Sntrup761, Sntrup857}

-- what a word ends with, by the parameter set of its keys
abbrev pub set_text : KeySet → List ℕ
set_text Sntrup761 = []
set_text Sntrup857 = codes "857"

-- how each word is spelled
abbrev pub key_word_text : KeyWord → List ℕ
key_word_text (Generate set) = codes "keygen" ++ set_text set
key_word_text (Secret set) = codes "secret" ++ set_text set
key_word_text (Peer set) = codes "peer" ++ set_text set

-- the words of the keys of a set
abbrev pub key_words : KeySet → List KeyWord
key_words set = Generate set ∷ Secret set ∷ Peer set ∷ []

-- the key lines that stand only where there is a seed
abbrev pub key_draws : KeyWord → Bool
key_draws (Generate set) = true
key_draws word = false

-- KDF: kdf_id (RFC 9180, 7.2)
abbrev pub kdf : List ℕ → Result Kdf Reason
kdf piece = do
  id ← number 1 3 piece
  Ok (if id == 1 then Sha256 else if id == 2 then Sha384 else Sha512)
