-- The pieces of a line that are one of a few words or numbers.
use Rattle.std.specs.Prelude.{ℕ, ◌==◌, Bool, true, false, List, [], ◌∷◌, ◌++◌, map, codes, Result, Ok, Err, ok_or, if◌then◌else◌}
use Rattle.std.specs.Str.{bytes_eq}
use Rattle.hkdf_labelled.specs.declared.suites.Aead.{Aead}
use Rattle.hkdf_labelled.specs.Suites.{aead_named}
use Rattle.key_schedule.specs.declared.modes.Role.{Role}
use Rattle.key_schedule.specs.declared.modes.Role.TheVariants.{Sender, Recipient}
use Rattle.key_schedule.specs.declared.modes.Mode.{Mode}
use Rattle.key_schedule.specs.declared.modes.Mode.TheVariants.{Base, Psk}
use Rattle.field_text.specs.declared.reasons.Reason.{Reason}
use Rattle.field_text.specs.declared.reasons.Reason.TheVariants.{Word, Range}
use Rattle.field_text.specs.Fields.{◌>>=◌, number}
use Rattle.batch_plans.specs.declared.plan.KeySet.TheVariants.{Sntrup761, Sntrup857}
use Rattle.request_frames.specs.KeyWords.{key_word_text, key_words, key_draws}
use Rattle.request_frames.specs.declared.words.LineWord.{LineWord}
use Rattle.request_frames.specs.declared.words.LineWord.TheVariants.{Rand, Key, Context, Lane, Call}
use Rattle.request_frames.specs.declared.words.ContextWord.TheVariants.{Share, Send, Recv}
use Rattle.request_frames.specs.declared.words.CallWord.TheVariants.{Seal, Unseal, UnsealAll, Export}

-- ---- the first word of a line, other than `end`

-- how each word is spelled
abbrev pub word_text : LineWord → List ℕ
word_text Rand = codes "rand"
word_text (Key word) = key_word_text word
word_text (Context Share) = codes "share"
word_text (Context Send) = codes "send"
word_text (Context Recv) = codes "recv"
word_text Lane = codes "lane"
word_text (Call Seal) = codes "seal"
word_text (Call Unseal) = codes "unseal"
word_text (Call UnsealAll) = codes "unsealall"
word_text (Call Export) = codes "export"

-- the words of both versions
abbrev pub set_up_words : List LineWord
set_up_words =
    Rand
    ∷ (map Key (key_words Sntrup761) ++ (Context Share ∷ Context Send ∷ Context Recv ∷ []))

abbrev pub lane_words : List LineWord
lane_words = Lane ∷ Call Seal ∷ Call Unseal ∷ Call UnsealAll ∷ Call Export ∷ []

-- the words of version 2 alone
abbrev pub words_857 : List LineWord
words_857 = map Key (key_words Sntrup857)

-- the words of a version
abbrev pub words_of : ℕ → List LineWord
words_of version =
    if version == 2 then words_857 ++ set_up_words ++ lane_words else set_up_words ++ lane_words

-- which of these words a piece is
abbrev pub word_among : List LineWord → List ℕ → Result LineWord Reason
word_among [] piece = Err Word
word_among (word ∷ more) piece =
    if bytes_eq piece (word_text word) then Ok word else word_among more piece

-- the word of a line, in a text of this version
abbrev pub line_word : ℕ → List ℕ → Result LineWord Reason
line_word version piece = word_among (words_of version) piece

-- the lines that stand only where there is a seed
abbrev pub draws : LineWord → Bool
draws (Key word) = key_draws word
draws (Context Send) = true
draws other = false

-- ---- fields

-- ROLE
abbrev pub role : List ℕ → Result Role Reason
role piece =
    if bytes_eq piece (codes "send") then Ok Sender
    else if bytes_eq piece (codes "recv") then Ok Recipient
    else Err Word

-- MODE: mode_base or mode_psk (RFC 9180, 5)
abbrev pub mode : List ℕ → Result Mode Reason
mode piece =
    if bytes_eq piece (codes "base") then Ok Base
    else if bytes_eq piece (codes "psk") then Ok Psk
    else Err Word

-- AEAD: aead_id (RFC 9180, 7.3), without ChaCha20Poly1305
abbrev pub aead : List ℕ → Result Aead Reason
aead piece = do
  id ← number 1 65535 piece
  ok_or (aead_named id) Range
