-- The words that begin the lines of a batch of capsules, other than `end`.
use Rattle.std.specs.Prelude.{ℕ, Bool, true, false, List, [], ◌∷◌, ◌++◌, map, codes, Result, Ok, Err, if◌then◌else◌}
use Rattle.std.specs.Str.{bytes_eq}
use Rattle.field_text.specs.declared.reasons.Reason.{Reason}
use Rattle.field_text.specs.declared.reasons.Reason.TheVariants.{Word}
use Rattle.batch_plans.specs.declared.plan.KeySet.TheVariants.{Sntrup761, Sntrup857}
use Rattle.request_frames.specs.KeyWords.{key_word_text, key_words, key_draws}
use Rattle.capsule_frames.specs.declared.words.LineWord.{LineWord}
use Rattle.capsule_frames.specs.declared.words.LineWord.TheVariants.{Rand, Key, Capsule}
use Rattle.capsule_frames.specs.declared.words.CapsuleWord.TheVariants.{Ask, Answer, Take}

-- how each word is spelled
abbrev pub word_text : LineWord → List ℕ
word_text Rand = codes "rand"
word_text (Key word) = key_word_text word
word_text (Capsule Ask) = codes "ask"
word_text (Capsule Answer) = codes "answer"
word_text (Capsule Take) = codes "take"

-- all of them
abbrev pub line_words : List LineWord
line_words =
    Rand
    ∷ (map Key (key_words Sntrup761 ++ key_words Sntrup857)
    ++ (Capsule Ask ∷ Capsule Answer ∷ Capsule Take ∷ []))

-- which of these words a piece is
abbrev pub word_among : List LineWord → List ℕ → Result LineWord Reason
word_among [] piece = Err Word
word_among (word ∷ more) piece =
    if bytes_eq piece (word_text word) then Ok word else word_among more piece

-- the word of a line. The words of other lines of a batch are none here
abbrev pub line_word : List ℕ → Result LineWord Reason
line_word piece = word_among line_words piece

-- the lines that stand only where there is a seed
abbrev pub draws : LineWord → Bool
draws (Key word) = key_draws word
draws (Capsule Ask) = true
draws other = false
