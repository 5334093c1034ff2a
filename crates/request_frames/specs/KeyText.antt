-- The text of a seed, of a key and of a message, as a batch has them. A line's pieces are parted by
-- single spaces, and a line feed ends it. Bytes are lower-case hex digits, `-` for none. A span names
-- bytes of the plan's pool.
use Rattle.std.specs.Prelude.{ℕ, List, [], ◌∷◌, ◌++◌, Option, Some, None, codes, decimal}
use Rattle.call_places.specs.Spans.{span_bytes}
use Rattle.call_places.specs.declared.spans.Span.{Span}
use Rattle.field_text.specs.Cuts.{line_text}
use Rattle.field_text.specs.Printing.{hex_text}
use Rattle.batch_plans.specs.declared.plan.KeyLine.{KeyLine}
use Rattle.batch_plans.specs.declared.plan.KeySource.{KeySource}
use Rattle.batch_plans.specs.declared.plan.KeySource.TheVariants.{Generate, Secret, Peer}
use Rattle.batch_plans.specs.declared.plan.KeySet.{KeySet}
use Rattle.batch_plans.specs.KeyLines.{set_of, source_of}
use Rattle.request_frames.specs.declared.key_words.KeyWord.TheVariants as words
use Rattle.request_frames.specs.KeyWords.{key_word_text}
use Rattle.batch_plans.specs.declared.plan.EncField.{EncField}
use Rattle.batch_plans.specs.declared.plan.EncField.TheVariants.{Bytes, Of}

-- a bytes field
abbrev pub span_text : List ℕ → Span → List ℕ
span_text pool span = hex_text (span_bytes pool span)

-- ENC, REQ or RESP: `@N`, or a bytes field
abbrev pub enc_text : List ℕ → EncField → List ℕ
enc_text pool (Bytes span) = span_text pool span
enc_text pool (Of number) = codes "@" ++ decimal number

-- the pieces of the line of a key of this set, from this source
abbrev pub source_pieces : List ℕ → KeySet → KeySource → List (List ℕ)
source_pieces pool set Generate = key_word_text (words.Generate set) ∷ []
source_pieces pool set (Secret bytes) =
    key_word_text (words.Secret set) ∷ span_text pool bytes ∷ []
source_pieces pool set (Peer bytes) = key_word_text (words.Peer set) ∷ span_text pool bytes ∷ []

-- the pieces of a key line
abbrev pub key_pieces : List ℕ → KeyLine → List (List ℕ)
key_pieces pool line = source_pieces pool (set_of line) (source_of line)

-- `rand H64`, where there is a seed
abbrev pub seed_text : Option (List ℕ) → List ℕ
seed_text None = []
seed_text (Some seed) = line_text (codes "rand" ∷ hex_text seed ∷ [])

-- a key line
abbrev pub key_text : List ℕ → KeyLine → List ℕ
key_text pool key = line_text (key_pieces pool key)
