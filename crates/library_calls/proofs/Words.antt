-- The words of a line of text.
use Rattle.std.proofs.Common.{◌≡◌, ◌∙◌, ℕ, zero, suc, List, [], ◌∷◌, ◌++◌, Bool, true, false, Some, None, ap, arith}
use Rattle.std.specs.Prelude.{if◌then◌else◌}
use Rattle.std.specs.Io.KnownBytes.{Appends}
use Rattle.std.specs.List.{list_all}
use Rattle.std.specs.Str.{IsUtf8, IsAscii}
use Rattle.std.proofs.lemmas.Str.{IsUtf8-from_ascii}
use Rattle.std.proofs.lemmas.Bool.{ltb-true, and_parts}
use Rattle.batch_words.specs.Words.{command_of}
use Rattle.library_calls.specs.Serving.{command_in, is_ascii, words_in}

all_ascii : (line : List ℕ) → list_all is_ascii line ≡ true → IsAscii line
all_ascii [] all i = omega arith
all_ascii (b ∷ line) all zero = ltb-true b 128 (and_parts (is_ascii b) (list_all is_ascii line) all).0
all_ascii (b ∷ line) all (suc i) = all_ascii line (and_parts (is_ascii b) (list_all is_ascii line) all).1 i

-- ASCII text is text
pub is_text : (line : List ℕ) → list_all is_ascii line ≡ true → IsUtf8 line
is_text line all = IsUtf8-from_ascii line (all_ascii line all)

-- what such a line spells
pub spelled_in : (line : List ℕ) → list_all is_ascii line ≡ true → command_in line ≡ command_of (words_in line)
unfolding command_in
spelled_in line all = ap (λ (b : Bool). if b then command_of (words_in line) else None) all

pub spells_none : (line : List ℕ) → list_all is_ascii line ≡ false → command_in line ≡ None
unfolding command_in
spells_none line not_all = ap (λ (b : Bool). if b then command_of (words_in line) else None) not_all

-- what was written to an empty text is the text
pub whole_text : (before after text : List ℕ) → before ≡ [] → Appends (Some before) (Some after) text → after ≡ text
whole_text before after text none appends = appends ∙ ap (λ (xs : List ℕ). xs ++ text) none
