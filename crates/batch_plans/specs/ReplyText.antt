-- The text that a batch is answered with, a format of this program's own. It is its lines, one
-- behind the other. Numbers are decimal without leading zeros.
use Rattle.std.specs.Prelude.{ℕ, ◌+◌, ◌==◌, Bool, true, false, List, [], ◌∷◌, ◌++◌, map, codes, decimal}
use Rattle.std.specs.List.{concat, flat_map}
use Rattle.call_places.specs.declared.entries.Mark.{Mark}
use Rattle.field_text.specs.declared.faults.BadBatch.{BadBatch}
use Rattle.batch_plans.specs.declared.replies.KeyReply.{KeyReply}
use Rattle.batch_plans.specs.declared.replies.ContextReply.{ContextReply}
use Rattle.batch_plans.specs.Words.{reason_word}
use Rattle.batch_plans.specs.Lines.{key_line, context_line}

-- ---- lanes

-- `lane L`, and the lines of its calls
abbrev pub lane_lines : ℕ → List (List ℕ) → List (List ℕ)
lane_lines number calls = (codes "lane " ++ decimal number ++ codes "\n") ∷ calls

-- ---- journals

-- ` STAMP`, which version 1 doesn't print
abbrev pub stamp_words : Bool → ℕ → List ℕ
stamp_words true stamp = codes " " ++ decimal stamp
stamp_words false stamp = []

-- `LANE CALL ITEM`, and in version 2 `LANE CALL ITEM STAMP`
abbrev pub mark_line : Bool → Mark → List ℕ
mark_line stamps m =
    decimal m.place.lane ++ codes " " ++ decimal m.place.call ++ codes " "
    ++ decimal m.place.item ++ stamp_words stamps m.stamp ++ codes "\n"

-- `journal C`, and the lines of its places
abbrev pub journal_lines : Bool → ℕ → List Mark → List (List ℕ)
journal_lines stamps context marks =
    (codes "journal " ++ decimal context ++ codes "\n") ∷ map (mark_line stamps) marks

-- ---- the whole text

-- the lines of some parts, those of each part behind those of the parts before it
abbrev pub all_lines : List (List (List ℕ)) → List (List ℕ)
all_lines parts = flat_map (λ lines. lines) parts

-- what is made of each element and its number, from a start on
abbrev pub numbered : {A B : Type 0} → (ℕ → A → B) → ℕ → List A → List B
numbered f start [] = []
numbered f start (x ∷ xs) = f start x ∷ numbered f (start + 1) xs

-- the lines of the set-up: keys, then contexts
abbrev pub setup_lines : List KeyReply → List ContextReply → List (List ℕ)
setup_lines keys contexts = numbered key_line 0 keys ++ numbered context_line 0 contexts

-- their text by itself
abbrev pub setup_text : List KeyReply → List ContextReply → List ℕ
setup_text keys contexts = concat (setup_lines keys contexts)

-- `hpkebatch V`
abbrev pub version_line : ℕ → List ℕ
version_line version = codes "hpkebatch " ++ decimal version ++ codes "\n"

abbrev pub has_stamps : ℕ → Bool
has_stamps version = version == 2

-- the lines of a reply to a batch of this version: its keys, its contexts, the lines of each lane's
-- calls, and its journals
unfoldable pub reply_lines : ℕ → List KeyReply → List ContextReply
    → List (List (List ℕ)) → List (List Mark) → List (List ℕ)
reply_lines version keys contexts lanes journals =
    version_line version
    ∷ setup_lines keys contexts
    ++ all_lines (numbered lane_lines 0 lanes)
    ++ all_lines (numbered (journal_lines (has_stamps version)) 0 journals)
    ++ codes "end\n" ∷ []

-- `bad LINE REASON`, the reply to a text that is no batch
abbrev pub bad_text : BadBatch → List ℕ
bad_text bad = codes "bad " ++ decimal bad.line ++ codes " " ++ reason_word bad.reason ++ codes "\n"
