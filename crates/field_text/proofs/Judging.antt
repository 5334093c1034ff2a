-- Lines are judged one after another.
use Rattle.std.proofs.Common.{◌≡◌, ℕ, ◌+◌, ◌<◌, ◌≤◌, ◌==◌, nat_lt, Bool, true, false, cond, List, [], ◌∷◌, length, codes, Some, None, Result, Ok, Err, refl, ap, ◌∙◌, arith}
use Rattle.std.specs.List.{slice_split, onto_first}
use Rattle.std.specs.Str.{bytes_eq}
use Rattle.std.proofs.lemmas.Bool.{le-ltb, lt-ltb, ltb-false}
use Rattle.field_text.specs.declared.reasons.Reason.{Reason}
use Rattle.field_text.specs.declared.reasons.Reason.TheVariants as reasons
use Rattle.field_text.specs.declared.faults.BadBatch.{BadBatch}
use Rattle.field_text.specs.declared.lines.Next.TheVariants.{More, Last}
use Rattle.field_text.specs.Cuts.{lines_of, pieces_of}
use Rattle.field_text.specs.Fields.{next}
use Rattle.field_text.specs.Lines.{Grammar, FrontText, line_after, with_word, bad, followed, judged, started, headed, front, is_nothing, whole}
use Rattle.field_text.proofs.Cutting.{some_piece}

-- ---- one line

-- a line without a piece
pub bare_line : {P W : Type 0} (g : Grammar P W) (plan : P) (line : List ℕ) → pieces_of line ≡ [] → line_after g plan line ≡ Err reasons.Fields
unfolding line_after next
bare_line g plan line none = rw none refl

-- the line `end`
pub end_line : {P W : Type 0} (g : Grammar P W) (plan : P) (line piece : List ℕ) (rest : List (List ℕ)) → pieces_of line ≡ piece ∷ rest → bytes_eq piece (codes "end") ≡ true
    → line_after g plan line ≡ with_word g plan rest None
unfolding line_after next
end_line g plan line piece rest cut is = rw (cut, is) refl

-- a line of no word
pub no_word : {P W : Type 0} (g : Grammar P W) (plan : P) (line piece : List ℕ) (rest : List (List ℕ)) (reason : Reason) → pieces_of line ≡ piece ∷ rest → bytes_eq piece (codes "end") ≡ false
    → g.word plan piece ≡ Err reason → line_after g plan line ≡ Err reason
unfolding line_after next
no_word g plan line piece rest reason cut is read = rw (cut, is, read) refl

-- a line of another word
pub word_line : {P W : Type 0} (g : Grammar P W) (plan : P) (line piece : List ℕ) (rest : List (List ℕ)) (word : W) → pieces_of line ≡ piece ∷ rest → bytes_eq piece (codes "end") ≡ false
    → g.word plan piece ≡ Ok word → line_after g plan line ≡ with_word g plan rest (Some word)
unfolding line_after next
word_line g plan line piece rest word cut is read = rw (cut, is, read) refl

-- one finished line
pub judged_cons : {P W : Type 0} (g : Grammar P W) (n : ℕ) (plan : P) (line : List ℕ) (rest : List (List ℕ)) → (length rest == 0) ≡ false
    → judged g n plan (line ∷ rest) ≡ followed n rest (line_after g plan line) (λ plan. judged g (n + 1) plan rest)
unfolding judged
judged_cons g n plan line [] some = absurd cc
judged_cons g n plan line (next ∷ more) some = refl

-- the first line of a text that has one
step : {P W : Type 0} (g : Grammar P W) (n : ℕ) (plan : P) (text line after : List ℕ) → lines_of text ≡ line ∷ lines_of after
    → judged g n plan (lines_of text) ≡ followed n (lines_of after) (line_after g plan line) (λ plan. judged g (n + 1) plan (lines_of after))
step g n plan text line after cut = ap (judged g n plan) cut ∙ judged_cons g n plan line (lines_of after) (some_piece (λ byte. byte == 10) after)

-- a line that others follow
pub more_lines : {P W : Type 0} (g : Grammar P W) (n : ℕ) (plan new : P) (text line after : List ℕ) → lines_of text ≡ line ∷ lines_of after
    → line_after g plan line ≡ Ok (More, new) → judged g n plan (lines_of text) ≡ judged g (n + 1) new (lines_of after)
more_lines g n plan new text line after cut read = step g n plan text line after cut ∙ rw read refl

-- a bad line
pub bad_line : {P W : Type 0} (g : Grammar P W) (n : ℕ) (plan : P) (reason : Reason) (text line after : List ℕ) → lines_of text ≡ line ∷ lines_of after
    → line_after g plan line ≡ Err reason → judged g n plan (lines_of text) ≡ bad n reason
bad_line g n plan reason text line after cut read = step g n plan text line after cut ∙ rw read refl

-- the last line
pub last_line : {P W : Type 0} (g : Grammar P W) (n : ℕ) (plan new : P) (text line after : List ℕ) → lines_of text ≡ line ∷ lines_of after
    → line_after g plan line ≡ Ok (Last, new) → judged g n plan (lines_of text) ≡ Ok (record { plan = new; lines = n; rest = lines_of after })
last_line g n plan new text line after cut read = step g n plan text line after cut ∙ rw read refl

-- an unfinished line
pub unfinished : {P W : Type 0} (g : Grammar P W) (n : ℕ) (plan : P) (text : List ℕ) → lines_of text ≡ text ∷ [] → judged g n plan (lines_of text) ≡ bad n reasons.NoEnd
unfolding judged
unfinished g n plan text cut = rw cut refl

-- ---- the first line

pub headed_cons : {P W : Type 0} (g : Grammar P W) (line : List ℕ) (rest : List (List ℕ)) → (length rest == 0) ≡ false
    → headed g (line ∷ rest) ≡ started g rest (g.header line)
unfolding headed
headed_cons g line [] some = absurd cc
headed_cons g line (next ∷ more) some = refl

pub within : {P W : Type 0} (g : Grammar P W) (most : ℕ) (text : List ℕ) → length text ≤ most → front g most text ≡ headed g (lines_of text)
unfolding front
within g most text short = rw (le-ltb _ _ short) refl

-- a text that was read is not too large
pub is_within : {P W : Type 0} (g : Grammar P W) (most : ℕ) (text : List ℕ) (found : FrontText P) → front g most text ≡ Ok found → length text ≤ most
unfolding front
is_within {P} g most text found e = go (nat_lt most (length text)) refl e
  where
    go : (b : Bool) → nat_lt most (length text) ≡ b → cond b (bad 0 reasons.Size) (headed g (lines_of text)) ≡ Ok found → length text ≤ most
    go true is e = absurd cc
    go false is e = ltb-false most (length text) is

-- a text that is too large, whatever it holds
pub too_large : {P W : Type 0} (g : Grammar P W) (most : ℕ) (text : List ℕ) → most < length text → front g most text ≡ bad 0 reasons.Size
unfolding front
too_large g most text large = rw (lt-ltb _ _ large) refl

-- a text without a finished line
pub no_header : {P W : Type 0} (g : Grammar P W) (most : ℕ) (text : List ℕ) → length text ≤ most → lines_of text ≡ text ∷ [] → front g most text ≡ bad 1 reasons.Header
unfolding headed
no_header g most text short cut = within g most text short ∙ rw cut refl

-- a first line, and what is read of it
pub first_line : {P W : Type 0} (g : Grammar P W) (most : ℕ) (text line after : List ℕ) (read : Result P Reason) → length text ≤ most → lines_of text ≡ line ∷ lines_of after
    → g.header line ≡ read → front g most text ≡ started g (lines_of after) read
first_line g most text line after read short cut is =
    within g most text short ∙ ap (headed g) cut ∙ headed_cons g line (lines_of after) (some_piece (λ byte. byte == 10) after) ∙ ap (started g (lines_of after)) is

-- ---- behind `end`

nothing_none : (text : List ℕ) → length text ≡ 0 → is_nothing (lines_of text) ≡ true
nothing_none [] none = refl
nothing_none (c ∷ cs) none = absurd (omega arith)

two_parts : (parts : List (List ℕ)) → (length parts == 0) ≡ false → is_nothing ([] ∷ parts) ≡ false
two_parts [] some = absurd cc
two_parts (part ∷ parts) some = refl

more_bytes : (c : ℕ) (parts : List (List ℕ)) → is_nothing (onto_first c parts) ≡ false
more_bytes c [] = grind arith
more_bytes c (part ∷ []) = grind arith
more_bytes c (part ∷ next ∷ parts) = refl

nothing_some : (text : List ℕ) → 0 < length text → is_nothing (lines_of text) ≡ false
nothing_some [] some = absurd (omega arith)
nothing_some (c ∷ cs) some =
    elim (c == 10) as (λ (b : Bool). is_nothing (cond b ([] ∷ slice_split (λ byte. byte == 10) cs) (onto_first c (slice_split (λ byte. byte == 10) cs))) ≡ false) [
      | true ↦ two_parts (slice_split (λ byte. byte == 10) cs) (some_piece (λ byte. byte == 10) cs)
      | false ↦ more_bytes c (slice_split (λ byte. byte == 10) cs)
    ]

-- no byte behind `end`
pub whole_text : {P : Type 0} (read : Result (FrontText P) BadBatch) (plan : P) (n : ℕ) (after : List ℕ) → read ≡ Ok (record { plan = plan; lines = n; rest = lines_of after })
    → length after ≡ 0 → whole read ≡ Ok plan
whole_text read plan n after is none = rw (is, nothing_none after none) refl

-- a byte behind it
pub trailing : {P : Type 0} (read : Result (FrontText P) BadBatch) (plan : P) (n : ℕ) (after : List ℕ) → read ≡ Ok (record { plan = plan; lines = n; rest = lines_of after })
    → 0 < length after → whole read ≡ bad (n + 1) reasons.Trailing
trailing read plan n after is some = rw (is, nothing_some after some) refl
