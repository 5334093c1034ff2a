-- The next line of a text, and what is left behind it.
use Rattle.std.proofs.Common.{◌≡◌, ℕ, suc, ◌+◌, ◌-◌, ◌<◌, ◌==◌, Bool, true, false, cond, List, [], ◌∷◌, ◌++◌, length, take, Some, None, Result, Ok, Err, refl, sym, ap, ◌∙◌, append_assoc, arith}
use Rattle.std.specs.List.{slice_split, onto_first}
use Rattle.call_places.specs.declared.entries.Mark.{Mark}
use Rattle.field_text.specs.declared.reasons.Reason.{Reason}
use Rattle.field_text.specs.Cuts.{lines_of}
use Rattle.field_text.proofs.Cutting.{some_piece}
use Rattle.result_lines.specs.declared.stamps.Stamps.{Stamps}
use Rattle.result_lines.specs.Forms.{mark_of_line}
use Rattle.result_lines.specs.Places.{LinesView, next_line, line_from, nothing_from, ended, MarksFound, mark_before, marks_from, marks_of}
use Rattle.result_lines.specs.Readings.{marked, mark_from, mark_at}

-- ---- one line

line_cons : (n : ℕ) (line : List ℕ) (parts : List (List ℕ)) → (length parts == 0) ≡ false
    → line_from n (line ∷ parts) ≡ Ok (line, record { number = n + 1; parts = parts })
line_cons n line [] some = absurd cc
line_cons n line (next ∷ more) some = refl

some_line : (after : List ℕ) → (length (lines_of after) == 0) ≡ false
some_line after = some_piece (λ byte. byte == 10) after

-- a finished line
pub line_taken : (n : ℕ) (text line after : List ℕ) → lines_of text ≡ line ∷ lines_of after
    → next_line (record { number = n; parts = lines_of text }) ≡ Ok (line, record { number = n + 1; parts = lines_of after })
line_taken n text line after cut = ap (line_from n) cut ∙ line_cons n line (lines_of after) (some_line after)

-- ---- a place of a journal

mark_cons : (stamps : Stamps) (n : ℕ) (line : List ℕ) (parts : List (List ℕ)) → (length parts == 0) ≡ false
    → mark_from stamps n (line ∷ parts) ≡ marked (mark_of_line stamps line) (record { number = n + 1; parts = parts })
mark_cons stamps n line [] some = absurd cc
mark_cons stamps n line (next ∷ more) some = refl

-- a finished line that is a place
pub mark_taken : (stamps : Stamps) (n : ℕ) (text line after : List ℕ) (mark : Mark) → lines_of text ≡ line ∷ lines_of after
    → mark_of_line stamps line ≡ Ok mark
    → mark_at stamps (record { number = n; parts = lines_of text }) ≡ Some (mark, record { number = n + 1; parts = lines_of after })
mark_taken stamps n text line after mark cut read =
    ap (mark_from stamps n) cut ∙ mark_cons stamps n line (lines_of after) (some_line after)
    ∙ ap (λ (r : Result Mark Reason). marked r (record { number = n + 1; parts = lines_of after })) read

-- a finished line that is none
pub mark_left : (stamps : Stamps) (n : ℕ) (text line after : List ℕ) (reason : Reason) → lines_of text ≡ line ∷ lines_of after
    → mark_of_line stamps line ≡ Err reason → mark_at stamps (record { number = n; parts = lines_of text }) ≡ None
mark_left stamps n text line after reason cut read =
    ap (mark_from stamps n) cut ∙ mark_cons stamps n line (lines_of after) (some_line after)
    ∙ ap (λ (r : Result Mark Reason). marked r (record { number = n + 1; parts = lines_of after })) read

-- ---- a journal

-- marks before those that were found
abbrev pub prepended : List Mark → MarksFound → MarksFound
prepended marks found = record found { marks = marks ++ found.marks }

no_marks : (stamps : Stamps) (n : ℕ) (parts : List (List ℕ)) → mark_from stamps n parts ≡ None
    → marks_from stamps n parts ≡ record { marks = []; lines = record { number = n; parts = parts } }
no_marks stamps n [] none = refl
no_marks stamps n (part ∷ []) none = refl
no_marks stamps n (line ∷ next ∷ more) none = go (mark_of_line stamps line) none
  where
    go : (r : Result Mark Reason) → marked r (record { number = n + 1; parts = next ∷ more }) ≡ None
        → mark_before r (record { number = n; parts = line ∷ next ∷ more }) (marks_from stamps (n + 1) (next ∷ more))
        ≡ record { marks = []; lines = record { number = n; parts = line ∷ next ∷ more } }
    go (Ok mark) none = absurd cc
    go (Err reason) none = refl

-- no line is a place any more
pub journal_ends : (stamps : Stamps) (lines : LinesView) → mark_at stamps lines ≡ None
    → marks_of stamps lines ≡ record { marks = []; lines = lines }
journal_ends stamps lines none = no_marks stamps lines.number lines.parts none

inside : (x y : Mark × LinesView) → Some x ≡ Some y → x ≡ y
inside x y e = cc

some_marks : (stamps : Stamps) (n : ℕ) (parts : List (List ℕ)) (mark : Mark) (after : LinesView) → mark_from stamps n parts ≡ Some (mark, after)
    → marks_from stamps n parts ≡ prepended (mark ∷ []) (marks_of stamps after)
some_marks stamps n [] mark after some = absurd cc
some_marks stamps n (part ∷ []) mark after some = absurd cc
some_marks stamps n (line ∷ next ∷ more) mark after some = go (mark_of_line stamps line) some
  where
    go : (r : Result Mark Reason) → marked r (record { number = n + 1; parts = next ∷ more }) ≡ Some (mark, after)
        → mark_before r (record { number = n; parts = line ∷ next ∷ more }) (marks_from stamps (n + 1) (next ∷ more))
        ≡ prepended (mark ∷ []) (marks_of stamps after)
    go (Err reason) some = absurd cc
    go (Ok m) some =
        let pair = inside (m, record { number = n + 1; parts = next ∷ more }) (mark, after) some in
        let same : m ≡ mark = ap (λ (p : Mark × LinesView). p.0) pair in
        let rest : record { number = n + 1; parts = next ∷ more } ≡ after = ap (λ (p : Mark × LinesView). p.1) pair in
        ap (λ (x : Mark). prepended (x ∷ []) (marks_from stamps (n + 1) (next ∷ more))) same
        ∙ ap (λ (l : LinesView). prepended (mark ∷ []) (marks_of stamps l)) rest

-- the next line is a place
pub journal_goes_on : (stamps : Stamps) (lines : LinesView) (mark : Mark) (after : LinesView) → mark_at stamps lines ≡ Some (mark, after)
    → marks_of stamps lines ≡ prepended (mark ∷ []) (marks_of stamps after)
journal_goes_on stamps lines mark after some = some_marks stamps lines.number lines.parts mark after some

-- it is one of the first so many
pub first_go_on : (stamps : Stamps) (lines : LinesView) (mark : Mark) (after : LinesView) (n i : ℕ) (so_far total : List Mark) → i < n
    → mark_at stamps lines ≡ Some (mark, after) → so_far ++ take (n - i) (marks_of stamps lines).marks ≡ total
    → (so_far ++ mark ∷ []) ++ take (n - (i + 1)) (marks_of stamps after).marks ≡ total
first_go_on stamps lines mark after n i so_far total lt some is =
    let more : n - i ≡ suc (n - (i + 1)) = omega arith in
    append_assoc so_far (mark ∷ []) (take (n - (i + 1)) (marks_of stamps after).marks)
    ∙ sym (ap (λ (k : ℕ). so_far ++ take k (marks_of stamps lines).marks) more
    ∙ ap (λ (f : MarksFound). so_far ++ take (suc (n - (i + 1))) f.marks) (journal_goes_on stamps lines mark after some))
    ∙ is

-- ---- the end

two_parts : (n : ℕ) (parts : List (List ℕ)) → (length parts == 0) ≡ false → nothing_from n ([] ∷ parts) ≡ Err n
two_parts n [] some = absurd cc
two_parts n (part ∷ parts) some = refl

more_bytes : (n c : ℕ) (parts : List (List ℕ)) → nothing_from n (onto_first c parts) ≡ Err n
more_bytes n c [] = refl
more_bytes n c (part ∷ []) = refl
more_bytes n c (part ∷ next ∷ parts) = refl

-- a byte behind the end
pub something_left : (n : ℕ) (text : List ℕ) → 0 < length text → ended (record { number = n; parts = lines_of text }) ≡ Err n
something_left n [] some = absurd (omega arith)
something_left n (c ∷ cs) some =
    elim (c == 10) as (λ (b : Bool). nothing_from n (cond b ([] ∷ slice_split (λ byte. byte == 10) cs) (onto_first c (slice_split (λ byte. byte == 10) cs))) ≡ Err n) [
      | true ↦ two_parts n (slice_split (λ byte. byte == 10) cs) (some_line cs)
      | false ↦ more_bytes n c (slice_split (λ byte. byte == 10) cs)
    ]
