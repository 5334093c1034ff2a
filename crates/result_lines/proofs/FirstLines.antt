-- The first line of a text, and what is read of it.
use Rattle.std.proofs.Common.{◌≡◌, ℕ, ◌⊎◌, ◌+◌, ◌==◌, Bool, true, false, cond, List, [], ◌∷◌, ◌++◌, length, Result, Ok, Err, refl, sym, ap, ◌∙◌, append_assoc, arith, inl, inr}
use Rattle.std.specs.List.{onto_first, All}
use Rattle.std.specs.Str.{bytes_eq}
use Rattle.std.proofs.lemmas.List.Splits.{slice_split_at, slice_split_none}
use Rattle.std.proofs.lemmas.List.Elements.{All-cons, All-nil}
use Rattle.std.proofs.lemmas.Slice.Eq.{bytes_eq-Decides}
use Rattle.field_text.specs.Cuts.{lines_of}
use Rattle.field_text.proofs.Cutting.{some_piece}
use Rattle.result_lines.specs.Places.{◌>>=◌, LinesView, next_line, line_from, line_due, with_feed, nothing_from, ended}
use Rattle.result_lines.specs.Printed.{IsLine}

-- ---- steps

-- a value, and what the next step made of it
pub step_ok : {A B : Type 0} (r : Result A ℕ) (then : A → Result B ℕ) (y : B)
    → (r >>= then) ≡ Ok y → (x : A) × (r ≡ Ok x) × (then x ≡ Ok y)
step_ok (Ok x) then y e = (x, refl, e)
step_ok (Err line) then y e = absurd cc

-- a step that gave a value
pub step_gives : {A B : Type 0} (r : Result A ℕ) (then : A → Result B ℕ) (x : A) → r ≡ Ok x
    → (r >>= then) ≡ then x
step_gives r then x is = ap (λ (s : Result _ ℕ). s >>= then) is

pub ok_is : {A : Type 0} (x y : A) → ◌≡◌ {A = Result A ℕ} (Ok x) (Ok y) → x ≡ y
ok_is x y e = cc

-- a choice that gave a value
pub choice_is : {A : Type 0} (test : Bool) (x : A) (line : ℕ) (y : A)
    → cond test (Ok x) (Err line) ≡ Ok y → (test ≡ true) × (x ≡ y)
choice_is true x line y e = (refl, ok_is x y e)
choice_is false x line y e = absurd cc

-- ---- a text and its first line

-- bytes without a line feed
abbrev pub HasNoFeed : List ℕ → Type 0
HasNoFeed bytes = All (λ byte. (byte == 10) ≡ false) bytes

-- a text begins with a finished line
pub record HasLine (text : List ℕ) : Type 0 where
  pub body : List ℕ
  pub after : List ℕ
  pub parts : text ≡ body ++ (10 ∷ after)
  pub one : HasNoFeed body

-- the line that ends at the first line feed
pub first_line : (text : List ℕ) → HasLine text ⊎ HasNoFeed text
first_line [] = inr (All-nil (λ byte. (byte == 10) ≡ false))
first_line (c ∷ cs) = step (c == 10) refl (first_line cs)
  where
    step : (b : Bool) → (c == 10) ≡ b → HasLine cs ⊎ HasNoFeed cs → HasLine (c ∷ cs) ⊎ HasNoFeed (c ∷ cs)
    step true is later =
        let same : c ≡ 10 = grind arith in
        inl (record { body = []; after = cs; parts = ap (λ (d : ℕ). d ∷ cs) same; one = All-nil (λ byte. (byte == 10) ≡ false) })
    step false is later = elim later [
      | inl rest ↦ inl (record {
        body = c ∷ rest.body;
        after = rest.after;
        parts = ap (λ (ds : List ℕ). c ∷ ds) rest.parts;
        one = All-cons (λ byte. (byte == 10) ≡ false) c rest.body is rest.one;
      })
      | inr none ↦ inr (All-cons (λ byte. (byte == 10) ≡ false) c cs is none)
    ]

-- a text is cut behind its first line
pub cut_line : (body after : List ℕ) → HasNoFeed body → lines_of (body ++ (10 ∷ after)) ≡ body ∷ lines_of after
cut_line body after one = slice_split_at (λ byte. byte == 10) body 10 after one refl

some_line : (after : List ℕ) → (length (lines_of after) == 0) ≡ false
some_line after = some_piece (λ byte. byte == 10) after

line_cons : (n : ℕ) (line : List ℕ) (parts : List (List ℕ)) → (length parts == 0) ≡ false
    → line_from n (line ∷ parts) ≡ Ok (line, record { number = n + 1; parts = parts })
line_cons n line [] some = absurd cc
line_cons n line (next ∷ more) some = refl

-- the text that is left
abbrev pub IsLeft : LinesView → List ℕ → Type 0
IsLeft lines text = lines.parts ≡ lines_of text

-- ---- a line is read

-- the lines behind the first
abbrev pub behind_line : LinesView → List ℕ → LinesView
behind_line lines after = record { number = lines.number + 1; parts = lines_of after }

-- a text that begins with a line gives it
pub line_given : (lines : LinesView) (text body after : List ℕ) → IsLeft lines text → text ≡ body ++ (10 ∷ after) → HasNoFeed body
    → next_line lines ≡ Ok (body, behind_line lines after)
line_given lines text body after left parts one =
    ap (line_from lines.number) (left ∙ ap lines_of parts ∙ cut_line body after one)
    ∙ line_cons lines.number body (lines_of after) (some_line after)

-- what was read is the first line of the text
pub record IsTaken (lines : LinesView) (text body : List ℕ) (new : LinesView) : Type 0 where
  pub after : List ℕ
  pub parts : text ≡ with_feed body ++ after
  pub left : IsLeft new after

pub line_read : (lines : LinesView) (text body : List ℕ) (new : LinesView) → IsLeft lines text
    → next_line lines ≡ Ok (body, new) → IsTaken lines text body new
line_read lines text body new left e = elim (first_line text) [
  | inl has ↦
      (let same : (has.body, behind_line lines has.after) ≡ (body, new) =
      ok_is (has.body, behind_line lines has.after) (body, new) (sym (line_given lines text has.body has.after left has.parts has.one) ∙ e) in
      let line : has.body ≡ body = ap (λ (p : List ℕ × LinesView). p.0) same in
      let more : behind_line lines has.after ≡ new = ap (λ (p : List ℕ × LinesView). p.1) same in
      record {
        after = has.after;
        parts =
            has.parts ∙ sym (append_assoc has.body (10 ∷ []) has.after)
            ∙ ap (λ (bytes : List ℕ). (bytes ++ (10 ∷ [])) ++ has.after) line;
        left = sym (ap (λ (l : LinesView). l.parts) more);
      })
  | inr none ↦ absurd (
      let unfinished : next_line lines ≡ Err lines.number =
      ap (line_from lines.number) (left ∙ slice_split_none (λ byte. byte == 10) text none) in
      let clash : Err lines.number ≡ Ok (body, new) = sym unfinished ∙ e in cc)
]

-- ---- the line that is due

-- it is read
pub due_read : (due : List ℕ) (lines new : LinesView) (text : List ℕ) → IsLeft lines text → line_due due lines ≡ Ok new
    → (after : List ℕ) × (text ≡ due ++ after) × IsLeft new after
unfolding line_due
due_read due lines new text left e =
    let found = step_ok (next_line lines) _ new e in
    let line : List ℕ = found.0.0 in
    let taken = line_read lines text line found.0.1 left found.1 in
    let passed = choice_is (bytes_eq (with_feed line) due) found.0.1 lines.number new found.2 in
    let same : with_feed line ≡ due = (bytes_eq-Decides (with_feed line) due).0 passed.0 in
    (taken.after, taken.parts ∙ ap (λ (bytes : List ℕ). bytes ++ taken.after) same, ap (λ (l : LinesView). l.parts) (sym passed.1) ∙ taken.left)

-- it is given
pub due_given : (due : List ℕ) (lines : LinesView) (text after : List ℕ) → IsLeft lines text → IsLine due → text ≡ due ++ after
    → line_due due lines ≡ Ok (behind_line lines after)
unfolding line_due
due_given due lines text after left line parts =
    let at : text ≡ line.body ++ (10 ∷ after) =
    parts ∙ ap (λ (bytes : List ℕ). bytes ++ after) line.is ∙ append_assoc line.body (10 ∷ []) after in
    step_gives (next_line lines) _ (line.body, behind_line lines after) (line_given lines text line.body after left at line.one)
    ∙ ap (λ (b : Bool). cond b (Ok (behind_line lines after)) (Err lines.number))
    ((bytes_eq-Decides (with_feed line.body) due).1 (sym line.is))

-- ---- the end

onto_some : (c n : ℕ) (parts : List (List ℕ)) → nothing_from n (onto_first c parts) ≡ Err n
onto_some c n [] = refl
onto_some c n (part ∷ []) = refl
onto_some c n (part ∷ next ∷ parts) = refl

two_parts : (n : ℕ) (parts : List (List ℕ)) → (length parts == 0) ≡ false → nothing_from n ([] ∷ parts) ≡ Err n
two_parts n [] some = absurd cc
two_parts n (part ∷ parts) some = refl

nothing_read : (n k : ℕ) (text : List ℕ) → nothing_from n (lines_of text) ≡ Ok k → text ≡ []
nothing_read n k [] e = refl
nothing_read n k (c ∷ cs) e = absurd (step (c == 10) e)
  where
    step : (b : Bool) → nothing_from n (cond b ([] ∷ lines_of cs) (onto_first c (lines_of cs))) ≡ Ok k → ⊥
    step true e = let clash : Err n ≡ Ok k = sym (two_parts n (lines_of cs) (some_line cs)) ∙ e in cc
    step false e = let clash : Err n ≡ Ok k = sym (onto_some c n (lines_of cs)) ∙ e in cc

pub end_read : (lines : LinesView) (k : ℕ) (text : List ℕ) → IsLeft lines text → ended lines ≡ Ok k → text ≡ []
end_read lines k text left e = nothing_read lines.number k text (ap (nothing_from lines.number) (sym left) ∙ e)

pub end_given : (lines : LinesView) → IsLeft lines [] → ended lines ≡ Ok lines.number
end_given lines left = ap (nothing_from lines.number) left
