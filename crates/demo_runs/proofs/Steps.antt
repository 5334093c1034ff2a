-- Lines that a plan goes on with.
use Rattle.std.proofs.Common.{◌≡◌, ℕ, ◌+◌, ◌≤◌, true, false, List, [], ◌∷◌, ◌++◌, length, codes, Ok, refl, ap, ◌∙◌, append_assoc}
use Rattle.std.specs.Str.{bytes_eq}
use Rattle.field_text.specs.declared.lines.Next.TheVariants.{More, Last}
use Rattle.field_text.specs.Cuts.{lines_of, pieces_of}
use Rattle.field_text.specs.Fields.{next}
use Rattle.field_text.specs.Lines.{line_after, judged, front}
use Rattle.field_text.proofs.Judging.{more_lines, last_line, first_line, whole_text}
use Rattle.batch_plans.specs.declared.plan.Plan.{Plan}
use Rattle.batch_plans.specs.Limits.{most_input}
use Rattle.request_frames.specs.declared.words.LineWord.{LineWord}
use Rattle.request_frames.specs.Words.{line_word}
use Rattle.request_frames.specs.Batch.{may_stand, with_line, empty_plan, batch_lines, batch, Spells}

-- after a plan, the lines of a text lead to another one, whatever follows
pub record Reads (plan : Plan) (text : List ℕ) (new : Plan) : Type 0 where
  pub reads : (n : ℕ) (after : List ℕ)
      → (m : ℕ) × (judged batch_lines n plan (lines_of (text ++ after)) ≡ judged batch_lines m new (lines_of after))

pub reads_nothing : (plan : Plan) → Reads plan [] plan
reads_nothing plan = record { reads = λ n after. (n, refl) }

pub reads_on : (a b c : Plan) (s t : List ℕ) → Reads a s b → Reads b t c → Reads a (s ++ t) c
reads_on a b c s t first second = record {
  reads = λ n after.
      let one = first.reads n (t ++ after) in
      let two = second.reads one.0 after in
      (two.0, ap (λ (text : List ℕ). judged batch_lines n a (lines_of text)) (append_assoc s t after) ∙ one.1 ∙ two.1);
}

-- one finished line
pub reads_line : (plan new : Plan) (text line : List ℕ)
    → ((after : List ℕ) → lines_of (text ++ after) ≡ line ∷ lines_of after)
    → line_after batch_lines plan line ≡ Ok (More, new) → Reads plan text new
reads_line plan new text line cut read = record {
  reads = λ n after. (n + 1, more_lines batch_lines n plan new (text ++ after) line after (cut after) read);
}

-- the word and the pieces of a line
pub line_is : (plan new : Plan) (line piece : List ℕ) (pieces : List (List ℕ)) (word : LineWord)
    → pieces_of line ≡ piece ∷ pieces → bytes_eq piece (codes "end") ≡ false
    → line_word plan.version piece ≡ Ok word → may_stand word plan ≡ true
    → with_line false plan word pieces ≡ Ok new → line_after batch_lines plan line ≡ Ok (More, new)
unfolding line_after next
line_is plan new line piece pieces word cut no_end word_is stands read =
    rw (cut, no_end, word_is, stands, read) refl

-- the line `end` behind all others
ended : (plan : Plan) → line_after batch_lines plan (codes "end") ≡ Ok (Last, plan)
unfolding line_after next
ended plan = refl

pub spelled : (body : List ℕ) (plan : Plan) → Reads (empty_plan 1) body plan
    → length (codes "hpkebatch 1\n" ++ (body ++ codes "end\n")) ≤ most_input
    → Spells (codes "hpkebatch 1\n" ++ (body ++ codes "end\n")) plan
unfolding batch
spelled body plan lines few =
    let text : List ℕ = codes "hpkebatch 1\n" ++ (body ++ codes "end\n") in
    let rest : List ℕ = body ++ codes "end\n" in
    let read = lines.reads 2 (codes "end\n") in
    let first : front batch_lines most_input text ≡ judged batch_lines 2 (empty_plan 1) (lines_of rest) =
    first_line batch_lines most_input text (codes "hpkebatch 1") rest (Ok (empty_plan 1)) few refl refl in
    let last = last_line batch_lines read.0 plan plan (codes "end\n") (codes "end") [] refl (ended plan) in
    whole_text (front batch_lines most_input text) plan read.0 [] (first ∙ read.1 ∙ last) refl
