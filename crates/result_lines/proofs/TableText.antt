-- The table of a text that was printed: it stands behind the first line `table`, and its notes are
-- read back.
use Rattle.std.proofs.Common.{◌≡◌, ℕ, ◌+◌, ◌≤◌, Bool, true, false, cond, List, [], ◌∷◌, ◌++◌, length, map, take, drop, codes, decimal, Option, Result, Ok, Err, refl, sym, ap, ◌∙◌, append_assoc, arith}
use Rattle.std.specs.List.{concat, All}
use Rattle.std.specs.Str.{bytes_eq}
use Rattle.std.proofs.lemmas.List.{take_all, length-map}
use Rattle.std.proofs.lemmas.List.Elements.{All-nil, All-cons, All-head, All-tail, All-take, All-drop, All-append}
use Rattle.std.proofs.lemmas.Bool.Decides.{not_from_Decides}
use Rattle.std.proofs.lemmas.Slice.Eq.{bytes_eq-Decides}
use Rattle.call_places.specs.declared.entries.Entry.{Entry}
use Rattle.call_places.specs.declared.entries.Mark.{Mark}
use Rattle.call_places.specs.Orders.{StampsRise}
use Rattle.hpke_context.specs.Contexts.{ContextView}
use Rattle.field_text.specs.declared.reasons.Reason.{Reason}
use Rattle.field_text.specs.Cuts.{lines_of}
use Rattle.batch_plans.specs.Names.{line_count}
use Rattle.batch_plans.specs.declared.plan.Plan.{Plan}
use Rattle.batch_plans.specs.declared.plan.CallLine.{CallLine}
use Rattle.batch_plans.specs.declared.replies.Batch.{Batch}
use Rattle.batch_plans.specs.declared.replies.KeyReply.{KeyReply}
use Rattle.batch_plans.specs.declared.replies.ContextReply.{ContextReply}
use Rattle.batch_plans.specs.Lines.{key_line, context_line}
use Rattle.batch_plans.specs.ReplyText.{all_lines, numbered, lane_lines, mark_line, journal_lines, version_line}
use Rattle.batch_plans.specs.AnswersText.{guess_line}
use Rattle.batch_plans.specs.LiveText.{added_journal_lines, note_line, table_lines, live_lines}
use Rattle.context_books.specs.Live.{looked_up_plan}
use Rattle.result_lines.specs.declared.stamps.Stamps.TheVariants.{PlacesAndNotes}
use Rattle.result_lines.specs.declared.tables.NoteLine.{NoteLine}
use Rattle.result_lines.specs.Forms.{guess_in, mark_in, guess_of_line, mark_of_line}
use Rattle.result_lines.specs.Places.{with_feed}
use Rattle.result_lines.specs.Tables.{note_in, behind_table, notes_from, most_notes, entry_of, table_told}
use Rattle.result_lines.specs.Printed.{call_replies, call_guesses, lane_replies, told_calls, told_lanes, IsLine, IsGuessWithin, IsPlaceWithin}
use Rattle.result_lines.specs.PrintedLive.{told_live_text, IsReply, note_told, IsNoteWithin}
use Rattle.result_lines.proofs.FirstLines.{cut_line}
use Rattle.result_lines.proofs.Growing.{concat-append}
use Rattle.result_lines.proofs.NumberLines.{IsPrinted, guess_back, mark_back}
use Rattle.result_lines.proofs.NoteLines.{note_back, note_taken}
use Rattle.result_lines.proofs.PlainLines.{numbered_line, key_line_is, context_line_is}

-- ---- lines other than `table`

pub record IsOther (line : List ℕ) : Type 0 where
  pub one : IsLine line
  pub other : bytes_eq one.body (codes "table") ≡ false

-- the text goes on behind the line
line_and : (line rest : List ℕ) (is : IsLine line) → lines_of (line ++ rest) ≡ is.body ∷ lines_of rest
line_and line rest is =
    ap lines_of (ap (λ (bytes : List ℕ). bytes ++ rest) is.is ∙ append_assoc is.body (10 ∷ []) rest)
    ∙ cut_line is.body rest is.one

passed : (lines : List (List ℕ)) (rest : List ℕ) → All IsOther lines → behind_table (lines_of (concat lines ++ rest)) ≡ behind_table (lines_of rest)
passed [] rest all = refl
passed (line ∷ lines) rest all =
    let first = All-head IsOther line lines all in
    let more = concat lines ++ rest in
    ap (λ (bytes : List ℕ). behind_table (lines_of bytes)) (append_assoc line (concat lines) rest)
    ∙ ap behind_table (line_and line more first.one)
    ∙ ap (λ (b : Bool). cond b (lines_of more) (behind_table (lines_of more))) first.other
    ∙ passed lines rest (All-tail IsOther line lines all)

-- a reply
reply_other : (line : List ℕ) → IsReply line → IsOther line
reply_other line reply =
    let one = reply.one in
    record { one = one; other = go (bytes_eq one.body (codes "table")) refl }
  where
    go : (b : Bool) → bytes_eq reply.one.body (codes "table") ≡ b → bytes_eq reply.one.body (codes "table") ≡ false
    go false is = is
    go true is =
        let same : reply.one.body ≡ codes "table" = (bytes_eq-Decides reply.one.body (codes "table")).0 is in
        absurd (reply.other (reply.one.is ∙ ap with_feed same))

-- a line that a test finds to be another
other_line : (line : List ℕ) → IsLine line → bytes_eq line (codes "table\n") ≡ false → IsOther line
other_line line one other =
    reply_other line record { one = one; other = not_from_Decides (bytes_eq line (codes "table\n")) (bytes_eq-Decides line (codes "table\n")) other }

all_replies : (lines : List (List ℕ)) → All IsReply lines → All IsOther lines
all_replies [] all = All-nil IsOther
all_replies (line ∷ lines) all =
    All-cons IsOther line lines (reply_other line (All-head IsReply line lines all)) (all_replies lines (All-tail IsReply line lines all))

-- a line that is read as something is none that isn't
read_other : {A : Type 0} (line : List ℕ) (read : List ℕ → Result A Reason) (value : A) (reason : Reason) → read (codes "table") ≡ Err reason
    → IsPrinted line read value → IsOther line
read_other {A} line read value reason none printed =
    record { one = printed.printed; other = go (bytes_eq printed.printed.body (codes "table")) refl }
  where
    go : (b : Bool) → bytes_eq printed.printed.body (codes "table") ≡ b → bytes_eq printed.printed.body (codes "table") ≡ false
    go false is = is
    go true is =
        let same : printed.printed.body ≡ codes "table" = (bytes_eq-Decides printed.printed.body (codes "table")).0 is in
        let clash : Ok value ≡ Err reason = sym printed.back ∙ ap read same ∙ none in
        absurd cc

-- ---- the lines before the table

numbered_other : {A : Type 0} (line : ℕ → A → List ℕ) (is : (n : ℕ) (x : A) → IsOther (line n x)) (n : ℕ) (xs : List A) → All IsOther (numbered line n xs)
numbered_other line is n [] = All-nil IsOther
numbered_other line is n (x ∷ xs) = All-cons IsOther (line n x) (numbered line (n + 1) xs) (is n x) (numbered_other line is (n + 1) xs)

key_other : (n : ℕ) (reply : KeyReply) → IsOther (key_line n reply)
key_other n reply = other_line (key_line n reply) (key_line_is n reply) refl

context_other : (n : ℕ) (reply : ContextReply) → IsOther (context_line n reply)
context_other n reply = other_line (context_line n reply) (context_line_is n reply) refl

guesses_other : (guesses : List Batch) → All IsGuessWithin guesses → All IsOther (map guess_line guesses)
unfolding guess_in
guesses_other [] within = All-nil IsOther
guesses_other (g ∷ guesses) within =
    All-cons IsOther (guess_line g) (map guess_line guesses)
    (read_other (guess_line g) guess_of_line g _ refl (guess_back g (All-head IsGuessWithin g guesses within)))
    (guesses_other guesses (All-tail IsGuessWithin g guesses within))

calls_other : (contexts : List (Option ContextView)) (calls : List CallLine) (lines : List (List ℕ)) (guesses : List Batch) → All IsOther lines → All IsGuessWithin guesses
    → All IsOther (told_calls contexts calls lines guesses)
calls_other contexts [] lines guesses all within = All-nil IsOther
calls_other contexts (call ∷ calls) lines guesses all within =
    let n = call_replies contexts call in
    let m = call_guesses contexts call in
    All-append IsOther (take n lines) (map guess_line (take m guesses) ++ told_calls contexts calls (drop n lines) (drop m guesses))
    (All-take IsOther n lines all)
    (All-append IsOther (map guess_line (take m guesses)) (told_calls contexts calls (drop n lines) (drop m guesses))
    (guesses_other (take m guesses) (All-take IsGuessWithin m guesses within))
    (calls_other contexts calls (drop n lines) (drop m guesses) (All-drop IsOther n lines all) (All-drop IsGuessWithin m guesses within)))

-- `lane L` and the like, and lines behind it
headed : (word : List ℕ) (n : ℕ) (lines : List (List ℕ)) → IsLine ((word ++ decimal n) ++ codes "\n") → bytes_eq ((word ++ decimal n) ++ codes "\n") (codes "table\n") ≡ false → All IsOther lines
    → All IsOther (((word ++ decimal n) ++ codes "\n") ∷ lines)
headed word n lines one other all = All-cons IsOther ((word ++ decimal n) ++ codes "\n") lines (other_line ((word ++ decimal n) ++ codes "\n") one other) all

lanes_other : (contexts : List (Option ContextView)) (n : ℕ) (lanes : List (List CallLine)) (lines : List (List ℕ)) (guesses : List (List Batch)) → All IsOther lines
    → All (All IsGuessWithin) guesses → All IsOther (all_lines (numbered lane_lines n (told_lanes contexts lanes lines guesses)))
lanes_other contexts n [] lines guesses all within = All-nil IsOther
lanes_other contexts n (calls ∷ lanes) lines [] all within = All-nil IsOther
lanes_other contexts n (calls ∷ lanes) lines (own ∷ guesses) all within =
    let here = told_calls contexts calls lines own in
    let later = told_lanes contexts lanes (drop (lane_replies contexts calls) lines) guesses in
    All-append IsOther (lane_lines n here) (all_lines (numbered lane_lines (n + 1) later))
    (headed (codes "lane ") n here (numbered_line (codes "lane ") n refl) refl (calls_other contexts calls lines own all (All-head (All IsGuessWithin) own guesses within)))
    (lanes_other contexts (n + 1) lanes (drop (lane_replies contexts calls) lines) guesses (All-drop IsOther (lane_replies contexts calls) lines all)
    (All-tail (All IsGuessWithin) own guesses within))

marks_other : (marks : List Mark) → All (IsPlaceWithin PlacesAndNotes) marks → All IsOther (map (mark_line true) marks)
unfolding mark_in
marks_other [] within = All-nil IsOther
marks_other (m ∷ marks) within =
    All-cons IsOther (mark_line true m) (map (mark_line true) marks)
    (read_other (mark_line true m) (mark_of_line PlacesAndNotes) m _ refl (mark_back PlacesAndNotes m (All-head (IsPlaceWithin PlacesAndNotes) m marks within)))
    (marks_other marks (All-tail (IsPlaceWithin PlacesAndNotes) m marks within))

journals_other : (n : ℕ) (journals : List (List Mark)) → All (All (IsPlaceWithin PlacesAndNotes)) journals → All IsOther (all_lines (numbered (journal_lines true) n journals))
journals_other n [] within = All-nil IsOther
journals_other n (marks ∷ journals) within =
    All-append IsOther (journal_lines true n marks) (all_lines (numbered (journal_lines true) (n + 1) journals))
    (headed (codes "journal ") n (map (mark_line true) marks) (numbered_line (codes "journal ") n refl) refl
    (marks_other marks (All-head (All (IsPlaceWithin PlacesAndNotes)) marks journals within)))
    (journals_other (n + 1) journals (All-tail (All (IsPlaceWithin PlacesAndNotes)) marks journals within))

added_other : (n : ℕ) (journals : List (List Mark)) → All (All (IsPlaceWithin PlacesAndNotes)) journals → All IsOther (all_lines (numbered added_journal_lines n journals))
added_other n [] within = All-nil IsOther
added_other n (marks ∷ journals) within =
    All-append IsOther (added_journal_lines n marks) (all_lines (numbered added_journal_lines (n + 1) journals))
    (headed (codes "journal +") n (map (mark_line true) marks) (numbered_line (codes "journal +") n refl) refl
    (marks_other marks (All-head (All (IsPlaceWithin PlacesAndNotes)) marks journals within)))
    (added_other (n + 1) journals (All-tail (All (IsPlaceWithin PlacesAndNotes)) marks journals within))

-- ---- notes

notes_back : (plan : Plan) (standing : List (Option ContextView)) (notes : List Entry) → All (IsNoteWithin plan standing) notes
    → notes_from (lines_of (concat (map note_line notes) ++ codes "end\n")) ≡ map note_told notes
unfolding note_in
notes_back plan standing [] within = refl
notes_back plan standing (e ∷ notes) within =
    let first = All-head (IsNoteWithin plan standing) e notes within in
    let printed = note_back e first.lane first.call first.stamp in
    let more = concat (map note_line notes) ++ codes "end\n" in
    ap (λ (bytes : List ℕ). notes_from (lines_of bytes)) (append_assoc (note_line e) (concat (map note_line notes)) (codes "end\n"))
    ∙ note_taken (note_line e ++ more) printed.printed.body more (note_told e) (line_and (note_line e) more printed.printed) printed.back
    ∙ ap (λ (ns : List NoteLine). note_told e ∷ ns) (notes_back plan standing notes (All-tail (IsNoteWithin plan standing) e notes within))

own_entries : (plan : Plan) (standing : List (Option ContextView)) (notes : List Entry) → All (IsNoteWithin plan standing) notes
    → map (entry_of plan standing) (map note_told notes) ≡ notes
own_entries plan standing [] within = refl
own_entries plan standing (e ∷ notes) within =
    (λ i. (All-head (IsNoteWithin plan standing) e notes within).own i
    ∷ own_entries plan standing notes (All-tail (IsNoteWithin plan standing) e notes within) i)

-- ---- how many notes

-- stamps that rise from 0 on are no more than their greatest
risen : (plan : Plan) (standing : List (Option ContextView)) (e : Entry) (notes : List Entry) → StampsRise (e ∷ notes) → All (IsNoteWithin plan standing) (e ∷ notes)
    → e.stamp + length (e ∷ notes) ≤ most_notes
risen plan standing e [] rise within = (let low = (All-head (IsNoteWithin plan standing) e [] within).stamp in omega (arith, low))
risen plan standing e (f ∷ notes) rise within =
    (let later = risen plan standing f notes rise.1 (All-tail (IsNoteWithin plan standing) e (f ∷ notes) within) in
    let first = rise.0 in
    omega (arith, later, first))

few_notes : (plan : Plan) (standing : List (Option ContextView)) (notes : List Entry) → StampsRise notes → All (IsNoteWithin plan standing) notes → length (map note_told notes) ≤ most_notes
few_notes plan standing [] rise within = omega arith
few_notes plan standing (e ∷ notes) rise within =
    (let all = risen plan standing e notes rise within in
    omega (arith, all, length-map (e ∷ notes) note_told))

-- ---- the whole text

pub table_back : (plan : Plan) (keys : List KeyReply) (replies : List ContextReply) (contexts : List (Option ContextView)) (lines : List (List ℕ)) (guesses : List (List Batch))
    (journals : List (List Mark)) (notes : List Entry) → All IsReply lines → All (All IsGuessWithin) guesses → All (All (IsPlaceWithin PlacesAndNotes)) journals
    → All (IsNoteWithin plan contexts) notes → StampsRise notes
    → table_told plan contexts (told_live_text plan keys replies contexts lines guesses journals notes) ≡ notes
unfolding live_lines
table_back plan keys replies contexts lines guesses journals notes all within marks noted rise =
    let count = line_count plan in
    let v = version_line 2 in
    let ks = numbered key_line 0 keys in
    let cs = numbered context_line 0 (take count replies) in
    let lanes = (looked_up_plan plan notes).lanes in
    let ls = all_lines (numbered lane_lines 0 (told_lanes contexts lanes lines guesses)) in
    let js = all_lines (numbered (journal_lines true) 0 (take count journals)) in
    let more = all_lines (numbered added_journal_lines 0 (drop count journals)) in
    let before = (((v ∷ (ks ++ cs)) ++ ls) ++ js) ++ more in
    let own = concat (map note_line notes) in
    let text = told_live_text plan keys replies contexts lines guesses journals notes in
    let parts : text ≡ concat before ++ (codes "table\n" ++ (own ++ codes "end\n")) =
    concat-append (before ++ table_lines notes) (codes "end\n" ∷ [])
    ∙ ap (λ (bytes : List ℕ). bytes ++ codes "end\n") (concat-append before (table_lines notes))
    ∙ append_assoc (concat before) (codes "table\n" ++ own) (codes "end\n")
    ∙ ap (λ (bytes : List ℕ). concat before ++ bytes) (append_assoc (codes "table\n") own (codes "end\n")) in
    let setup : All IsOther (v ∷ (ks ++ cs)) =
    headed (codes "hpkebatch ") 2 (ks ++ cs) (numbered_line (codes "hpkebatch ") 2 refl) refl
    (All-append IsOther ks cs (numbered_other key_line key_other 0 keys) (numbered_other context_line context_other 0 (take count replies))) in
    let others : All IsOther before =
    All-append IsOther (((v ∷ (ks ++ cs)) ++ ls) ++ js) more
    (All-append IsOther ((v ∷ (ks ++ cs)) ++ ls) js
    (All-append IsOther (v ∷ (ks ++ cs)) ls setup (lanes_other contexts 0 lanes lines guesses (all_replies lines all) within))
    (journals_other 0 (take count journals) (All-take (All (IsPlaceWithin PlacesAndNotes)) count journals marks)))
    (added_other 0 (drop count journals) (All-drop (All (IsPlaceWithin PlacesAndNotes)) count journals marks)) in
    ap (table_told plan contexts) parts
    ∙ ap (λ (ps : List (List ℕ)). map (entry_of plan contexts) (take most_notes (notes_from ps))) (passed before (codes "table\n" ++ (own ++ codes "end\n")) others)
    ∙ ap (λ (ns : List NoteLine). map (entry_of plan contexts) (take most_notes ns)) (notes_back plan contexts notes noted)
    ∙ ap (λ (ns : List NoteLine). map (entry_of plan contexts) ns) (take_all most_notes (map note_told notes) (few_notes plan contexts notes rise noted))
    ∙ own_entries plan contexts notes noted
