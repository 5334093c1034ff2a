-- The text of what may be told is read back, step by step.
use Rattle.std.proofs.Common.{◌≡◌, ℕ, zero, suc, ◌+◌, Bool, List, [], ◌∷◌, ◌++◌, length, map, take, drop, codes, decimal, Option, Some, None, Result, Ok, Err, refl, sym, ap, ◌∙◌, subst, append_assoc, append-nil, arith}
use Rattle.std.specs.Prelude.{sum_by}
use Rattle.std.specs.List.{concat, All}
use Rattle.std.proofs.lemmas.List.{map-append, length-drop, length-take-le, take-append-drop}
use Rattle.std.proofs.lemmas.List.Elements.{All-nil, All-cons, All-head, All-tail, All-take, All-drop}
use Rattle.std.proofs.lemmas.List.Sums.{sum_by-cons}
use Rattle.call_places.specs.declared.entries.Mark.{Mark}
use Rattle.hpke_context.specs.Contexts.{ContextView}
use Rattle.field_text.specs.declared.reasons.Reason.{Reason}
use Rattle.field_text.specs.Cuts.{lines_of, pieces_of}
use Rattle.field_text.specs.Fields.{number}
use Rattle.batch_plans.specs.Limits.{items_of}
use Rattle.batch_plans.specs.Room.{served_batches, served_or}
use Rattle.batch_plans.specs.declared.plan.Plan.{Plan}
use Rattle.batch_plans.specs.declared.plan.ContextLine.{ContextLine}
use Rattle.batch_plans.specs.declared.plan.CallLine.{CallLine}
use Rattle.batch_plans.specs.declared.plan.CallLine.TheVariants as calls
use Rattle.batch_plans.specs.declared.replies.Batch.{Batch}
use Rattle.batch_plans.specs.declared.replies.KeyReply.{KeyReply}
use Rattle.batch_plans.specs.declared.replies.ContextReply.{ContextReply}
use Rattle.batch_plans.specs.declared.replies.CallRefusal.{CallRefusal}
use Rattle.batch_plans.specs.Lines.{key_line, context_line}
use Rattle.batch_plans.specs.ReplyText.{all_lines, numbered, lane_lines, mark_line, journal_lines, version_line, has_stamps}
use Rattle.batch_plans.specs.AnswersText.{guess_line}
use Rattle.context_books.specs.Standing.{call_refusal}
use Rattle.result_lines.specs.declared.told.GuessLine.{GuessLine}
use Rattle.result_lines.specs.declared.stamps.Stamps.{Stamps}
use Rattle.result_lines.specs.Forms.{mark_of_line, are_printed, stamps_for}
use Rattle.result_lines.specs.Places.{◌>>=◌, LinesView, MarksFound, next_line, line_due, guess_from, marks_of, ended, with_feed}
use Rattle.result_lines.specs.Places as places
use Rattle.result_lines.specs.Told.{ReplyView, ToldView, nothing_yet, with_line, with_lines, with_reply, with_replies, with_guess, with_served, with_call_unless, with_call, with_calls, with_lane, with_lanes, journal_ended, with_journal, with_journals, with_setup, with_end, told_by}
use Rattle.result_lines.specs.Printed.{call_replies, call_guesses, lane_replies, lane_guesses, told_calls, told_lanes, told_text, lines_told, AreComplete, IsLine, IsGuessWithin, IsMarkWithin, IsPlaceWithin, IsReadBack}
use Rattle.result_lines.proofs.Cursors.{mark_taken, mark_left, prepended, journal_ends, journal_goes_on}
use Rattle.result_lines.proofs.FirstLines.{HasNoFeed, step_gives, IsLeft, behind_line, cut_line, line_given, due_given, end_given}
use Rattle.result_lines.proofs.Growing.{concat-append, batches, Grew, moved, stayed, grew_more, Gave, gave_more, GrewLanes, lanes_stayed, lanes_more, lane_grew, GrewJournals, journals_stayed, journals_more, journal_grew}
use Rattle.result_lines.proofs.NumberLines.{guess_back, mark_back, no_mark}
use Rattle.result_lines.proofs.PlainLines.{tested, both, decimal_one, numbered_line, key_line_is, context_line_is, end_line_is}
use Rattle.result_lines.proofs.Took.{headed, headed_step, one_call, calls_only, no_guesses, text_parts, version_stamps}

-- another text that is left
pub other_left : {parts : List (List ℕ)} {text other : List ℕ} → text ≡ other → parts ≡ lines_of text → parts ≡ lines_of other
other_left same left = left ∙ ap lines_of same

-- ---- lines as they are printed

pub line_gave : (due : List ℕ) (told : ToldView) (after : List ℕ) → IsLine due → IsLeft told.lines (due ++ after) → Gave (with_line due told) told after [] []
unfolding with_line
line_gave due told after line left = record {
  new = record told { lines = behind_line told.lines after };
  is = step_gives (line_due due told.lines) _ (behind_line told.lines after) (due_given due told.lines (due ++ after) after left line refl);
  grew = moved told (behind_line told.lines after) after refl;
}

pub lines_gave : (due : List (List ℕ)) (told : ToldView) (after : List ℕ) → All IsLine due → IsLeft told.lines (concat due ++ after) → Gave (with_lines due told) told after [] []
lines_gave [] told after all left = record { new = told; is = refl; grew = stayed told after left }
lines_gave (line ∷ more) told after all left =
    gave_more (with_line line told) (with_lines more) told (concat more ++ after) after [] [] [] []
    (line_gave line told (concat more ++ after) (All-head IsLine line more all) (other_left (append_assoc line (concat more) after) left))
    (λ mid here. lines_gave more mid after (All-tail IsLine line more all) here)

-- ---- calls

reply_gave : (line : List ℕ) (told : ToldView) (after : List ℕ) → IsLine line → IsLeft told.lines (line ++ after) → Gave (with_reply told) told after (line ∷ []) []
unfolding with_reply
reply_gave line told after is left =
    let at : line ++ after ≡ is.body ++ (10 ∷ after) = ap (λ (bytes : List ℕ). bytes ++ after) is.is ∙ append_assoc is.body (10 ∷ []) after in
    let reply : ReplyView = record { number = told.lines.number; line = is.body } in
    record {
      new = record told { lines = behind_line told.lines after; replies = told.replies ++ reply ∷ [] };
      is = step_gives (next_line told.lines) _ (is.body, behind_line told.lines after) (line_given told.lines (line ++ after) is.body after left at is.one);
      grew = record {
        left = refl;
        replies =
            map-append (λ (r : ReplyView). with_feed r.line) told.replies (reply ∷ [])
            ∙ ap (λ (l : List ℕ). lines_told told ++ l ∷ []) (sym is.is);
        guesses = sym (append-nil (batches told.guesses));
        lanes = refl;
        journals = refl;
      };
    }

replies_gave : (n : ℕ) (lines : List (List ℕ)) (told : ToldView) (after : List ℕ) → length lines ≡ n → All IsLine lines → IsLeft told.lines (concat lines ++ after)
    → Gave (with_replies n told) told after lines []
replies_gave zero [] told after count all left = record { new = told; is = refl; grew = stayed told after left }
replies_gave zero (line ∷ more) told after count all left = absurd (omega arith)
replies_gave (suc n) [] told after count all left = absurd (omega arith)
replies_gave (suc n) (line ∷ more) told after count all left =
    gave_more (with_reply told) (with_replies n) told (concat more ++ after) after (line ∷ []) more [] []
    (reply_gave line told (concat more ++ after) (All-head IsLine line more all) (other_left (append_assoc line (concat more) after) left))
    (λ mid here. replies_gave n more mid after (omega arith) (All-tail IsLine line more all) here)

guess_gave : (g : Batch) (told : ToldView) (after : List ℕ) → IsGuessWithin g → IsLeft told.lines (guess_line g ++ after) → Gave (with_guess told) told after [] (g ∷ [])
unfolding with_guess guess_from
guess_gave g told after within left =
    let printed = guess_back g within in
    let line = printed.printed in
    let at : guess_line g ++ after ≡ line.body ++ (10 ∷ after) = ap (λ (bytes : List ℕ). bytes ++ after) line.is ∙ append_assoc line.body (10 ∷ []) after in
    let guess : GuessLine = record { number = told.lines.number; guess = g } in
    let behind : LinesView = behind_line told.lines after in
    let read : guess_from told.lines ≡ Ok (g, behind) =
    step_gives (next_line told.lines) _ (line.body, behind) (line_given told.lines (guess_line g ++ after) line.body after left at line.one)
    ∙ ap (λ (r : Result Batch Reason). places.with_lines told.lines.number behind r) printed.back in
    record {
      new = record told { lines = behind; guesses = told.guesses ++ guess ∷ [] };
      is = step_gives (guess_from told.lines) _ (g, behind) read;
      grew = record {
        left = refl;
        replies = sym (append-nil (lines_told told));
        guesses = map-append (λ (x : GuessLine). x.guess) told.guesses (guess ∷ []);
        lanes = refl;
        journals = refl;
      };
    }

-- a call with one reply
one_gave : (lines : List (List ℕ)) (guesses : List Batch) (told : ToldView) (after : List ℕ) → length lines ≡ 1 → length guesses ≡ 0 → All IsLine lines
    → IsLeft told.lines (concat (one_call lines guesses) ++ after) → Gave (with_reply told) told after lines guesses
one_gave [] guesses told after count kept all left = absurd (omega arith)
one_gave (line ∷ next ∷ more) guesses told after count kept all left = absurd (omega arith)
one_gave (line ∷ []) (g ∷ guesses) told after count kept all left = absurd (omega arith)
one_gave (line ∷ []) [] told after count kept all left =
    reply_gave line told after (All-head IsLine line [] all) (other_left (ap (λ (bytes : List ℕ). bytes ++ after) (append-nil line)) left)

-- an opening of several messages
opening_gave : (n : ℕ) (lines : List (List ℕ)) (guesses : List Batch) (told : ToldView) (after : List ℕ) → length lines ≡ n → length guesses ≡ 1 → All IsLine lines
    → All IsGuessWithin guesses → IsLeft told.lines (concat (one_call lines guesses) ++ after) → Gave (with_replies n told >>= with_guess) told after lines guesses
opening_gave n lines [] told after count kept all within left = absurd (omega arith)
opening_gave n lines (g ∷ h ∷ guesses) told after count kept all within left = absurd (omega arith)
opening_gave n lines (g ∷ []) told after count kept all within left =
    let text : concat (one_call lines (g ∷ [])) ++ after ≡ concat lines ++ (guess_line g ++ after) =
    ap (λ (bytes : List ℕ). bytes ++ after) (concat-append lines (guess_line g ∷ []) ∙ ap (λ (bytes : List ℕ). concat lines ++ bytes) (append-nil (guess_line g)))
    ∙ append_assoc (concat lines) (guess_line g) after in
    subst (λ (ls : List (List ℕ)). Gave (with_replies n told >>= with_guess) told after ls (g ∷ [])) (append-nil lines)
    (gave_more (with_replies n told) with_guess told (guess_line g ++ after) after lines [] [] (g ∷ [])
    (replies_gave n lines told (guess_line g ++ after) count all (other_left text left))
    (λ mid here. guess_gave g mid after (All-head IsGuessWithin g [] within) here))

served_gave : (call : CallLine) (lines : List (List ℕ)) (guesses : List Batch) (told : ToldView) (after : List ℕ) → length lines ≡ items_of call
    → length guesses ≡ served_batches call → All IsLine lines → All IsGuessWithin guesses → IsLeft told.lines (concat (one_call lines guesses) ++ after)
    → Gave (with_served call told) told after lines guesses
served_gave (calls.Seal context item) lines guesses told after count kept all within left = one_gave lines guesses told after count kept all left
served_gave (calls.Unseal context item) lines guesses told after count kept all within left = one_gave lines guesses told after count kept all left
served_gave (calls.UnsealAll context first n) lines guesses told after count kept all within left = opening_gave n lines guesses told after count kept all within left
served_gave (calls.Export context exporter size) lines guesses told after count kept all within left = one_gave lines guesses told after count kept all left
served_gave (calls.Add name) lines guesses told after count kept all within left = one_gave lines guesses told after count kept all left
served_gave (calls.Retire name) lines guesses told after count kept all within left = one_gave lines guesses told after count kept all left

call_gave : (refusal : Option CallRefusal) (call : CallLine) (lines : List (List ℕ)) (guesses : List Batch) (told : ToldView) (after : List ℕ) → length lines ≡ served_or refusal (items_of call) 1
    → length guesses ≡ served_or refusal (served_batches call) 0 → All IsLine lines → All IsGuessWithin guesses → IsLeft told.lines (concat (one_call lines guesses) ++ after)
    → Gave (with_call_unless refusal call told) told after lines guesses
call_gave None call lines guesses told after count kept all within left = served_gave call lines guesses told after count kept all within left
call_gave (Some refusal) call lines guesses told after count kept all within left = one_gave lines guesses told after count kept all left

pub nothing : {X : Type 0} (xs : List X) → length xs ≡ 0 → xs ≡ []
nothing [] none = refl
nothing (x ∷ xs) none = absurd (omega arith)

calls_gave : (contexts : List (Option ContextView)) (calls : List CallLine) (lines : List (List ℕ)) (guesses : List Batch) (told : ToldView) (after : List ℕ)
    → length lines ≡ lane_replies contexts calls → length guesses ≡ lane_guesses contexts calls → All IsLine lines → All IsGuessWithin guesses
    → IsLeft told.lines (concat (told_calls contexts calls lines guesses) ++ after) → Gave (with_calls contexts calls told) told after lines guesses
calls_gave contexts [] lines guesses told after count kept all within left =
    record {
      new = told;
      is = refl;
      grew = subst (λ (ls : List (List ℕ)). Grew told told after ls guesses) (sym (nothing lines count))
          (subst (λ (gs : List Batch). Grew told told after [] gs) (sym (nothing guesses kept)) (stayed told after left));
    }
calls_gave contexts (call ∷ more) lines guesses told after count kept all within left =
    let n = call_replies contexts call in
    let m = call_guesses contexts call in
    let sum : length lines ≡ n + lane_replies contexts more = count ∙ sum_by-cons (call_replies contexts) call more in
    let sums : length guesses ≡ m + lane_guesses contexts more = kept ∙ sum_by-cons (call_guesses contexts) call more in
    let r1 = take n lines in
    let r2 = drop n lines in
    let g1 = take m guesses in
    let g2 = drop m guesses in
    let rest = concat (told_calls contexts more r2 g2) ++ after in
    let text : concat (told_calls contexts (call ∷ more) lines guesses) ++ after ≡ concat (one_call r1 g1) ++ rest =
    ap (λ (bytes : List ℕ). bytes ++ after)
    (ap concat (sym (append_assoc r1 (map guess_line g1) (told_calls contexts more r2 g2)))
    ∙ concat-append (one_call r1 g1) (told_calls contexts more r2 g2))
    ∙ append_assoc (concat (one_call r1 g1)) (concat (told_calls contexts more r2 g2)) after in
    subst (λ (ls : List (List ℕ)). Gave (with_calls contexts (call ∷ more) told) told after ls guesses) (take-append-drop n lines)
    (subst (λ (gs : List Batch). Gave (with_calls contexts (call ∷ more) told) told after (r1 ++ r2) gs) (take-append-drop m guesses)
    (gave_more (with_call contexts call told) (with_calls contexts more) told rest after r1 r2 g1 g2
    (call_gave (call_refusal contexts call) call r1 g1 told rest (length-take-le n lines (omega arith)) (length-take-le m guesses (omega arith))
    (All-take IsLine n lines all) (All-take IsGuessWithin m guesses within) (other_left text left))
    (λ mid here. calls_gave contexts more r2 g2 mid after (omega (arith, length-drop n lines)) (omega (arith, length-drop m guesses))
    (All-drop IsLine n lines all) (All-drop IsGuessWithin m guesses within) here)))

-- ---- lanes

pub record GaveLanes (step : Result ToldView ℕ) (told : ToldView) (after : List ℕ) (lines : List (List ℕ)) (guesses : List (List Batch)) : Type 0 where
  pub new : ToldView
  pub is : step ≡ Ok new
  pub grew : GrewLanes told new after lines guesses

lane_gave : (contexts : List (Option ContextView)) (number : ℕ) (calls : List CallLine) (lines : List (List ℕ)) (guesses : List Batch) (told : ToldView) (after : List ℕ)
    → told.guesses ≡ [] → length lines ≡ lane_replies contexts calls → length guesses ≡ lane_guesses contexts calls → All IsLine lines → All IsGuessWithin guesses
    → IsLeft told.lines (concat (lane_lines number (told_calls contexts calls lines guesses)) ++ after)
    → GaveLanes (with_lane contexts number calls told) told after lines (guesses ∷ [])
unfolding with_lane
lane_gave contexts number calls lines guesses told after none count kept all within left =
    let head = (codes "lane " ++ decimal number) ++ codes "\n" in
    let here = concat (told_calls contexts calls lines guesses) in
    let a = line_gave head told (here ++ after) (numbered_line (codes "lane ") number refl) (other_left (append_assoc head here after) left) in
    let b = calls_gave contexts calls lines guesses a.new after count kept all within a.grew.left in
    record {
      new = record b.new { lanes = b.new.lanes ++ b.new.guesses ∷ []; guesses = [] };
      is = step_gives (with_line head told) _ a.new a.is ∙ step_gives (with_calls contexts calls a.new) _ b.new b.is;
      grew = lane_grew told b.new after lines guesses none (grew_more told a.new b.new (here ++ after) after [] lines [] guesses a.grew b.grew);
    }

same_cons : {X : Type 0} (x y : X) (xs ys : List X) → x ∷ xs ≡ y ∷ ys → (x ≡ y) × (xs ≡ ys)
same_cons x y xs ys e = (cc, cc)

pub lanes_gave : (contexts : List (Option ContextView)) (number : ℕ) (lanes : List (List CallLine)) (lines : List (List ℕ)) (guesses : List (List Batch)) (told : ToldView) (after : List ℕ)
    → told.guesses ≡ [] → length lines ≡ sum_by (lane_replies contexts) lanes → map (length {A = Batch}) guesses ≡ map (lane_guesses contexts) lanes
    → All IsLine lines → All (All IsGuessWithin) guesses
    → IsLeft told.lines (concat (all_lines (numbered lane_lines number (told_lanes contexts lanes lines guesses))) ++ after)
    → GaveLanes (with_lanes contexts number lanes told) told after lines guesses
lanes_gave contexts number [] lines [] told after none count kept all within left = record {
  new = told;
  is = refl;
  grew = subst (λ (ls : List (List ℕ)). GrewLanes told told after ls []) (sym (nothing lines count)) (lanes_stayed told after left none);
}
lanes_gave contexts number [] lines (own ∷ guesses) told after none count kept all within left = absurd cc
lanes_gave contexts number (calls ∷ lanes) lines [] told after none count kept all within left = absurd cc
lanes_gave contexts number (calls ∷ lanes) lines (own ∷ guesses) told after none count kept all within left =
    let n = lane_replies contexts calls in
    let sum : length lines ≡ n + sum_by (lane_replies contexts) lanes = count ∙ sum_by-cons (lane_replies contexts) calls lanes in
    let both_kept = same_cons (length own) (lane_guesses contexts calls) (map (length {A = Batch}) guesses) (map (lane_guesses contexts) lanes) kept in
    let r1 = take n lines in
    let r2 = drop n lines in
    let short : length r1 ≡ n = length-take-le n lines (omega arith) in
    let own_lines : told_calls contexts calls lines own ≡ told_calls contexts calls r1 own =
    ap (λ (ls : List (List ℕ)). told_calls contexts calls ls own) (sym (take-append-drop n lines)) ∙ calls_only contexts calls r1 r2 own short in
    let here = lane_lines number (told_calls contexts calls r1 own) in
    let later = all_lines (numbered lane_lines (number + 1) (told_lanes contexts lanes r2 guesses)) in
    let text : concat (all_lines (numbered lane_lines number (told_lanes contexts (calls ∷ lanes) lines (own ∷ guesses)))) ++ after ≡ concat here ++ (concat later ++ after) =
    ap (λ (ls : List (List ℕ)). concat (lane_lines number ls ++ later) ++ after) own_lines
    ∙ ap (λ (bytes : List ℕ). bytes ++ after) (concat-append here later)
    ∙ append_assoc (concat here) (concat later) after in
    let a = lane_gave contexts number calls r1 own told (concat later ++ after) none short both_kept.0 (All-take IsLine n lines all)
    (All-head (All IsGuessWithin) own guesses within) (other_left text left) in
    let b = lanes_gave contexts (number + 1) lanes r2 guesses a.new after a.grew.none (omega (arith, length-drop n lines)) both_kept.1 (All-drop IsLine n lines all)
    (All-tail (All IsGuessWithin) own guesses within) a.grew.left in
    record {
      new = b.new;
      is = step_gives (with_lane contexts number calls told) (with_lanes contexts (number + 1) lanes) a.new a.is ∙ b.is;
      grew = subst (λ (ls : List (List ℕ)). GrewLanes told b.new after ls (own ∷ guesses)) (take-append-drop n lines)
          (lanes_more told a.new b.new (concat later ++ after) after r1 r2 (own ∷ []) guesses a.grew b.grew);
    }

-- ---- journals

-- a text begins with a line that is no place
pub record EndsMarks (stamps : Stamps) (text : List ℕ) : Type 0 where
  pub body : List ℕ
  pub rest : List ℕ
  pub parts : text ≡ body ++ (10 ∷ rest)
  pub one : HasNoFeed body
  pub reason : Reason
  pub none : mark_of_line stamps body ≡ Err reason

pub end_ends : (stamps : Stamps) → EndsMarks stamps (codes "end\n")
end_ends stamps =
    let no = no_mark stamps (codes "end") (codes "end") [] refl refl in
    record { body = codes "end"; rest = []; parts = refl; one = tested (codes "end") refl; reason = no.0; none = no.1 }

-- what a journal's first line is, of this word and a number: a line, and no place
pub record Heads (stamps : Stamps) (word : List ℕ) : Type 0 where
  pub plain : HasNoFeed word
  pub reason : ℕ → Reason
  pub none : (n : ℕ) → mark_of_line stamps (word ++ decimal n) ≡ Err (reason n)

pub journal_heads : (stamps : Stamps) → Heads stamps (codes "journal ")
journal_heads stamps =
    let no = λ (n : ℕ). no_mark stamps (codes "journal " ++ decimal n) (codes "journal") (pieces_of (decimal n)) refl refl in
    record { plain = tested (codes "journal ") refl; reason = λ n. (no n).0; none = λ n. (no n).1 }

pub same_ends : {stamps : Stamps} {text other : List ℕ} → text ≡ other → EndsMarks stamps other → EndsMarks stamps text
same_ends {stamps} same ends = subst (EndsMarks stamps) (sym same) ends

-- what stands behind a journal
pub behind_ends : (stamps : Stamps) (word : List ℕ) → Heads stamps word → (number : ℕ) (journals : List (List Mark)) (after : List ℕ) → EndsMarks stamps after
    → EndsMarks stamps (concat (all_lines (numbered (headed word stamps) number journals)) ++ after)
behind_ends stamps word heads number [] after ends = ends
behind_ends stamps word heads number (marks ∷ journals) after ends =
    let line = word ++ decimal number in
    let rest = concat (map (mark_line (are_printed stamps)) marks ++ all_lines (numbered (headed word stamps) (number + 1) journals)) in
    same_ends (append_assoc (line ++ codes "\n") rest after) (record {
      body = line;
      rest = rest ++ after;
      parts = append_assoc line (10 ∷ []) (rest ++ after);
      one = both word (decimal number) heads.plain (decimal_one number);
      reason = heads.reason number;
      none = heads.none number;
    })

pub record GaveMarks (stamps : Stamps) (lines : LinesView) (marks : List Mark) (after : List ℕ) : Type 0 where
  pub found : MarksFound
  pub is : marks_of stamps lines ≡ found
  pub same : found.marks ≡ marks
  pub left : IsLeft found.lines after

pub marks_gave : (stamps : Stamps) (marks : List Mark) (number : ℕ) (after : List ℕ) → All (IsPlaceWithin stamps) marks → EndsMarks stamps after
    → GaveMarks stamps (record { number = number; parts = lines_of (concat (map (mark_line (are_printed stamps)) marks) ++ after) }) marks after
marks_gave stamps [] number after within ends =
    let lines : LinesView = record { number = number; parts = lines_of after } in
    let cut : lines_of after ≡ ends.body ∷ lines_of ends.rest = ap lines_of ends.parts ∙ cut_line ends.body ends.rest ends.one in
    record {
      found = record { marks = []; lines = lines };
      is = journal_ends stamps lines (mark_left stamps number after ends.body ends.rest ends.reason cut ends.none);
      same = refl;
      left = refl;
    }
marks_gave stamps (m ∷ marks) number after within ends =
    let printed = mark_back stamps m (All-head (IsPlaceWithin stamps) m marks within) in
    let line = printed.printed in
    let later = concat (map (mark_line (are_printed stamps)) marks) ++ after in
    let text = concat (map (mark_line (are_printed stamps)) (m ∷ marks)) ++ after in
    let parts : text ≡ line.body ++ (10 ∷ later) =
    append_assoc (mark_line (are_printed stamps) m) (concat (map (mark_line (are_printed stamps)) marks)) after
    ∙ ap (λ (bytes : List ℕ). bytes ++ later) line.is
    ∙ append_assoc line.body (10 ∷ []) later in
    let cut : lines_of text ≡ line.body ∷ lines_of later = ap lines_of parts ∙ cut_line line.body later line.one in
    let lines : LinesView = record { number = number; parts = lines_of text } in
    let behind : LinesView = record { number = number + 1; parts = lines_of later } in
    let rest = marks_gave stamps marks (number + 1) after (All-tail (IsPlaceWithin stamps) m marks within) ends in
    record {
      found = prepended (m ∷ []) rest.found;
      is =
          journal_goes_on stamps lines m behind (mark_taken stamps number text line.body later m cut printed.back)
          ∙ ap (prepended (m ∷ [])) rest.is;
      same = ap (λ (ms : List Mark). m ∷ ms) rest.same;
      left = rest.left;
    }

pub record GaveJournals (step : Result ToldView ℕ) (told : ToldView) (after : List ℕ) (journals : List (List Mark)) : Type 0 where
  pub new : ToldView
  pub is : step ≡ Ok new
  pub grew : GrewJournals told new after journals

-- one for each line, the first line of each of this word and its number
module _ (word : List ℕ) (stamps : Stamps) (heads : Heads stamps word) (all : ℕ → List ContextLine → ToldView → Result ToldView ℕ) (is_nil : (n : ℕ) (told : ToldView) → all n [] told ≡ Ok told)
    (is_cons : (n : ℕ) (line : ContextLine) (lines : List ContextLine) (told : ToldView) → all n (line ∷ lines) told ≡ (headed_step word stamps n told >>= all (n + 1) lines)) where
  journal_gave : (number : ℕ) (marks : List Mark) (told : ToldView) (after : List ℕ) → All (IsPlaceWithin stamps) marks → EndsMarks stamps after
      → IsLeft told.lines (concat (headed word stamps number marks) ++ after) → GaveJournals (headed_step word stamps number told) told after (marks ∷ [])
  journal_gave number marks told after within ends left =
      let head = (word ++ decimal number) ++ codes "\n" in
      let here = concat (map (mark_line (are_printed stamps)) marks) in
      let a = line_gave head told (here ++ after) (record { body = word ++ decimal number; is = refl; one = both word (decimal number) heads.plain (decimal_one number) }) (other_left (append_assoc head here after) left) in
      let m = marks_gave stamps marks a.new.lines.number after within ends in
      let at : marks_of stamps a.new.lines ≡ m.found =
      ap (λ (parts : List (List ℕ)). marks_of stamps (record { number = a.new.lines.number; parts = parts })) a.grew.left ∙ m.is in
      record {
        new = journal_ended a.new m.found;
        is = step_gives (with_line head told) _ a.new a.is ∙ ap (λ (found : MarksFound). Ok (journal_ended a.new found)) at;
        grew = subst (λ (ms : List Mark). GrewJournals told (journal_ended a.new m.found) after (ms ∷ [])) m.same
            (journal_grew told a.new (here ++ after) after m.found a.grew m.left);
      }

  pub headed_gave : (number : ℕ) (lines : List ContextLine) (journals : List (List Mark)) (told : ToldView) (after : List ℕ) → length journals ≡ length lines
      → All (All (IsPlaceWithin stamps)) journals → EndsMarks stamps after
      → IsLeft told.lines (concat (all_lines (numbered (headed word stamps) number journals)) ++ after) → GaveJournals (all number lines told) told after journals
  headed_gave number [] [] told after count within ends left = record { new = told; is = is_nil number told; grew = journals_stayed told after left }
  headed_gave number [] (marks ∷ journals) told after count within ends left = absurd (omega arith)
  headed_gave number (line ∷ lines) [] told after count within ends left = absurd (omega arith)
  headed_gave number (line ∷ lines) (marks ∷ journals) told after count within ends left =
      let here = headed word stamps number marks in
      let later = all_lines (numbered (headed word stamps) (number + 1) journals) in
      let text : concat (here ++ later) ++ after ≡ concat here ++ (concat later ++ after) =
      ap (λ (bytes : List ℕ). bytes ++ after) (concat-append here later) ∙ append_assoc (concat here) (concat later) after in
      let a = journal_gave number marks told (concat later ++ after) (All-head (All (IsPlaceWithin stamps)) marks journals within)
      (behind_ends stamps word heads (number + 1) journals after ends) (other_left text left) in
      let b = headed_gave (number + 1) lines journals a.new after (omega arith) (All-tail (All (IsPlaceWithin stamps)) marks journals within) ends a.grew.left in
      record {
        new = b.new;
        is = is_cons number line lines told ∙ step_gives (headed_step word stamps number told) (all (number + 1) lines) a.new a.is ∙ b.is;
        grew = journals_more told a.new b.new (concat later ++ after) after (marks ∷ []) journals a.grew b.grew;
      }

pub journals_gave : (stamps : Stamps) (number : ℕ) (lines : List ContextLine) (journals : List (List Mark)) (told : ToldView) (after : List ℕ) → length journals ≡ length lines
    → All (All (IsPlaceWithin stamps)) journals → EndsMarks stamps after
    → IsLeft told.lines (concat (all_lines (numbered (headed (codes "journal ") stamps) number journals)) ++ after)
    → GaveJournals (with_journals stamps number lines told) told after journals
unfolding with_journal
journals_gave stamps = headed_gave (codes "journal ") stamps (journal_heads stamps) (with_journals stamps) (λ n told. refl) (λ n line lines told. refl)

-- ---- the whole result

pub numbered_all : {A : Type 0} (line : ℕ → A → List ℕ) (is : (n : ℕ) (x : A) → IsLine (line n x)) (n : ℕ) (xs : List A) → All IsLine (numbered line n xs)
numbered_all line is n [] = All-nil IsLine
numbered_all line is n (x ∷ xs) = All-cons IsLine (line n x) (numbered line (n + 1) xs) (is n x) (numbered_all line is (n + 1) xs)

pub setup_gave : (version : ℕ) (keys : List KeyReply) (replies : List ContextReply) (told : ToldView) (after : List ℕ)
    → IsLeft told.lines ((version_line version ++ (concat (numbered key_line 0 keys) ++ concat (numbered context_line 0 replies))) ++ after)
    → Gave (with_setup version keys replies told) told after [] []
unfolding with_setup
setup_gave version keys replies told after left =
    let v = version_line version in
    let ks = numbered key_line 0 keys in
    let cs = numbered context_line 0 replies in
    let text : (v ++ (concat ks ++ concat cs)) ++ after ≡ v ++ (concat ks ++ (concat cs ++ after)) =
    append_assoc v (concat ks ++ concat cs) after ∙ ap (λ (bytes : List ℕ). v ++ bytes) (append_assoc (concat ks) (concat cs) after) in
    gave_more (with_line v told) _ told (concat ks ++ (concat cs ++ after)) after [] [] [] []
    (line_gave v told (concat ks ++ (concat cs ++ after)) (numbered_line (codes "hpkebatch ") version refl) (other_left text left))
    (λ t1 l1. gave_more (with_lines ks t1) (with_lines cs) t1 (concat cs ++ after) after [] [] [] []
    (lines_gave ks t1 (concat cs ++ after) (numbered_all key_line key_line_is 0 keys) l1)
    (λ t2 l2. lines_gave cs t2 after (numbered_all context_line context_line_is 0 replies) l2))

pub end_gave : (told : ToldView) → IsLeft told.lines (codes "end\n") → Gave (with_end told) told [] [] []
unfolding with_end
end_gave told left =
    let a = line_gave (codes "end\n") told [] end_line_is left in
    record {
      new = a.new;
      is = step_gives (with_line (codes "end\n") told) _ a.new a.is ∙ step_gives (ended a.new.lines) _ a.new.lines.number (end_given a.new.lines a.grew.left);
      grew = a.grew;
    }

pub told_back : (plan : Plan) (keys : List KeyReply) (replies : List ContextReply) (contexts : List (Option ContextView)) (lines : List (List ℕ)) (guesses : List (List Batch))
    (journals : List (List Mark)) → AreComplete plan contexts lines guesses journals → All IsLine lines → All (All IsGuessWithin) guesses
    → All (All (IsMarkWithin (has_stamps plan.version))) journals → IsReadBack plan keys replies contexts lines guesses journals
unfolding told_by
told_back plan keys replies contexts lines guesses journals complete all within marks =
    let stamps = stamps_for (has_stamps plan.version) in
    let setup = version_line plan.version ++ (concat (numbered key_line 0 keys) ++ concat (numbered context_line 0 replies)) in
    let lanes = told_lanes contexts plan.lanes lines guesses in
    let lane_text = concat (all_lines (numbered lane_lines 0 lanes)) in
    let journal_text = concat (all_lines (numbered (journal_lines (are_printed stamps)) 0 journals)) in
    let text = told_text plan keys replies contexts lines guesses journals in
    let parts : text ≡ setup ++ (lane_text ++ (journal_text ++ codes "end\n")) =
    text_parts plan.version keys replies lanes journals
    ∙ ap (λ (printed : Bool). setup ++ (lane_text ++ (concat (all_lines (numbered (journal_lines printed) 0 journals)) ++ codes "end\n")))
    (sym (version_stamps plan.version)) in
    let start = nothing_yet text in
    let a = setup_gave plan.version keys replies start (lane_text ++ (journal_text ++ codes "end\n")) (ap lines_of parts) in
    let b = lanes_gave contexts 0 plan.lanes lines guesses a.new (journal_text ++ codes "end\n") (no_guesses a.new.guesses a.grew.guesses)
    complete.count complete.kept all within a.grew.left in
    let c = journals_gave stamps 0 plan.contexts journals b.new (codes "end\n") complete.size marks (end_ends stamps) b.grew.left in
    let d = end_gave c.new c.grew.left in
    record {
      told = d.new;
      is =
          step_gives (with_setup plan.version keys replies start) _ a.new a.is
          ∙ step_gives (with_lanes contexts 0 plan.lanes a.new) _ b.new b.is
          ∙ step_gives (with_journals stamps 0 plan.contexts b.new) _ c.new c.is
          ∙ d.is;
      lines_are = d.grew.replies ∙ append-nil (lines_told c.new) ∙ c.grew.replies ∙ b.grew.replies ∙ ap (λ (ls : List (List ℕ)). ls ++ lines) a.grew.replies;
      guesses_are = ap (map batches) d.grew.lanes ∙ c.grew.lanes ∙ b.grew.lanes ∙ ap (λ (ls : List (List GuessLine)). map batches ls ++ guesses) a.grew.lanes;
      journals_are = d.grew.journals ∙ c.grew.journals ∙ ap (λ (js : List (List Mark)). js ++ journals) (b.grew.journals ∙ a.grew.journals);
    }
