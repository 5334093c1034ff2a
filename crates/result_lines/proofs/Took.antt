-- What was read step by step is the text of what it tells.
use Rattle.std.proofs.Common.{◌≡◌, ℕ, zero, suc, ◌+◌, ◌≤◌, Bool, true, false, List, [], ◌∷◌, ◌++◌, length, map, take, drop, codes, decimal, Option, Some, None, Result, Ok, Err, refl, sym, ap, ◌∙◌, subst, append_assoc, append-nil, length-append, arith}
use Rattle.std.specs.Prelude.{sum_by}
use Rattle.std.specs.List.{concat}
use Rattle.std.proofs.lemmas.List.{map-append, take_at, drop_at, length-drop, take-append-le, drop-append-le}
use Rattle.std.proofs.lemmas.List.Sums.{sum_by-cons}
use Rattle.call_places.specs.declared.entries.Mark.{Mark}
use Rattle.hpke_context.specs.Contexts.{ContextView}
use Rattle.field_text.specs.declared.reasons.Reason.{Reason}
use Rattle.batch_plans.specs.Limits.{items_of}
use Rattle.batch_plans.specs.Room.{served_batches, served_or}
use Rattle.batch_plans.specs.declared.plan.Plan.{Plan}
use Rattle.batch_plans.specs.declared.plan.ContextLine.{ContextLine}
use Rattle.batch_plans.specs.declared.plan.CallLine.{CallLine}
use Rattle.batch_plans.specs.declared.plan.CallLine.TheVariants as calls
use Rattle.batch_plans.specs.declared.replies.Batch.{Batch}
use Rattle.batch_plans.specs.declared.replies.KeyReply.{KeyReply}
use Rattle.batch_plans.specs.declared.replies.ContextReply.{ContextReply}
use Rattle.batch_plans.specs.declared.replies.CallRefusal.{CallRefusal}
use Rattle.batch_plans.specs.Lines.{key_line, context_line}
use Rattle.batch_plans.specs.ReplyText.{all_lines, numbered, lane_lines, mark_line, journal_lines, version_line, reply_lines, has_stamps}
use Rattle.batch_plans.specs.AnswersText.{guess_line}
use Rattle.context_books.specs.Standing.{call_refusal}
use Rattle.result_lines.specs.declared.told.GuessLine.{GuessLine}
use Rattle.result_lines.specs.declared.stamps.Stamps.{Stamps}
use Rattle.result_lines.specs.Forms.{guess_of_line, mark_of_line, are_printed, stamps_for}
use Rattle.result_lines.specs.Places.{◌>>=◌, LinesView, MarksFound, next_line, line_due, guess_from, mark_before, marks_from, marks_of, ended, with_feed}
use Rattle.result_lines.specs.Places as places
use Rattle.result_lines.specs.Told.{ReplyView, ToldView, nothing_yet, with_line, with_lines, with_reply, with_replies, with_guess, with_served, with_call_unless, with_call, with_calls, with_lane, with_lanes, journal_ended, with_journal, with_journals, with_setup, with_end, told_by}
use Rattle.result_lines.specs.Printed.{call_replies, call_guesses, lane_replies, lane_guesses, told_calls, told_lanes, told_text, lines_told, guesses_told, IsTextOf}
use Rattle.result_lines.proofs.FirstLines.{step_ok, ok_is, IsLeft, line_read, due_read, end_read}
use Rattle.result_lines.proofs.Growing.{concat-append, batches, Grew, moved, stayed, Took, took_more, GrewLanes, lanes_stayed, lanes_more, lane_grew, GrewJournals, journals_stayed, journals_more, journal_grew}
use Rattle.result_lines.proofs.NumberLines.{guess_read, mark_read}

-- ---- lines as they are printed

pub line_took : (due : List ℕ) (told new : ToldView) (text : List ℕ) → IsLeft told.lines text → with_line due told ≡ Ok new → Took told new text due [] []
unfolding with_line
line_took due told new text left e =
    let found = step_ok (line_due due told.lines) _ new e in
    let lines : LinesView = found.0 in
    let read = due_read due told.lines lines text left found.1 in
    let same : record told { lines = lines } ≡ new = ok_is (record told { lines = lines }) new found.2 in
    record {
      after = read.0;
      parts = read.1;
      grew = subst (λ (n : ToldView). Grew told n read.0 [] []) same (moved told lines read.0 read.2);
    }

pub lines_took : (due : List (List ℕ)) (told new : ToldView) (text : List ℕ) → IsLeft told.lines text → with_lines due told ≡ Ok new → Took told new text (concat due) [] []
lines_took [] told new text left e =
    let same : told ≡ new = ok_is told new e in
    record { after = text; parts = refl; grew = subst (λ (n : ToldView). Grew told n text [] []) same (stayed told text left) }
lines_took (line ∷ more) told new text left e =
    let found = step_ok (with_line line told) (with_lines more) new e in
    let mid : ToldView = found.0 in
    let a = line_took line told mid text left found.1 in
    took_more told mid new text line (concat more) [] [] [] [] a (lines_took more mid new a.after a.grew.left found.2)

-- ---- calls

reply_took : (told new : ToldView) (text : List ℕ) → IsLeft told.lines text → with_reply told ≡ Ok new
    → (line : List ℕ) × Took told new text (with_feed line) (with_feed line ∷ []) []
unfolding with_reply
reply_took told new text left e =
    let found = step_ok (next_line told.lines) _ new e in
    let line : List ℕ = found.0.0 in
    let lines : LinesView = found.0.1 in
    let taken = line_read told.lines text line lines left found.1 in
    let reply : ReplyView = record { number = told.lines.number; line = line } in
    let given : ToldView = record told { lines = lines; replies = told.replies ++ reply ∷ [] } in
    let same : given ≡ new = ok_is given new found.2 in (
      line,
      record {
        after = taken.after;
        parts = taken.parts;
        grew = subst (λ (n : ToldView). Grew told n taken.after (with_feed line ∷ []) []) same record {
          left = taken.left;
          replies = map-append (λ (r : ReplyView). with_feed r.line) told.replies (reply ∷ []);
          guesses = sym (append-nil (batches told.guesses));
          lanes = refl;
          journals = refl;
        };
      },
    )

replies_took : (n : ℕ) (told new : ToldView) (text : List ℕ) → IsLeft told.lines text → with_replies n told ≡ Ok new
    → (lines : List (List ℕ)) × (length lines ≡ n) × Took told new text (concat lines) lines []
replies_took zero told new text left e =
    let same : told ≡ new = ok_is told new e in
    ([], refl, record { after = text; parts = refl; grew = subst (λ (m : ToldView). Grew told m text [] []) same (stayed told text left) })
replies_took (suc n) told new text left e =
    let found = step_ok (with_reply told) (with_replies n) new e in
    let mid : ToldView = found.0 in
    let a = reply_took told mid text left found.1 in
    let b = replies_took n mid new a.1.after a.1.grew.left found.2 in
    let line : List ℕ = a.0 in
    let lines : List (List ℕ) = b.0 in
    (with_feed line ∷ lines, ap (λ (k : ℕ). suc k) b.1, took_more told mid new text (with_feed line) (concat lines) (with_feed line ∷ []) lines [] [] a.1 b.2)

read_guess : (number : ℕ) (more : LinesView) (r : Result Batch Reason) (g : Batch) (lines : LinesView)
    → places.with_lines number more r ≡ Ok (g, lines) → (r ≡ Ok g) × (more ≡ lines)
read_guess number more (Err reason) g lines e = absurd cc
read_guess number more (Ok told) g lines e =
    let same : (told, more) ≡ (g, lines) = ok_is (told, more) (g, lines) e in
    (ap (λ (p : Batch × LinesView). Ok p.0) same, ap (λ (p : Batch × LinesView). p.1) same)

guess_took : (told new : ToldView) (text : List ℕ) → IsLeft told.lines text → with_guess told ≡ Ok new
    → (g : Batch) × Took told new text (guess_line g) [] (g ∷ [])
unfolding with_guess guess_from
guess_took told new text left e =
    let found = step_ok (guess_from told.lines) _ new e in
    let g : Batch = found.0.0 in
    let lines : LinesView = found.0.1 in
    let inner = step_ok (next_line told.lines) _ (g, lines) found.1 in
    let line : List ℕ = inner.0.0 in
    let more : LinesView = inner.0.1 in
    let taken = line_read told.lines text line more left inner.1 in
    let read = read_guess told.lines.number more (guess_of_line line) g lines inner.2 in
    let guess : GuessLine = record { number = told.lines.number; guess = g } in
    let given : ToldView = record told { lines = lines; guesses = told.guesses ++ guess ∷ [] } in
    let same : given ≡ new = ok_is given new found.2 in (
      g,
      record {
        after = taken.after;
        parts = taken.parts ∙ ap (λ (bytes : List ℕ). bytes ++ taken.after) (guess_read line g read.0);
        grew = subst (λ (n : ToldView). Grew told n taken.after [] (g ∷ [])) same record {
          left = ap (λ (l : LinesView). l.parts) (sym read.1) ∙ taken.left;
          replies = sym (append-nil (lines_told told));
          guesses = map-append (λ (x : GuessLine). x.guess) told.guesses (guess ∷ []);
          lanes = refl;
          journals = refl;
        };
      },
    )

-- so many replies and guesses, in the lines that these make up
record TookCalls (told new : ToldView) (text : List ℕ) (n m : ℕ) (print : List (List ℕ) → List Batch → List (List ℕ)) : Type 0 where
  lines : List (List ℕ)
  guesses : List Batch
  count : length lines ≡ n
  kept : length guesses ≡ m
  took : Took told new text (concat (print lines guesses)) lines guesses

-- replies, and behind them guesses
abbrev pub one_call : List (List ℕ) → List Batch → List (List ℕ)
one_call lines guesses = lines ++ map guess_line guesses

one_took : (told new : ToldView) (text : List ℕ) → IsLeft told.lines text → with_reply told ≡ Ok new → TookCalls told new text 1 0 one_call
one_took told new text left e =
    let a = reply_took told new text left e in
    let line : List ℕ = a.0 in
    record {
      lines = with_feed line ∷ [];
      guesses = [];
      count = refl;
      kept = refl;
      took = subst (λ (piece : List ℕ). Took told new text piece (with_feed line ∷ []) []) (sym (append-nil (with_feed line))) a.1;
    }

served_took : (call : CallLine) (told new : ToldView) (text : List ℕ) → IsLeft told.lines text → with_served call told ≡ Ok new
    → TookCalls told new text (items_of call) (served_batches call) one_call
served_took (calls.Seal context item) told new text left e = one_took told new text left e
served_took (calls.Unseal context item) told new text left e = one_took told new text left e
served_took (calls.UnsealAll context first count) told new text left e =
    let found = step_ok (with_replies count told) with_guess new e in
    let mid : ToldView = found.0 in
    let a = replies_took count told mid text left found.1 in
    let b = guess_took mid new a.2.after a.2.grew.left found.2 in
    let lines : List (List ℕ) = a.0 in
    let g : Batch = b.0 in
    let whole : Took told new text (concat lines ++ guess_line g) (lines ++ []) (g ∷ []) =
    took_more told mid new text (concat lines) (guess_line g) lines [] [] (g ∷ []) a.2 b.1 in
    let piece : concat lines ++ guess_line g ≡ concat (one_call lines (g ∷ [])) =
    ap (λ (bytes : List ℕ). concat lines ++ bytes) (sym (append-nil (guess_line g))) ∙ sym (concat-append lines (guess_line g ∷ [])) in
    record {
      lines = lines;
      guesses = g ∷ [];
      count = a.1;
      kept = refl;
      took = subst (λ (p : List ℕ). Took told new text p lines (g ∷ [])) piece
          (subst (λ (rs : List (List ℕ)). Took told new text (concat lines ++ guess_line g) rs (g ∷ [])) (append-nil lines) whole);
    }
served_took (calls.Export context exporter size) told new text left e = one_took told new text left e
served_took (calls.Add name) told new text left e = one_took told new text left e
served_took (calls.Retire name) told new text left e = one_took told new text left e

call_took : (refusal : Option CallRefusal) (call : CallLine) (told new : ToldView) (text : List ℕ) → IsLeft told.lines text → with_call_unless refusal call told ≡ Ok new
    → TookCalls told new text (served_or refusal (items_of call) 1) (served_or refusal (served_batches call) 0) one_call
call_took None call told new text left e = served_took call told new text left e
call_took (Some refusal) call told new text left e = one_took told new text left e

-- the lines of one call more
pub calls_split : (contexts : List (Option ContextView)) (call : CallLine) (more : List CallLine) (r1 r2 : List (List ℕ)) (g1 g2 : List Batch)
    → length r1 ≡ call_replies contexts call → length g1 ≡ call_guesses contexts call
    → told_calls contexts (call ∷ more) (r1 ++ r2) (g1 ++ g2) ≡ r1 ++ (map guess_line g1 ++ told_calls contexts more r2 g2)
calls_split contexts call more r1 r2 g1 g2 count kept =
    let n = call_replies contexts call in
    let m = call_guesses contexts call in
    (λ i. take_at r1 r2 n count i
    ++ (map guess_line (take_at g1 g2 m kept i) ++ told_calls contexts more (drop_at r1 r2 n count i) (drop_at g1 g2 m kept i)))

calls_took : (contexts : List (Option ContextView)) (lines : List CallLine) (told new : ToldView) (text : List ℕ) → IsLeft told.lines text
    → with_calls contexts lines told ≡ Ok new → TookCalls told new text (lane_replies contexts lines) (lane_guesses contexts lines) (told_calls contexts lines)
calls_took contexts [] told new text left e =
    let same : told ≡ new = ok_is told new e in
    record {
      lines = [];
      guesses = [];
      count = refl;
      kept = refl;
      took = record { after = text; parts = refl; grew = subst (λ (n : ToldView). Grew told n text [] []) same (stayed told text left) };
    }
calls_took contexts (call ∷ more) told new text left e =
    let found = step_ok (with_call contexts call told) (with_calls contexts more) new e in
    let mid : ToldView = found.0 in
    let a = call_took (call_refusal contexts call) call told mid text left found.1 in
    let b = calls_took contexts more mid new a.took.after a.took.grew.left found.2 in
    let piece : concat (one_call a.lines a.guesses) ++ concat (told_calls contexts more b.lines b.guesses)
    ≡ concat (told_calls contexts (call ∷ more) (a.lines ++ b.lines) (a.guesses ++ b.guesses)) =
    sym (concat-append (one_call a.lines a.guesses) (told_calls contexts more b.lines b.guesses))
    ∙ ap concat (append_assoc a.lines (map guess_line a.guesses) (told_calls contexts more b.lines b.guesses)
    ∙ sym (calls_split contexts call more a.lines b.lines a.guesses b.guesses a.count a.kept)) in
    record {
      lines = a.lines ++ b.lines;
      guesses = a.guesses ++ b.guesses;
      count = length-append a.lines b.lines ∙ (λ i. a.count i + b.count i) ∙ sym (sum_by-cons (call_replies contexts) call more);
      kept = length-append a.guesses b.guesses ∙ (λ i. a.kept i + b.kept i) ∙ sym (sum_by-cons (call_guesses contexts) call more);
      took = subst (λ (p : List ℕ). Took told new text p (a.lines ++ b.lines) (a.guesses ++ b.guesses)) piece
          (took_more told mid new text (concat (one_call a.lines a.guesses)) (concat (told_calls contexts more b.lines b.guesses)) a.lines b.lines a.guesses b.guesses a.took b.took);
    }

-- ---- lanes

record TookLane (told new : ToldView) (text : List ℕ) (contexts : List (Option ContextView)) (number : ℕ) (calls : List CallLine) : Type 0 where
  lines : List (List ℕ)
  guesses : List Batch
  count : length lines ≡ lane_replies contexts calls
  kept : length guesses ≡ lane_guesses contexts calls
  after : List ℕ
  parts : text ≡ concat (lane_lines number (told_calls contexts calls lines guesses)) ++ after
  grew : GrewLanes told new after lines (guesses ∷ [])

lane_took : (contexts : List (Option ContextView)) (number : ℕ) (calls : List CallLine) (told new : ToldView) (text : List ℕ) → IsLeft told.lines text → told.guesses ≡ []
    → with_lane contexts number calls told ≡ Ok new → TookLane told new text contexts number calls
unfolding with_lane
lane_took contexts number calls told new text left none e =
    let head = (codes "lane " ++ decimal number) ++ codes "\n" in
    let f1 = step_ok (with_line head told) _ new e in
    let t1 : ToldView = f1.0 in
    let a = line_took head told t1 text left f1.1 in
    let f2 = step_ok (with_calls contexts calls t1) _ new f1.2 in
    let t2 : ToldView = f2.0 in
    let b = calls_took contexts calls t1 t2 a.after a.grew.left f2.1 in
    let whole = took_more told t1 t2 text head (concat (told_calls contexts calls b.lines b.guesses)) [] b.lines [] b.guesses a b.took in
    let ended : ToldView = record t2 { lanes = t2.lanes ++ t2.guesses ∷ []; guesses = [] } in
    let same : ended ≡ new = ok_is ended new f2.2 in
    record {
      lines = b.lines;
      guesses = b.guesses;
      count = b.count;
      kept = b.kept;
      after = whole.after;
      parts = whole.parts;
      grew = subst (λ (n : ToldView). GrewLanes told n whole.after b.lines (b.guesses ∷ [])) same (lane_grew told t2 whole.after b.lines b.guesses none whole.grew);
    }

pub record TookLanes (told new : ToldView) (text : List ℕ) (contexts : List (Option ContextView)) (number : ℕ) (lanes : List (List CallLine)) : Type 0 where
  pub lines : List (List ℕ)
  pub guesses : List (List Batch)
  pub count : length lines ≡ sum_by (lane_replies contexts) lanes
  pub kept : map (length {A = Batch}) guesses ≡ map (lane_guesses contexts) lanes
  pub after : List ℕ
  pub parts : text ≡ concat (all_lines (numbered lane_lines number (told_lanes contexts lanes lines guesses))) ++ after
  pub grew : GrewLanes told new after lines guesses

-- reply lines behind those of the calls are not looked at
pub calls_only : (contexts : List (Option ContextView)) (calls : List CallLine) (lines more : List (List ℕ)) (guesses : List Batch) → length lines ≡ lane_replies contexts calls
    → told_calls contexts calls (lines ++ more) guesses ≡ told_calls contexts calls lines guesses
calls_only contexts [] lines more guesses count = refl
calls_only contexts (call ∷ calls) lines more guesses count =
    let n = call_replies contexts call in
    let m = call_guesses contexts call in
    let all : length lines ≡ n + lane_replies contexts calls = count ∙ sum_by-cons (call_replies contexts) call calls in
    let short : n ≤ length lines = omega arith in
    let rest : length (drop n lines) ≡ lane_replies contexts calls = omega (arith, length-drop n lines) in
    (λ i. take-append-le n lines more short i
    ++ (map guess_line (take m guesses) ++ told_calls contexts calls (drop-append-le n lines more short i) (drop m guesses)))
    ∙ ap (λ (ls : List (List ℕ)). take n lines ++ (map guess_line (take m guesses) ++ ls)) (calls_only contexts calls (drop n lines) more (drop m guesses) rest)

-- the lines of one lane more
pub lanes_split : (contexts : List (Option ContextView)) (calls : List CallLine) (lanes : List (List CallLine)) (r1 r2 : List (List ℕ)) (own : List Batch) (guesses : List (List Batch))
    → length r1 ≡ lane_replies contexts calls
    → told_lanes contexts (calls ∷ lanes) (r1 ++ r2) (own ∷ guesses) ≡ told_calls contexts calls r1 own ∷ told_lanes contexts lanes r2 guesses
lanes_split contexts calls lanes r1 r2 own guesses count =
    (λ i. calls_only contexts calls r1 r2 own count i ∷ told_lanes contexts lanes (drop_at r1 r2 (lane_replies contexts calls) count i) guesses)

pub lanes_took : (contexts : List (Option ContextView)) (number : ℕ) (lanes : List (List CallLine)) (told new : ToldView) (text : List ℕ) → IsLeft told.lines text → told.guesses ≡ []
    → with_lanes contexts number lanes told ≡ Ok new → TookLanes told new text contexts number lanes
lanes_took contexts number [] told new text left none e =
    let same : told ≡ new = ok_is told new e in
    record {
      lines = [];
      guesses = [];
      count = refl;
      kept = refl;
      after = text;
      parts = refl;
      grew = subst (λ (n : ToldView). GrewLanes told n text [] []) same (lanes_stayed told text left none);
    }
lanes_took contexts number (calls ∷ lanes) told new text left none e =
    let found = step_ok (with_lane contexts number calls told) (with_lanes contexts (number + 1) lanes) new e in
    let mid : ToldView = found.0 in
    let a = lane_took contexts number calls told mid text left none found.1 in
    let b = lanes_took contexts (number + 1) lanes mid new a.after a.grew.left a.grew.none found.2 in
    let here = lane_lines number (told_calls contexts calls a.lines a.guesses) in
    let rest = all_lines (numbered lane_lines (number + 1) (told_lanes contexts lanes b.lines b.guesses)) in
    let piece : concat (all_lines (numbered lane_lines number (told_lanes contexts (calls ∷ lanes) (a.lines ++ b.lines) (a.guesses ∷ b.guesses)))) ≡ concat here ++ concat rest =
    ap (λ (parts : List (List (List ℕ))). concat (all_lines (numbered lane_lines number parts))) (lanes_split contexts calls lanes a.lines b.lines a.guesses b.guesses a.count)
    ∙ concat-append here rest in
    record {
      lines = a.lines ++ b.lines;
      guesses = a.guesses ∷ b.guesses;
      count = length-append a.lines b.lines ∙ (λ i. a.count i + b.count i) ∙ sym (sum_by-cons (lane_replies contexts) calls lanes);
      kept = (λ i. a.kept i ∷ b.kept i);
      after = b.after;
      parts =
          a.parts ∙ ap (λ (bytes : List ℕ). concat here ++ bytes) b.parts
          ∙ sym (append_assoc (concat here) (concat rest) b.after)
          ∙ ap (λ (bytes : List ℕ). bytes ++ b.after) (sym piece);
      grew = lanes_more told mid new a.after b.after a.lines b.lines (a.guesses ∷ []) b.guesses a.grew b.grew;
    }

-- ---- journals

pub record TookMarks (stamps : Stamps) (text : List ℕ) (found : MarksFound) : Type 0 where
  pub after : List ℕ
  pub parts : text ≡ concat (map (mark_line (are_printed stamps)) found.marks) ++ after
  pub left : IsLeft found.lines after

pub marks_took : (stamps : Stamps) (n : ℕ) (parts : List (List ℕ)) (text : List ℕ) → IsLeft (record { number = n; parts = parts }) text → TookMarks stamps text (marks_from stamps n parts)
marks_took stamps n [] text left = record { after = text; parts = refl; left = left }
marks_took stamps n (part ∷ []) text left = record { after = text; parts = refl; left = left }
marks_took stamps n (line ∷ next ∷ more) text left =
    step (mark_of_line stamps line) refl (λ after here. marks_took stamps (n + 1) (next ∷ more) after here)
  where
    step : (r : Result Mark Reason) → mark_of_line stamps line ≡ r
        → ((after : List ℕ) → IsLeft (record { number = n + 1; parts = next ∷ more }) after → TookMarks stamps after (marks_from stamps (n + 1) (next ∷ more)))
        → TookMarks stamps text (mark_before r (record { number = n; parts = line ∷ next ∷ more }) (marks_from stamps (n + 1) (next ∷ more)))
    step (Err reason) is later = record { after = text; parts = refl; left = left }
    step (Ok m) is later =
        let taken = line_read (record { number = n; parts = line ∷ next ∷ more }) text line (record { number = n + 1; parts = next ∷ more }) left refl in
        let rest = later taken.after taken.left in
        let others = concat (map (mark_line (are_printed stamps)) (marks_from stamps (n + 1) (next ∷ more)).marks) in
        record {
          after = rest.after;
          parts =
              taken.parts ∙ (λ i. mark_read stamps line m is i ++ rest.parts i)
              ∙ sym (append_assoc (mark_line (are_printed stamps) m) others rest.after);
          left = rest.left;
        }

-- the lines of a journal, the first of which is this word and a number
abbrev pub headed : List ℕ → Stamps → ℕ → List Mark → List (List ℕ)
headed word stamps n marks = ((word ++ decimal n) ++ codes "\n") ∷ map (mark_line (are_printed stamps)) marks

pub record TookJournals (word : List ℕ) (told new : ToldView) (text : List ℕ) (stamps : Stamps) (number count : ℕ) : Type 0 where
  pub journals : List (List Mark)
  pub size : length journals ≡ count
  pub after : List ℕ
  pub parts : text ≡ concat (all_lines (numbered (headed word stamps) number journals)) ++ after
  pub grew : GrewJournals told new after journals

-- one journal
abbrev pub headed_step : List ℕ → Stamps → ℕ → ToldView → Result ToldView ℕ
headed_step word stamps n told = with_line ((word ++ decimal n) ++ codes "\n") told >>= (λ (t : ToldView). Ok (journal_ended t (marks_of stamps t.lines)))

-- one for each line
module _ (word : List ℕ) (stamps : Stamps) (all : ℕ → List ContextLine → ToldView → Result ToldView ℕ) (is_nil : (n : ℕ) (told : ToldView) → all n [] told ≡ Ok told)
    (is_cons : (n : ℕ) (line : ContextLine) (lines : List ContextLine) (told : ToldView) → all n (line ∷ lines) told ≡ (headed_step word stamps n told >>= all (n + 1) lines)) where
  pub headed_took : (number : ℕ) (lines : List ContextLine) (told new : ToldView) (text : List ℕ) → IsLeft told.lines text
      → all number lines told ≡ Ok new → TookJournals word told new text stamps number (length lines)
  headed_took number [] told new text left e =
      let same : told ≡ new = ok_is told new (sym (is_nil number told) ∙ e) in
      record { journals = []; size = refl; after = text; parts = refl; grew = subst (λ (n : ToldView). GrewJournals told n text []) same (journals_stayed told text left) }
  headed_took number (line ∷ lines) told new text left e =
      let head = (word ++ decimal number) ++ codes "\n" in
      let found = step_ok (headed_step word stamps number told) (all (number + 1) lines) new (sym (is_cons number line lines told) ∙ e) in
      let mid : ToldView = found.0 in
      let f1 = step_ok (with_line head told) _ mid found.1 in
      let t1 : ToldView = f1.0 in
      let a = line_took head told t1 text left f1.1 in
      let marks = marks_took stamps t1.lines.number t1.lines.parts a.after a.grew.left in
      let own = (marks_of stamps t1.lines).marks in
      let ended : ToldView = journal_ended t1 (marks_of stamps t1.lines) in
      let same : ended ≡ mid = ok_is ended mid f1.2 in
      let first : GrewJournals told mid marks.after (own ∷ []) =
      subst (λ (n : ToldView). GrewJournals told n marks.after (own ∷ [])) same
      (journal_grew told t1 a.after marks.after (marks_of stamps t1.lines) a.grew marks.left) in
      let b = headed_took (number + 1) lines mid new marks.after first.left found.2 in
      let here = concat (map (mark_line (are_printed stamps)) own) in
      let rest = all_lines (numbered (headed word stamps) (number + 1) b.journals) in
      record {
        journals = own ∷ b.journals;
        size = ap (λ (n : ℕ). suc n) b.size;
        after = b.after;
        parts =
            a.parts ∙ ap (λ (bytes : List ℕ). head ++ bytes) (marks.parts ∙ ap (λ (bytes : List ℕ). here ++ bytes) b.parts)
            ∙ sym (append_assoc head here (concat rest ++ b.after))
            ∙ sym (append_assoc (head ++ here) (concat rest) b.after)
            ∙ ap (λ (bytes : List ℕ). bytes ++ b.after) (sym (concat-append (headed word stamps number own) rest));
        grew = journals_more told mid new marks.after b.after (own ∷ []) b.journals first b.grew;
      }

pub journals_took : (stamps : Stamps) (number : ℕ) (lines : List ContextLine) (told new : ToldView) (text : List ℕ) → IsLeft told.lines text
    → with_journals stamps number lines told ≡ Ok new → TookJournals (codes "journal ") told new text stamps number (length lines)
unfolding with_journal
journals_took stamps = headed_took (codes "journal ") stamps (with_journals stamps) (λ n told. refl) (λ n line lines told. refl)

-- ---- the whole result

pub setup_took : (version : ℕ) (keys : List KeyReply) (replies : List ContextReply) (told new : ToldView) (text : List ℕ) → IsLeft told.lines text
    → with_setup version keys replies told ≡ Ok new → Took told new text (version_line version ++ (concat (numbered key_line 0 keys) ++ concat (numbered context_line 0 replies))) [] []
unfolding with_setup
setup_took version keys replies told new text left e =
    let f1 = step_ok (with_line (version_line version) told) _ new e in
    let t1 : ToldView = f1.0 in
    let a = line_took (version_line version) told t1 text left f1.1 in
    let f2 = step_ok (with_lines (numbered key_line 0 keys) t1) _ new f1.2 in
    let t2 : ToldView = f2.0 in
    let b = lines_took (numbered key_line 0 keys) t1 t2 a.after a.grew.left f2.1 in
    let c = lines_took (numbered context_line 0 replies) t2 new b.after b.grew.left f2.2 in
    took_more told t1 new text (version_line version) (concat (numbered key_line 0 keys) ++ concat (numbered context_line 0 replies)) [] [] [] [] a
    (took_more t1 t2 new a.after (concat (numbered key_line 0 keys)) (concat (numbered context_line 0 replies)) [] [] [] [] b c)

pub end_took : (told new : ToldView) (text : List ℕ) → IsLeft told.lines text → with_end told ≡ Ok new → (text ≡ codes "end\n") × Grew told new [] [] []
unfolding with_end
end_took told new text left e =
    let f1 = step_ok (with_line (codes "end\n") told) _ new e in
    let t1 : ToldView = f1.0 in
    let a = line_took (codes "end\n") told t1 text left f1.1 in
    let f2 = step_ok (ended t1.lines) _ new f1.2 in
    let none : a.after ≡ [] = end_read t1.lines f2.0 a.after a.grew.left f2.1 in
    let same : t1 ≡ new = ok_is t1 new f2.2 in (
      a.parts ∙ ap (λ (bytes : List ℕ). codes "end\n" ++ bytes) none,
      subst (λ (n : ToldView). Grew told n [] [] []) same (subst (λ (bytes : List ℕ). Grew told t1 bytes [] []) none a.grew),
    )

-- the parts of a text of replies
pub text_parts : (version : ℕ) (keys : List KeyReply) (replies : List ContextReply) (lanes : List (List (List ℕ))) (journals : List (List Mark))
    → concat (reply_lines version keys replies lanes journals)
    ≡ (version_line version ++ (concat (numbered key_line 0 keys) ++ concat (numbered context_line 0 replies)))
    ++ (concat (all_lines (numbered lane_lines 0 lanes)) ++ (concat (all_lines (numbered (journal_lines (has_stamps version)) 0 journals)) ++ codes "end\n"))
unfolding reply_lines
text_parts version keys replies lanes journals =
    let v = version_line version in
    let ks = numbered key_line 0 keys in
    let cs = numbered context_line 0 replies in
    let ls = all_lines (numbered lane_lines 0 lanes) in
    let js = all_lines (numbered (journal_lines (has_stamps version)) 0 journals) in
    let e = codes "end\n" ∷ [] in
    concat-append (((v ∷ (ks ++ cs)) ++ ls) ++ js) e
    ∙ ap (λ (bytes : List ℕ). bytes ++ concat e) (concat-append ((v ∷ (ks ++ cs)) ++ ls) js
    ∙ ap (λ (bytes : List ℕ). bytes ++ concat js) (concat-append (v ∷ (ks ++ cs)) ls
    ∙ ap (λ (bytes : List ℕ). (v ++ bytes) ++ concat ls) (concat-append ks cs)))
    ∙ append_assoc ((v ++ (concat ks ++ concat cs)) ++ concat ls) (concat js) (concat e)
    ∙ append_assoc (v ++ (concat ks ++ concat cs)) (concat ls) (concat js ++ concat e)
    ∙ ap (λ (bytes : List ℕ). (v ++ (concat ks ++ concat cs)) ++ (concat ls ++ (concat js ++ bytes))) (append-nil (codes "end\n"))

-- the stamps that a version prints
pub version_stamps : (version : ℕ) → are_printed (stamps_for (has_stamps version)) ≡ has_stamps version
version_stamps version = elim (has_stamps version) as (λ (b : Bool). are_printed (stamps_for b) ≡ b) [ true ↦ refl | false ↦ refl ]

pub no_guesses : (guesses : List GuessLine) → batches guesses ≡ [] → guesses ≡ []
no_guesses [] none = refl
no_guesses (guess ∷ guesses) none = absurd cc

pub told_took : (plan : Plan) (keys : List KeyReply) (replies : List ContextReply) (contexts : List (Option ContextView)) (text : List ℕ) (told : ToldView)
    → told_by plan keys replies contexts text ≡ Ok told → IsTextOf plan keys replies contexts text told
unfolding told_by
told_took plan keys replies contexts text told e =
    let stamps = stamps_for (has_stamps plan.version) in
    let start = nothing_yet text in
    let f1 = step_ok (with_setup plan.version keys replies start) _ told e in
    let t1 : ToldView = f1.0 in
    let a = setup_took plan.version keys replies start t1 text refl f1.1 in
    let f2 = step_ok (with_lanes contexts 0 plan.lanes t1) _ told f1.2 in
    let t2 : ToldView = f2.0 in
    let b = lanes_took contexts 0 plan.lanes t1 t2 a.after a.grew.left (no_guesses t1.guesses a.grew.guesses) f2.1 in
    let f3 = step_ok (with_journals stamps 0 plan.contexts t2) _ told f2.2 in
    let t3 : ToldView = f3.0 in
    let c = journals_took stamps 0 plan.contexts t2 t3 b.after b.grew.left f3.1 in
    let d = end_took t3 told c.after c.grew.left f3.2 in
    let lines_are : lines_told told ≡ b.lines =
    d.1.replies ∙ append-nil (lines_told t3) ∙ c.grew.replies ∙ b.grew.replies ∙ ap (λ (ls : List (List ℕ)). ls ++ b.lines) a.grew.replies in
    let guesses_are : guesses_told told ≡ b.guesses =
    ap (map batches) d.1.lanes ∙ c.grew.lanes ∙ b.grew.lanes ∙ ap (λ (ls : List (List GuessLine)). map batches ls ++ b.guesses) a.grew.lanes in
    let journals_are : told.journals ≡ c.journals =
    d.1.journals ∙ c.grew.journals ∙ ap (λ (js : List (List Mark)). js ++ c.journals) (b.grew.journals ∙ a.grew.journals) in
    let lanes = told_lanes contexts plan.lanes b.lines b.guesses in
    record {
      is =
          a.parts
          ∙ ap (λ (bytes : List ℕ). (version_line plan.version ++ (concat (numbered key_line 0 keys) ++ concat (numbered context_line 0 replies))) ++ bytes)
          (b.parts ∙ ap (λ (bytes : List ℕ). concat (all_lines (numbered lane_lines 0 lanes)) ++ bytes)
          (c.parts
          ∙ ap (λ (bytes : List ℕ). concat (all_lines (numbered (journal_lines (are_printed stamps)) 0 c.journals)) ++ bytes) d.0
          ∙ ap (λ (printed : Bool). concat (all_lines (numbered (journal_lines printed) 0 c.journals)) ++ codes "end\n") (version_stamps plan.version)))
          ∙ sym (text_parts plan.version keys replies lanes c.journals)
          ∙ (λ i. told_text plan keys replies contexts (sym lines_are i) (sym guesses_are i) (sym journals_are i));
      complete = record {
        count = ap length lines_are ∙ b.count;
        kept = ap (map (length {A = Batch})) guesses_are ∙ b.kept;
        size = ap length journals_are ∙ c.size;
      };
    }
