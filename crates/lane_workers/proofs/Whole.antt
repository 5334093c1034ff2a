-- The run of all lanes, by their lists.
use Rattle.std.proofs.Common.{◌≡◌, ℕ, suc, ◌+◌, ◌<◌, ◌≤◌, List, [], ◌∷◌, length, map, Option, Some, None, sym, refl, ap, ◌∙◌, subst, arith, inl, inr}
use Rattle.std.specs.Prelude.{slice_get, slice_index_or}
use Rattle.std.proofs.lemmas.Bool.{cases_lt}
use Rattle.std.proofs.lemmas.List.{get_or_past, length-map}
use Rattle.std.proofs.lemmas.List.Elements.{All-nil}
use Rattle.call_places.specs.declared.entries.Entry.{Entry}
use Rattle.call_places.specs.Entries.{mark_of}
use Rattle.turn_lock.specs.Passes.{PassView}
use Rattle.hpke_context.specs.Answers.{At_limit}
use Rattle.hpke_context.specs.Contexts.{ContextView}
use Rattle.context_books.specs.Batches.{Ask, ToOpenAll, lane_of}
use Rattle.context_books.specs.Merging.{lane_places}
use Rattle.context_books.specs.Guesses.{guess_count}
use Rattle.context_books.proofs.Members.{in_contains}
use Rattle.batch_plans.specs.declared.plan.Plan.{Plan}
use Rattle.batch_plans.specs.declared.plan.CallLine.{CallLine}
use Rattle.batch_plans.specs.declared.replies.LaneAnswers.{LaneAnswers}
use Rattle.batch_plans.specs.Replies.{IsInRange}
use Rattle.batch_plans.specs.Within.{IsWithinLimits}
use Rattle.batch_plans.specs.ReplyText.{numbered, all_lines}
use Rattle.batch_plans.specs.AnswersText.{answered_lines, lanes_lines}
use Rattle.context_books.specs.Asks.{ask_of, batch_of}
use Rattle.context_books.specs.Runs.{lane_call_lines}
use Rattle.lane_workers.specs.Served.{Told, told_lines, LaneIsServed}
use Rattle.lane_workers.specs.Gathered.{no_answers, AllLanesServed, AllClosed, AreOfARun}
use Rattle.lane_workers.proofs.Gathered.{is_allowed, lines_are_due, run_of}

abbrev nothing_told : Told
nothing_told = record { replies = λ p. At_limit; guesses = []; misses = [] }

pub nobody : (plan : Plan) (contexts : List (Option ContextView)) (lane : ℕ) → length plan.lanes ≤ lane
    → LaneIsServed plan contexts lane [] no_answers
nobody plan contexts lane high =
    let batch = batch_of plan contexts in
    let count : length batch ≡ length plan.lanes =
    length-map plan.lanes (map (ask_of plan contexts)) in
    let none : lane_of batch lane ≡ [] = get_or_past batch lane [] (omega arith) in
    let calls : slice_index_or plan.lanes lane [] ≡ [] = get_or_past plan.lanes lane [] high in
    record {
      told = nothing_told;
      shows = λ c. record {
        places = sym (ap (lane_places c lane) none);
        answered = λ i e at. absurd (no_entry e at);
      };
      openings = record {
        count = sym (ap guess_count none);
        each = λ c call messages is. absurd (no_ask (ToOpenAll c messages)
            (sym (ap (λ (asks : List Ask). slice_get asks call) none) ∙ is));
      };
      in_order = λ c d e f has. absurd (in_contains [] e has);
      lines = subst (λ (cs : List CallLine). answered_lines cs no_answers
          ≡ all_lines (numbered (told_lines plan contexts nothing_told lane) 0 cs)) (sym calls) refl;
      printable = All-nil (IsInRange 0);
    }
  where
    no_entry : (e : Entry) → None ≡ Some e → ⊥
    no_entry e at = cc

    no_ask : (a : Ask) → None ≡ Some a → ⊥
    no_ask a at = cc

-- the lines of all lanes, where each lane's are these
pub joined : (lines : List CallLine → LaneAnswers → List (List ℕ))
    (all : List (List CallLine) → List LaneAnswers → List (List (List ℕ)))
    → ((answers : List LaneAnswers) → all [] answers ≡ [])
    → ((calls : List CallLine) (lanes : List (List CallLine)) (a : LaneAnswers)
    (answers : List LaneAnswers)
    → all (calls ∷ lanes) (a ∷ answers) ≡ lines calls a ∷ all lanes answers)
    → (f : ℕ → List CallLine → List (List ℕ)) (lanes : List (List CallLine))
    (answers : List LaneAnswers) (start : ℕ) → length answers ≡ length lanes
    → ((i : ℕ) → i < length lanes
    → lines (slice_index_or lanes i []) (slice_index_or answers i no_answers)
    ≡ f (start + i) (slice_index_or lanes i []))
    → all lanes answers ≡ numbered f start lanes
joined lines all none more f [] answers start count each = none answers
joined lines all none more f (calls ∷ lanes) [] start count each = absurd (omega arith)
joined lines all none more f (calls ∷ lanes) (a ∷ answers) start count each =
    let here : start + 0 ≡ start = omega arith in
    let first = each 0 (omega arith) ∙ ap (λ i. f i calls) here in
    let rest = joined lines all none more f lanes answers (start + 1) (omega arith)
    (λ i low. each (suc i) (omega arith) ∙ ap (λ j. f j (slice_index_or lanes i []))
    (let e : start + suc i ≡ start + 1 + i = omega arith in e)) in
    more calls lanes a answers ∙ (λ h. first h ∷ rest h)

pub whole : (plan : Plan) (contexts : List (Option ContextView))
    (passes : List (List (Option PassView))) (answers : List LaneAnswers)
    (books : List (List Entry)) → IsWithinLimits plan
    → AllLanesServed plan contexts passes answers → AllClosed plan passes books
    → AreOfARun plan contexts answers (map (map mark_of) books)
whole plan contexts passes answers books within t closed =
    let n = length plan.lanes in
    let passes_of : ℕ → List (Option PassView) = λ lane. slice_index_or passes lane [] in
    let answers_of : ℕ → LaneAnswers = λ lane. slice_index_or answers lane no_answers in
    let served : (lane : ℕ) → LaneIsServed plan contexts lane (passes_of lane) (answers_of lane) =
    λ lane. elim (cases_lt lane n) [
      | inl low ↦ t.each lane low
      | inr high ↦ subst (LaneIsServed plan contexts lane (passes_of lane))
          (sym (get_or_past answers lane no_answers
          (let e = t.answers_count in omega arith)))
          (subst (λ ps. LaneIsServed plan contexts lane ps no_answers)
          (sym (get_or_past passes lane [] (let e = t.passes_count in omega arith)))
          (nobody plan contexts lane high))
    ] in
    let run = run_of plan contexts passes_of answers_of served books in
    record {
      guesses = run.guesses;
      allowed = is_allowed plan contexts passes_of answers_of served books within closed.closes
          closed.stamps closed.given closed.count;
      lines = joined answered_lines lanes_lines (λ some. refl) (λ calls lanes a more. refl)
          (lane_call_lines run) plan.lanes answers 0 t.answers_count
          (λ i low. lines_are_due plan contexts passes_of answers_of served books within
          closed.closes closed.stamps closed.given closed.count i low
          ∙ ap (λ j. lane_call_lines run j (slice_index_or plan.lanes i []))
          (let e : i ≡ 0 + i = omega arith in e));
    }
