-- From all lanes that were served and all contexts that are closed to one run.
use Rattle.std.proofs.Common.{◌≡◌, ℕ, ◌+◌, ◌<◌, true, false, List, [], length, map, Option, ap, ◌∙◌, subst, arith}
use Rattle.std.specs.Prelude.{slice_index_or, IsPermutation, flat_map}
use Rattle.std.specs.List.{range_with_len}
use Rattle.std.proofs.lemmas.List.{length-map}
use Rattle.std.proofs.lemmas.List.FromFn.{length-map-range_with_len}
use Rattle.call_places.specs.declared.entries.Entry.{Entry}
use Rattle.call_places.specs.Entries.{stamps_of, mark_of}
use Rattle.turn_lock.specs.Passes.{PassView}
use Rattle.hpke_context.specs.Contexts.{ContextView}
use Rattle.lane_workers.proofs.Gathering.{one_history}
use Rattle.lane_workers.specs.Showing.{Closes, AllShown}
use Rattle.batch_plans.specs.declared.plan.Plan.{Plan}
use Rattle.batch_plans.specs.declared.plan.CallLine.{CallLine}
use Rattle.batch_plans.specs.declared.plan.CallLine.TheVariants as calls
use Rattle.batch_plans.specs.declared.replies.LaneAnswers.{LaneAnswers}
use Rattle.batch_plans.specs.Within.{IsCallWithin, IsWithinLimits}
use Rattle.batch_plans.specs.ReplyText.{all_lines, has_stamps}
use Rattle.batch_plans.specs.AnswersText.{answered_lines}
use Rattle.context_books.specs.Asks.{batch_of, cipher_at}
use Rattle.context_books.specs.Runs.{Run, call_lines, lane_call_lines, LegalFor, IsAllowed}
use Rattle.lane_workers.specs.Served.{Told, told_lines, seen_of, LaneIsServed}
use Rattle.lane_workers.proofs.Showing as showing
use Rattle.lane_workers.proofs.Showing.{LaneTells, HasItems, numbered_same}
use Rattle.context_books.specs.LaneCalls.{lane_calls}
use Rattle.context_books.proofs.Within.{line_within}

pub has_items : (items pool : ℕ) (call : CallLine) → IsCallWithin items pool call
    → HasItems items call
has_items items pool (calls.UnsealAll context first count) within = within.3
has_items items pool call within = tt

module _ (plan : Plan) (contexts : List (Option ContextView))
    (passes : ℕ → List (Option PassView)) (answers : ℕ → LaneAnswers)
    (served : (lane : ℕ) → LaneIsServed plan contexts lane (passes lane) (answers lane))
    (books : List (List Entry)) where
  abbrev told : ℕ → Told
  told lane = (served lane).told

  abbrev seen : ℕ → ℕ → List Entry
  seen lane context = seen_of (passes lane) context

  tells : (lane : ℕ) → LaneTells plan contexts lane (told lane) (seen lane)
  tells lane =
      let t = served lane in
      record { shows = t.shows; openings = t.openings; in_order = t.in_order }

  -- the journals with their stamps, and each lane's guesses
  abbrev pub run_of : Run
  run_of = showing.run_of plan contexts told seen books

  module _ (within : IsWithinLimits plan) (closes : (context : ℕ) → Closes (length plan.lanes)
      (λ lane. seen_of (passes lane) context) (slice_index_or books context []))
      (stamps : ℕ) (given : IsPermutation (flat_map stamps_of books) (range_with_len 0 stamps))
      (count : length books ≡ length plan.contexts) where
    all_shown : AllShown (batch_of plan contexts) (cipher_at contexts)
        (showing.showing plan contexts told seen books)
    all_shown = record {
      lanes = showing.lanes plan contexts told seen books tells closes;
      closes = showing.closed plan contexts told seen books tells closes;
      count = stamps;
      given = given;
    }

    pub is_allowed : IsAllowed run_of
    is_allowed = record {
      journals = length-map books (map mark_of) ∙ count;
      lanes = length-map-range_with_len _ 0 (length plan.lanes);
      legal = elim (has_stamps plan.version)
          as (λ b. LegalFor b (batch_of plan contexts) run_of.journals) [
            | true ↦ one_history (batch_of plan contexts) (cipher_at contexts)
                (showing.showing plan contexts told seen books) all_shown
            | false ↦ showing.journal_legal plan contexts told seen books tells closes
          ];
      guessed = showing.guessed_so plan contexts told seen books tells closes;
    }

    -- the answers of a lane have the lines that are due
    pub lines_are_due : (lane : ℕ) → lane < length plan.lanes
        → answered_lines (lane_calls plan lane) (answers lane)
        ≡ lane_call_lines run_of lane (lane_calls plan lane)
    lines_are_due lane low =
        (served lane).lines
        ∙ ap all_lines (numbered_same (told_lines plan contexts (told lane) lane)
        (call_lines run_of lane) 0 (lane_calls plan lane)
        (λ k call at. subst (λ i. told_lines plan contexts (told lane) lane i call
        ≡ call_lines run_of lane i call) (let e : k ≡ 0 + k = omega arith in e)
        (showing.told_is_called plan contexts told seen books tells closes lane low k call at
        (has_items _ _ call (line_within plan lane k call within low at)))))
