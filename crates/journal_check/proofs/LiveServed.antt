-- Calls as they were served, of a plan whose lanes add and retire contexts.
use Rattle.std.proofs.Common.{◌≡◌, ◌||◌, ℕ, ◌+◌, Bool, true, false, List, [], ◌∷◌, ◌++◌, Option, Some, None, refl, ap, if◌then◌else◌}
use Rattle.std.specs.Prelude.{nat_lt}
use Rattle.call_places.specs.declared.entries.Mark.{Mark}
use Rattle.hpke_context.specs.Contexts.{ContextView}
use Rattle.context_books.specs.Batches.{place}
use Rattle.batch_plans.specs.declared.plan.CallLine.{CallLine}
use Rattle.batch_plans.specs.declared.plan.CallLine.TheVariants as calls
use Rattle.batch_plans.specs.declared.plan.Plan.{Plan}
use Rattle.batch_plans.specs.Calls.{context_of}
use Rattle.batch_plans.specs.Limits.{first_name}
use Rattle.batch_plans.specs.Names.{at_position}
use Rattle.batch_plans.specs.ReplyText.{all_lines, numbered}
use Rattle.context_books.specs.Live.{LiveRun, run_of, was_live, looked_up, live_run_along}
use Rattle.context_books.specs.Runs.{Run}
use Rattle.result_lines.specs.LiveVerdicts.{live_reply_lines, live_lane_replies, live_replies}
use Rattle.result_lines.specs.Replies.{reply_lines, lane_replies, all_replies}
use Rattle.journal_check.specs.declared.tables.Table.{Table}
use Rattle.journal_check.specs.Served.{due_lines, lane_due, all_due}
use Rattle.journal_check.specs.Tables.{written}

-- ---- the replies to calls as they were served are those that are due

module _ (plan : Plan) (contexts : List (Option ContextView)) (table : Table) (journals : List (List Mark)) (guesses : List (List ℕ)) where
  abbrev written_plan : Plan
  written_plan = written plan table.calls.now

  abbrev live : LiveRun
  live = live_run_along written_plan table.adds.now contexts journals guesses table.notes.now

  abbrev lines_of : ℕ → ℕ → CallLine → List (List ℕ)
  lines_of lane number call = due_lines (Some table) (run_of live) lane number call

  module _ (lane number : ℕ) where
    abbrev found : CallLine → Bool
    found call = nat_lt (context_of call) first_name || was_live table.notes.now (place lane number 0)

    served_is : (call : CallLine) → lines_of lane number (looked_up written_plan table.notes.now lane number call) ≡ live_reply_lines live lane number call
    served_is (calls.Seal context item) = either (found (calls.Seal context item))
      where
        either : (b : Bool) → lines_of lane number (if b then at_position written_plan (calls.Seal context item) else calls.Seal context item)
            ≡ reply_lines (run_of live) lane number (if b then at_position written_plan (calls.Seal context item) else calls.Seal context item)
        either true = refl
        either false = refl
    served_is (calls.Unseal context item) = either (found (calls.Unseal context item))
      where
        either : (b : Bool) → lines_of lane number (if b then at_position written_plan (calls.Unseal context item) else calls.Unseal context item)
            ≡ reply_lines (run_of live) lane number (if b then at_position written_plan (calls.Unseal context item) else calls.Unseal context item)
        either true = refl
        either false = refl
    served_is (calls.UnsealAll context first count) = either (found (calls.UnsealAll context first count))
      where
        either : (b : Bool) → lines_of lane number (if b then at_position written_plan (calls.UnsealAll context first count) else calls.UnsealAll context first count)
            ≡ reply_lines (run_of live) lane number (if b then at_position written_plan (calls.UnsealAll context first count) else calls.UnsealAll context first count)
        either true = refl
        either false = refl
    served_is (calls.Export context exporter size) = either (found (calls.Export context exporter size))
      where
        either : (b : Bool) → lines_of lane number (if b then at_position written_plan (calls.Export context exporter size) else calls.Export context exporter size)
            ≡ reply_lines (run_of live) lane number (if b then at_position written_plan (calls.Export context exporter size) else calls.Export context exporter size)
        either true = refl
        either false = refl
    served_is (calls.Add name) = either (found (calls.Add name))
      where
        either : (b : Bool) → lines_of lane number (if b then at_position written_plan (calls.Add name) else calls.Add name)
            ≡ live_reply_lines live lane number (calls.Add name)
        either true = refl
        either false = refl
    served_is (calls.Retire name) = either (found (calls.Retire name))
      where
        either : (b : Bool) → lines_of lane number (if b then at_position written_plan (calls.Retire name) else calls.Retire name)
            ≡ live_reply_lines live lane number (calls.Retire name)
        either true = refl
        either false = refl

  lane_served : (lane number : ℕ) (lines : List CallLine)
      → all_lines (numbered (lines_of lane) number (numbered (looked_up written_plan table.notes.now lane) number lines)) ≡ all_lines (numbered (live_reply_lines live lane) number lines)
  lane_served lane number [] = refl
  lane_served lane number (call ∷ lines) = (λ i. served_is lane number call i ++ lane_served lane (number + 1) lines i)

  lanes_served : (lane : ℕ) (lanes : List (List CallLine))
      → all_lines (numbered (lane_due (Some table) (run_of live)) lane (numbered (λ l lines. numbered (looked_up written_plan table.notes.now l) 0 lines) lane lanes))
      ≡ all_lines (numbered (live_lane_replies live) lane lanes)
  lanes_served lane [] = refl
  lanes_served lane (lines ∷ lanes) = (λ i. lane_served lane 0 lines i ++ lanes_served (lane + 1) lanes i)

  pub replies_served : all_due (Some table) (run_of live) ≡ live_replies live
  replies_served = lanes_served 0 table.calls.now

-- ---- without a table

module _ (run : Run) where
  lane_plain : (lane number : ℕ) (lines : List CallLine) → all_lines (numbered (due_lines None run lane) number lines) ≡ all_lines (numbered (reply_lines run lane) number lines)
  lane_plain lane number [] = refl
  lane_plain lane number (call ∷ lines) = ap (λ (ls : List (List ℕ)). reply_lines run lane number call ++ ls) (lane_plain lane (number + 1) lines)

  lanes_plain : (lane : ℕ) (lanes : List (List CallLine)) → all_lines (numbered (lane_due None run) lane lanes) ≡ all_lines (numbered (lane_replies run) lane lanes)
  lanes_plain lane [] = refl
  lanes_plain lane (lines ∷ lanes) = (λ i. lane_plain lane 0 lines i ++ lanes_plain (lane + 1) lanes i)

  pub replies_plain : all_due None run ≡ all_replies run
  replies_plain = lanes_plain 0 run.plan.lanes
