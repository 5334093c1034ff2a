-- The table and its history, as journals of calls that are two each.
use Rattle.std.proofs.Common.{◌≡◌, ◌&&◌, Bool, true, false, List, length, map, Option, ap, sym, ◌∙◌}
use Rattle.std.specs.Prelude.{slice_get}
use Rattle.std.specs.List.{list_all, range_with_len}
use Rattle.call_places.specs.declared.entries.Entry.{Entry}
use Rattle.call_places.specs.declared.entries.Mark.{Mark}
use Rattle.hpke_context.specs.Contexts.{ContextView}
use Rattle.context_books.proofs.Truths.{and_left, and_right}
use Rattle.context_books.specs.Checks.{is_legal_history}
use Rattle.batch_plans.specs.Within.{IsWithinLimits}
use Rattle.batch_plans.specs.declared.plan.Plan.{Plan}
use Rattle.batch_plans.specs.declared.plan.CallLine.{CallLine}
use Rattle.context_books.specs.Live.{LiveRun, looked_up_plan}
use Rattle.context_books.specs.LiveChecks.{asks_with_notes, with_table, note_mark, tells_act, tells_live_at, is_live_history}
use Rattle.result_lines.specs.Journals.{is_journal}
use Rattle.journal_check.specs.declared.asks.Asked.{Asked}
use Rattle.journal_check.specs.Asks.{AreFew, batch_from}
use Rattle.journal_check.specs.Tables.{written, live_along, all_pairs_by, lane_lengths, is_low_note, are_low, with_marks}
use Rattle.journal_check.proofs.Alike.{made, journal_same, history_same}
use Rattle.journal_check.proofs.NotedCalls.{paired, as_long, pairs_few, low_notes, low_all, fails_with, both_hold}
use Rattle.result_lines.specs.Computed.{is_table}

module _ (plan : Plan) (contexts : List (Option ContextView)) (calls : List (List CallLine)) (journals : List (List Mark)) (notes : List Entry)
    (within : IsWithinLimits plan) (served : plan.lanes ≡ (looked_up_plan (written plan calls) notes).lanes) where
  abbrev live : LiveRun
  live = live_along plan contexts calls journals notes

  abbrev acts : Bool
  acts = list_all (tells_act (written plan calls) contexts) notes

  abbrev lives : Bool
  lives = list_all (λ i. tells_live_at notes i (slice_get notes i)) (range_with_len 0 (length notes))

  abbrev journal : Bool
  journal = is_journal true (asks_with_notes live) (length journals) (map note_mark notes)

  abbrev one : Bool
  one = is_legal_history (asks_with_notes live) (with_table live)

  abbrev pairs : List (List Asked)
  pairs = all_pairs_by plan contexts (length journals) calls plan.lanes

  pub same_lengths : lane_lengths calls ≡ lane_lengths plan.lanes
  same_lengths = as_long plan contexts calls journals notes within served

  pub few_pairs : AreFew pairs
  few_pairs = pairs_few plan contexts (length journals) calls within same_lengths

  -- ---- the table

  pub no_low_table : list_all is_low_note notes ≡ false → false ≡ is_table live
  no_low_table low =
      fails_with (is_table live) (list_all is_low_note notes)
      (λ good. low_notes plan contexts calls journals notes within served (length journals) (and_left journal acts (and_left (journal && acts) lives good))) low

  pub journal_found : (sizes : List (List Asked)) (marks : List Mark) (found : Bool) → sizes ≡ pairs → marks ≡ map note_mark notes
      → found ≡ is_journal true (batch_from sizes) (length journals) marks → found ≡ journal
  journal_found sizes marks found is made_of judged =
      judged
      ∙ ap (is_journal true (batch_from sizes) (length journals)) made_of
      ∙ journal_same (batch_from sizes) (asks_with_notes live) (made sizes (asks_with_notes live) (is ∙ paired plan contexts calls journals notes within served)) true (length journals) (map note_mark notes)

  pub no_table : journal ≡ false → false ≡ is_table live
  no_table broken = fails_with (is_table live) journal (λ good. and_left journal acts (and_left (journal && acts) lives good)) broken

  pub table_is : acts ≡ true → journal ≡ true → lives ≡ is_table live
  table_is does good = sym (ap (λ b. (b && acts) && lives) good ∙ ap (λ b. b && lives) does)

  -- ---- its history

  pub no_low_history : are_low journals notes ≡ false → false ≡ is_live_history live
  no_low_history low =
      fails_with (is_live_history live) (are_low journals notes)
      (λ good. low_all plan contexts calls journals notes within served (and_left one acts (and_left (one && acts) lives good))) low

  pub history_is : is_table live ≡ true → (sizes : List (List Asked)) (marks : List (List Mark)) → sizes ≡ pairs → marks ≡ with_marks journals notes
      → is_legal_history (batch_from sizes) marks ≡ is_live_history live
  history_is table sizes marks is made_of =
      ap (is_legal_history (batch_from sizes)) made_of
      ∙ history_same (batch_from sizes) (asks_with_notes live) (made sizes (asks_with_notes live) (is ∙ paired plan contexts calls journals notes within served)) (with_table live)
      ∙ both_hold one acts lives (and_right journal acts (and_left (journal && acts) lives table)) (and_right (journal && acts) lives table)
