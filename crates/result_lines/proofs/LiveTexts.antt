-- A text is legal, as a result whose lanes add and retire contexts, exactly where it is that of an
-- allowed run.
use Rattle.std.proofs.Common.{◌≡◌, ℕ, ◌<◌, List, length, map, Option, Result, Ok, Err, refl, sym, ap, ◌∙◌, subst, arith}
use Rattle.std.proofs.lemmas.List.{length-map}
use Rattle.call_places.specs.declared.entries.Entry.{Entry}
use Rattle.call_places.specs.declared.entries.Mark.{Mark}
use Rattle.hpke_context.specs.Contexts.{ContextView}
use Rattle.context_books.specs.Batches.{lane_of}
use Rattle.context_books.specs.Guesses.{guess_count}
use Rattle.context_books.specs.Legal.{Legal}
use Rattle.context_books.proofs.Members.{got}
use Rattle.batch_plans.specs.Within.{IsWithinLimits}
use Rattle.batch_plans.specs.declared.plan.Plan.{Plan}
use Rattle.batch_plans.specs.declared.plan.CallLine.{CallLine}
use Rattle.batch_plans.specs.declared.replies.Batch.{Batch}
use Rattle.batch_plans.specs.declared.replies.KeyReply.{KeyReply}
use Rattle.batch_plans.specs.declared.replies.ContextReply.{ContextReply}
use Rattle.context_books.specs.Asks.{ask_of}
use Rattle.context_books.specs.Live.{LiveRun, run_of, LiveHistory, IsAllowedLive, live_run_text, live_run_along}
use Rattle.context_books.specs.Runs.{asks_of, journal_of, guesses_of}
use Rattle.result_lines.specs.declared.told.GuessLine.{GuessLine}
use Rattle.result_lines.specs.Printed.{lines_told}
use Rattle.result_lines.specs.PrintedLive.{told_live_text}
use Rattle.result_lines.specs.Tables.{table_told}
use Rattle.result_lines.specs.Told.{ToldView}
use Rattle.result_lines.specs.ToldLive.{told_live_by}
use Rattle.result_lines.proofs.BackLive.{live_back}
use Rattle.result_lines.proofs.FirstLines.{ok_is}
use Rattle.result_lines.proofs.TookLive.{told_live_took}
use Rattle.result_lines.specs.declared.verdicts.Verdict.TheVariants as verdicts
use Rattle.result_lines.specs.LiveVerdicts.{live_told, live_replies, IsLiveVerdictOn, IsLiveVerdictBy}
use Rattle.result_lines.specs.OneRun.{AreOneLiveRun}
use Rattle.result_lines.proofs.DueReplies.{due_told, told_due}
use Rattle.result_lines.proofs.LegalTexts.{guessed_of, right_of, guesses_fit, asks_at, index_sizes, sizes_of, kept_of, numbers_of, opened_guesses}
use Rattle.result_lines.proofs.LiveLegal.{live_alone, live_marks_fit, live_notes_fit}
use Rattle.result_lines.proofs.LiveLines.{live_count, live_complete, live_text_is, live_replies_are_lines}
use Rattle.result_lines.proofs.LookedLimits.{looked_within, looked_lanes}
use Rattle.result_lines.proofs.RightGuesses.{numbers_told, AllRight, all_right, none_wrong}
use Rattle.result_lines.proofs.RunTexts.{all_opened, AreCounted}

legal_form : (plan : Plan) (replies : List ContextReply) (standing : List (Option ContextView)) (notes : List Entry) (read : Result ToldView ℕ)
    → IsLiveVerdictBy plan replies standing notes read verdicts.Legal
    → (told : ToldView) × (read ≡ Ok told) × IsLiveVerdictOn (live_told plan replies standing notes told) told verdicts.Legal
legal_form plan replies standing notes (Ok told) legal = (told, refl, legal)
legal_form plan replies standing notes (Err line) legal = absurd cc

pub each_legal : (live : LiveRun) → LiveHistory (asks_of (run_of live)) live.journals live.notes → (context : ℕ) → Legal (asks_of (run_of live)) context (journal_of (run_of live) context)
each_legal live history context = live_alone (asks_of (run_of live)) live.journals live.notes context history

-- ---- texts

module _ (plan : Plan) (keys : List KeyReply) (replies : List ContextReply) (standing : List (Option ContextView)) (text : List ℕ) (within : IsWithinLimits plan) where
  abbrev live_at : List (List Mark) → List (List ℕ) → List Entry → LiveRun
  live_at journals guesses notes = live_run_along plan replies standing journals guesses notes

  abbrev Replies : Type 0
  Replies = (journals : List (List Mark)) × (guesses : List (List ℕ)) × (notes : List Entry) × IsAllowedLive (live_at journals guesses notes)
      × (text ≡ live_run_text keys (live_at journals guesses notes))

  abbrev notes_of : List Entry
  notes_of = table_told plan standing text

  pub live_sound : IsLiveVerdictBy plan replies standing notes_of (told_live_by plan keys replies standing notes_of text) verdicts.Legal → Replies
  live_sound is =
      let notes = notes_of in
      let form = legal_form plan replies standing notes (told_live_by plan keys replies standing notes text) is in
      let told : ToldView = form.0 in
      let live = live_told plan replies standing notes told in
      let run = run_of live in
      let of = told_live_took plan keys replies standing notes text told form.1 in
      let parts = form.2 in
      let legal = parts.0 in
      let fits = looked_within plan notes within in
      let lanes : length run.plan.lanes ≡ length plan.lanes = looked_lanes plan notes within in
      let each = each_legal live legal.history in
      let sizes : map (length {A = GuessLine}) told.lanes ≡ map (λ (calls : List CallLine). guess_count (map (ask_of run.plan standing) calls)) run.plan.lanes =
      sym (sizes_of told.lanes) ∙ of.complete.kept ∙ sym (kept_of run.plan standing run.plan.lanes) in
      let counted : AreCounted run = (λ lane low.
      let calls = got run.plan.lanes lane low in
      index_sizes (λ (cs : List CallLine). guess_count (map (ask_of run.plan standing) cs)) told.lanes run.plan.lanes sizes lane calls.0 calls.1
      ∙ ap guess_count (sym (asks_at run fits each lane calls.0 calls.1))) in
      let right = all_right run told.lanes refl sizes parts.2 in
      let lines : lines_told told ≡ live_replies live =
      due_told told.replies (live_replies live) (sym (length-map told.replies _) ∙ of.complete.count ∙ sym (live_count live within)) parts.1 in (
        told.journals,
        live.guesses,
        notes,
        record {
          journals = of.complete.size;
          lanes = length-map told.lanes numbers_told ∙ sym (length-map told.lanes (length {A = GuessLine})) ∙ ap length sizes ∙ length-map run.plan.lanes _ ∙ lanes;
          table = legal.table;
          history = legal.history;
          guessed = λ lane low.
              let less : lane < length run.plan.lanes = omega arith in
              let calls = got run.plan.lanes lane less in
              guessed_of run fits each lane (counted lane less) (right.1 lane calls.0 calls.1);
        },
        of.is ∙ (λ i. told_live_text plan keys replies standing (lines i) (right.0 i) told.journals notes) ∙ sym (live_text_is live within counted keys),
      )

  -- what the text of an allowed run is read as
  record Back (journals : List (List Mark)) (guesses : List (List ℕ)) (notes : List Entry) : Type 0 where
    told : ToldView
    table : notes_of ≡ notes
    read : told_live_by plan keys replies standing notes text ≡ Ok told
    numbers : map numbers_told told.lanes ≡ guesses
    marks : told.journals ≡ journals
    legal : IsLiveVerdictOn (live_told plan replies standing notes told) told verdicts.Legal

  back : (journals : List (List Mark)) (guesses : List (List ℕ)) (notes : List Entry) → IsAllowedLive (live_at journals guesses notes)
      → text ≡ live_run_text keys (live_at journals guesses notes) → Back journals guesses notes
  back journals guesses notes allowed is =
      let live = live_at journals guesses notes in
      let run = run_of live in
      let fits = looked_within plan notes within in
      let lanes : length run.plan.lanes ≡ length plan.lanes = looked_lanes plan notes within in
      let each = each_legal live allowed.history in
      let counted : AreCounted run = (λ lane low. (allowed.guessed lane (omega arith)).count) in
      let right : (lane : ℕ) → lane < length run.plan.lanes → AllRight run lane 0 (lane_of (asks_of run) lane) (guesses_of run lane) =
      (λ lane low. right_of run fits each lane (allowed.guessed lane (omega arith))) in
      let again = live_back plan keys replies standing (live_replies live) (all_opened run) journals notes (live_complete live within counted allowed.journals)
      (live_replies_are_lines live within each) (guesses_fit run fits each right) (live_marks_fit live within allowed.table allowed.history)
      (live_notes_fit live within allowed.table allowed.history) allowed.table.rise in
      let told : ToldView = again.told in
      let text_is : text ≡ told_live_text plan keys replies standing (live_replies live) (all_opened run) journals notes = is ∙ live_text_is live within counted keys in
      let guesses_are : map numbers_told told.lanes ≡ guesses =
      numbers_of told.lanes ∙ ap (map (map (λ (b : Batch). b.guess))) again.guesses_are ∙ opened_guesses run counted 0 run.plan.lanes guesses refl refl (lanes ∙ sym allowed.lanes) in
      let live_is : live_told plan replies standing notes told ≡ live = (λ i. live_at (again.journals_are i) (guesses_are i) notes) in
      record {
        told = told;
        table = ap (table_told plan standing) text_is ∙ again.table_is;
        read = ap (told_live_by plan keys replies standing notes) text_is ∙ again.is;
        numbers = guesses_are;
        marks = again.journals_are;
        legal = subst (λ (l : LiveRun). IsLiveVerdictOn l told verdicts.Legal) (sym live_is) (
          record { table = allowed.table; history = allowed.history },
          told_due told.replies (live_replies live) again.lines_are,
          none_wrong run 0 run.plan.lanes told.lanes refl again.guesses_are counted right,
        );
      }

  pub live_complete_texts : Replies → IsLiveVerdictBy plan replies standing notes_of (told_live_by plan keys replies standing notes_of text) verdicts.Legal
  live_complete_texts (journals, guesses, notes, allowed, is) =
      let b = back journals guesses notes allowed is in
      subst (λ (ns : List Entry). IsLiveVerdictBy plan replies standing ns (told_live_by plan keys replies standing ns text) verdicts.Legal) (sym b.table)
      (subst (λ (read : Result ToldView ℕ). IsLiveVerdictBy plan replies standing notes read verdicts.Legal) (sym b.read) b.legal)

  -- ---- a text is that of one run

  pub one_live_run : (journals others : List (List Mark)) (guesses further : List (List ℕ)) (notes tables : List Entry) → IsAllowedLive (live_at journals guesses notes)
      → IsAllowedLive (live_at others further tables) → text ≡ live_run_text keys (live_at journals guesses notes)
      → text ≡ live_run_text keys (live_at others further tables) → AreOneLiveRun (live_at journals guesses notes) (live_at others further tables)
  one_live_run journals others guesses further notes tables first second is also =
      let a = back journals guesses notes first is in
      let b = back others further tables second also in
      let table : tables ≡ notes = sym b.table ∙ a.table in
      let same : b.told ≡ a.told = ok_is b.told a.told (sym b.read ∙ ap (λ (ns : List Entry). told_live_by plan keys replies standing ns text) table ∙ a.read) in
      record {
        guesses_are = sym b.numbers ∙ ap (λ (t : ToldView). map numbers_told t.lanes) same ∙ a.numbers;
        journals_are = sym b.marks ∙ ap (λ (t : ToldView). t.journals) same ∙ a.marks;
        notes_are = table;
      }
