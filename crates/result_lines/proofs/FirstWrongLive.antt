-- The same of a result whose lanes add and retire contexts.
use Rattle.std.proofs.Common.{◌≡◌, ◌↔◌, ◌&&◌, ℕ, Bool, true, false, List, length, map, Option, Some, None, Result, Ok, Err, refl, sym, ap, ◌∙◌, subst, arith}
use Rattle.std.specs.Prelude.{slice_get, IsTrue}
use Rattle.std.specs.List.{AllPairs, list_all, range_with_len}
use Rattle.call_places.specs.declared.entries.Entry.{Entry}
use Rattle.call_places.specs.declared.entries.Mark.{Mark}
use Rattle.hpke_context.specs.Contexts.{ContextView}
use Rattle.context_books.specs.Batches.{Batch}
use Rattle.context_books.specs.Checks.{is_legal_history}
use Rattle.context_books.specs.Histories.{HasLowerStamp, places}
use Rattle.context_books.specs.Legal.{Legal}
use Rattle.context_books.proofs.Marks.{legal_alone}
use Rattle.context_books.proofs.Truths.{and_left, and_right, both_true}
use Rattle.batch_plans.specs.Within.{IsWithinLimits}
use Rattle.batch_plans.specs.Names.{line_count}
use Rattle.batch_plans.specs.declared.plan.Plan.{Plan}
use Rattle.batch_plans.specs.declared.replies.KeyReply.{KeyReply}
use Rattle.batch_plans.specs.declared.replies.ContextReply.{ContextReply}
use Rattle.context_books.specs.Live.{LiveRun, run_of, looked_up_plan}
use Rattle.context_books.specs.LiveChecks.{asks_with_notes, with_table, note_mark, tells_act, tells_live_at, is_live_history}
use Rattle.context_books.specs.Runs.{asks_of}
use Rattle.context_books.proofs.LiveChecked.{live_history_iff, legal_table_iff}
use Rattle.context_books.proofs.OneLiveHistory.{at_table}
use Rattle.result_lines.specs.declared.verdicts.Verdict.{Verdict}
use Rattle.result_lines.specs.declared.verdicts.Verdict.TheVariants as verdicts
use Rattle.result_lines.specs.Computed.{by_guess, by_reply, by_stamps, is_table, by_table, by_live_journal, live_verdict_on, live_by_form}
use Rattle.result_lines.specs.Guesses.{wrong_guesses}
use Rattle.result_lines.specs.Journals.{is_journal, broken_journal}
use Rattle.result_lines.specs.LiveVerdicts.{live_told, live_replies, AreLiveJournals, IsTable, IsLegalLive, IsLiveVerdictOn, IsLiveVerdictBy}
use Rattle.result_lines.specs.Replies.{wrong_reply}
use Rattle.result_lines.specs.Tables.{table_told}
use Rattle.result_lines.specs.Told.{ToldView}
use Rattle.result_lines.specs.ToldLive.{told_live_by}
use Rattle.result_lines.proofs.FirstWrong.{fails, passes}
use Rattle.result_lines.proofs.LegalJournals.{journal_iff, first_iff, unserved}
use Rattle.result_lines.proofs.LiveLegal.{live_alone, one_list}
use Rattle.result_lines.proofs.LookedLimits.{looked_within}
use Rattle.result_lines.proofs.TookLive.{told_live_took}

module _ (live : LiveRun) (told : ToldView) (within : IsWithinLimits live.plan) (standing : length live.standing ≡ length live.journals) where
  -- ---- the table

  abbrev both : Batch
  both = asks_with_notes live

  abbrev behind : ℕ
  behind = length live.journals

  abbrev marks : List Mark
  marks = map note_mark live.notes

  abbrev noted : Bool
  noted = is_journal true both behind marks

  abbrev acts : Bool
  acts = list_all (tells_act live.plan live.standing) live.notes

  abbrev lives : Bool
  lives = list_all (λ i. tells_live_at live.notes i (slice_get live.notes i)) (range_with_len 0 (length live.notes))

  abbrev AreParts : Type 0
  AreParts = Legal both behind (places marks) × AllPairs HasLowerStamp marks × (acts ≡ true) × (lives ≡ true)

  parts_iff : IsTrue (is_table live) ↔ AreParts
  parts_iff =
      let iff = journal_iff true both behind marks in (
        λ e.
            let front = and_left (noted && acts) lives e in
            let own = iff.0 (and_left noted acts front) in
            (own.legal, own.rise refl, and_right noted acts front, and_right (noted && acts) lives e),
        λ t. both_true (noted && acts) lives (both_true noted acts (iff.1 (record { legal = t.0; rise = λ is. t.1 })) t.2) t.3,
      )

  table_iff : IsTrue (is_table live) ↔ IsTable live
  table_iff =
      let iff = legal_table_iff live
      (λ p. unserved (looked_up_plan live.plan live.notes) live.standing (looked_within live.plan live.notes within) behind p (omega (arith, standing))) in (
        λ e. let t = iff.1 (parts_iff.0 e) in record { legal = t.0; in_order = t.1 },
        λ t. parts_iff.1 (iff.0 (t.legal, t.in_order)),
      )

  -- ---- the parts of a legal result

  history : IsLegalLive live → is_live_history live ≡ true
  history t = (live_history_iff live).1 (t.table, t.history)

  table : IsLegalLive live → is_table live ≡ true
  table t =
      let one = one_list live within t.table t.history in
      let at = at_table live.journals live.notes in
      let test = is_legal_history both (with_table live) in (
      parts_iff.1 (
        subst (λ (ms : List Mark). Legal both behind (places ms)) at (legal_alone both (with_table live) behind one),
        subst (AllPairs HasLowerStamp) at (one.each behind).rise,
        and_right test acts (and_left (test && acts) lives (history t)),
        and_right (test && acts) lives (history t),
      ))

  legal : is_live_history live ≡ true → IsLegalLive live
  legal is = let t = (live_history_iff live).0 is in record { table = t.0; history = t.1 }

  are : IsLegalLive live → AreLiveJournals live
  are t c low = record {
    legal = live_alone (asks_of (run_of live)) live.journals live.notes c t.history;
    rise = λ is. (t.history.each c).rise;
  }

  -- ---- the first that is wrong

  abbrev journal : Option ℕ
  journal = broken_journal true (asks_of (run_of live)) 0 live.journals

  abbrev reply : Option ℕ
  reply = wrong_reply told.replies (live_replies live)

  abbrev guess : Option ℕ
  guess = wrong_guesses (run_of live) 0 told.lanes

  abbrev computed : Option ℕ → Bool → Bool → Option ℕ → Option ℕ → Verdict
  computed j t b r g = by_live_journal (line_count live.plan) j (by_table t (by_stamps b (by_reply r (by_guess g))))

  none : IsLegalLive live → journal ≡ None
  none t = (first_iff true (asks_of (run_of live)) live.journals None).1 (are t)

  found : (j : Option ℕ) (t b : Bool) (r g : Option ℕ) → journal ≡ j → is_table live ≡ t → is_live_history live ≡ b → reply ≡ r → guess ≡ g
      → IsLiveVerdictOn live told (computed j t b r g)
  found (Some c) t b r g first tabled one replies guesses = (c, refl, (first_iff true (asks_of (run_of live)) live.journals (Some c)).0 first)
  found None false b r g first tabled one replies guesses = (
    (first_iff true (asks_of (run_of live)) live.journals None).0 first,
    λ t. passes (is_table live) tabled (table_iff.1 t),
  )
  found None true false r g first tabled one replies guesses = (
    (first_iff true (asks_of (run_of live)) live.journals None).0 first,
    table_iff.0 tabled,
    λ t. passes (is_live_history live) one (history (record { table = (table_iff.0 tabled).legal; history = t })),
  )
  found None true true (Some line) g first tabled one replies guesses = (legal one, replies)
  found None true true None (Some line) first tabled one replies guesses = (legal one, replies, guesses)
  found None true true None None first tabled one replies guesses = (legal one, replies, guesses)

  only : (verdict : Verdict) → IsLiveVerdictOn live told verdict → verdict ≡ computed journal (is_table live) (is_live_history live) reply guess
  only (verdicts.Form line) none = absurd none
  only (verdicts.Journal name) (c, same, first) =
      let is = (first_iff true (asks_of (run_of live)) live.journals (Some c)).1 first in
      ap (λ (k : ℕ). verdicts.Journal k) same ∙ sym (λ i. computed (is i) (is_table live) (is_live_history live) reply guess)
  only verdicts.Table (journals, no_table) =
      let is = (first_iff true (asks_of (run_of live)) live.journals None).1 journals in
      sym (λ i. computed (is i) (fails (is_table live) (λ e. no_table (table_iff.0 e)) i) (is_live_history live) reply guess)
  only verdicts.Stamps (journals, t, not_one) =
      let is = (first_iff true (asks_of (run_of live)) live.journals None).1 journals in
      let own = table_iff.1 t in
      sym (λ i. computed (is i) (own i) (fails (is_live_history live) (λ e. not_one (legal e).history) i) reply guess)
  only (verdicts.Reply line) (t, replies) = sym (λ i. computed (none t i) (table t i) (history t i) (replies i) guess)
  only (verdicts.Guess line) (t, replies, guesses) = sym (λ i. computed (none t i) (table t i) (history t i) (replies i) (guesses i))
  only verdicts.Legal (t, replies, guesses) = sym (λ i. computed (none t i) (table t i) (history t i) (replies i) (guesses i))

  first_wrong_on : (verdict : Verdict) → IsLiveVerdictOn live told verdict ↔ (verdict ≡ live_verdict_on live told)
  first_wrong_on verdict = (
    only verdict,
    λ is. subst (IsLiveVerdictOn live told) (sym is) (found journal (is_table live) (is_live_history live) reply guess refl refl refl refl refl),
  )

pub first_wrong_live : (plan : Plan) (keys : List KeyReply) (replies : List ContextReply) (standing : List (Option ContextView)) (text : List ℕ) (verdict : Verdict)
    → IsWithinLimits plan → length standing ≡ length plan.contexts
    → IsLiveVerdictBy plan replies standing (table_told plan standing text) (told_live_by plan keys replies standing (table_told plan standing text) text) verdict
    ↔ (verdict ≡ live_by_form plan replies standing (table_told plan standing text) (told_live_by plan keys replies standing (table_told plan standing text) text))
first_wrong_live plan keys replies standing text verdict within size = go (table_told plan standing text) (told_live_by plan keys replies standing (table_told plan standing text) text) refl
  where
    go : (notes : List Entry) (read : Result ToldView ℕ) → told_live_by plan keys replies standing notes text ≡ read
        → IsLiveVerdictBy plan replies standing notes read verdict ↔ (verdict ≡ live_by_form plan replies standing notes read)
    go notes (Err line) is = (λ e. e, λ e. e)
    go notes (Ok told) is =
        first_wrong_on (live_told plan replies standing notes told) told within (size ∙ sym (told_live_took plan keys replies standing notes text told is).complete.size) verdict
