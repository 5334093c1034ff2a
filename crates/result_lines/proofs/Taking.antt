-- The parts of a result, element by element.
use Rattle.std.proofs.Common.{◌≡◌, ℕ, ◌+◌, ◌-◌, ◌<◌, List, [], ◌∷◌, length, map, drop, get_or, Option, Result, Ok, refl, arith}
use Rattle.hpke_context.specs.Contexts.{ContextView}
use Rattle.batch_plans.specs.declared.plan.ContextLine.{ContextLine}
use Rattle.batch_plans.specs.declared.plan.CallLine.{CallLine}
use Rattle.call_places.specs.declared.entries.Entry.{Entry}
use Rattle.batch_plans.specs.ReplyText.{numbered}
use Rattle.batch_plans.specs.LiveText.{note_line}
use Rattle.result_lines.specs.declared.stop.Stop.{Stop}
use Rattle.result_lines.specs.declared.stamps.Stamps.{Stamps}
use Rattle.result_lines.specs.Readings.{Stops}
use Rattle.result_lines.specs.Told.{ToldView, with_line, with_lines, with_reply, with_replies, with_call, with_calls, with_journal, with_journals}
use Rattle.result_lines.specs.ToldLive.{with_added_journal, with_added_journals}
use Rattle.result_lines.proofs.Steps.{goes_on, stops_at, count_goes_on, count_stops_at}

-- ---- a line for each element and its number

module _ {A : Type 0} (line : ℕ → A → List ℕ) where
  abbrev all_lines : ℕ → List A → ToldView → Result ToldView ℕ
  all_lines n xs told = with_lines (numbered line n xs) told

  abbrev one_line : ℕ → A → ToldView → Result ToldView ℕ
  one_line n x told = with_line (line n x) told

  pub lines_go_on : (xs : List A) (i : ℕ) (d x : A) (now new : ToldView) (total : Result ToldView ℕ) → i < length xs → x ≡ get_or xs i d
      → with_line (line i x) now ≡ Ok new → all_lines i (drop i xs) now ≡ total → all_lines (i + 1) (drop (i + 1) xs) new ≡ total
  lines_go_on = goes_on all_lines one_line (λ n x xs s. refl)

  pub lines_stop : (stop : Stop) (xs : List A) (i : ℕ) (d x : A) (now : ToldView) (total : Result ToldView ℕ) → i < length xs → x ≡ get_or xs i d
      → Stops stop (with_line (line i x) now) → all_lines i (drop i xs) now ≡ total → Stops stop total
  lines_stop = stops_at all_lines one_line (λ n x xs s. refl)

-- ---- replies

pub replies_go_on : (n i : ℕ) (now new : ToldView) (total : Result ToldView ℕ) → i < n → with_reply now ≡ Ok new
    → with_replies (n - i) now ≡ total → with_replies (n - (i + 1)) new ≡ total
replies_go_on = count_goes_on with_replies with_reply (λ n s. refl)

pub replies_stop : (stop : Stop) (n i : ℕ) (now : ToldView) (total : Result ToldView ℕ) → i < n → Stops stop (with_reply now)
    → with_replies (n - i) now ≡ total → Stops stop total
replies_stop = count_stops_at with_replies with_reply (λ n s. refl)

-- ---- calls

module _ (contexts : List (Option ContextView)) where
  abbrev all_calls : ℕ → List CallLine → ToldView → Result ToldView ℕ
  all_calls n calls told = with_calls contexts calls told

  abbrev one_call : ℕ → CallLine → ToldView → Result ToldView ℕ
  one_call n call told = with_call contexts call told

  pub calls_go_on : (calls : List CallLine) (i : ℕ) (d call : CallLine) (now new : ToldView) (total : Result ToldView ℕ) → i < length calls → call ≡ get_or calls i d
      → with_call contexts call now ≡ Ok new → with_calls contexts (drop i calls) now ≡ total → with_calls contexts (drop (i + 1) calls) new ≡ total
  calls_go_on = goes_on all_calls one_call (λ n x xs s. refl)

  pub calls_stop : (stop : Stop) (calls : List CallLine) (i : ℕ) (d call : CallLine) (now : ToldView) (total : Result ToldView ℕ) → i < length calls → call ≡ get_or calls i d
      → Stops stop (with_call contexts call now) → with_calls contexts (drop i calls) now ≡ total → Stops stop total
  calls_stop = stops_at all_calls one_call (λ n x xs s. refl)

-- ---- journals

module _ (stamps : Stamps) where
  abbrev one_journal : ℕ → ContextLine → ToldView → Result ToldView ℕ
  one_journal n line told = with_journal stamps n told

  pub journals_go_on : (lines : List ContextLine) (i : ℕ) (now new : ToldView) (total : Result ToldView ℕ) → i < length lines
      → with_journal stamps i now ≡ Ok new → with_journals stamps i (drop i lines) now ≡ total → with_journals stamps (i + 1) (drop (i + 1) lines) new ≡ total
  journals_go_on [] i now new total lt taken so_far = absurd (omega arith)
  journals_go_on (line ∷ lines) i now new total lt taken so_far =
      goes_on (with_journals stamps) one_journal (λ n x xs s. refl) (line ∷ lines) i line (get_or (line ∷ lines) i line) now new total lt refl taken so_far

  pub journals_stop : (stop : Stop) (lines : List ContextLine) (i : ℕ) (now : ToldView) (total : Result ToldView ℕ) → i < length lines
      → Stops stop (with_journal stamps i now) → with_journals stamps i (drop i lines) now ≡ total → Stops stop total
  journals_stop stop [] i now total lt wrong so_far = absurd (omega arith)
  journals_stop stop (line ∷ lines) i now total lt wrong so_far =
      stops_at (with_journals stamps) one_journal (λ n x xs s. refl) stop (line ∷ lines) i line (get_or (line ∷ lines) i line) now total lt refl wrong so_far

-- ---- journals of contexts that are added

abbrev one_added : ℕ → ContextLine → ToldView → Result ToldView ℕ
one_added name line told = with_added_journal name told

pub added_go_on : (lines : List ContextLine) (i : ℕ) (now new : ToldView) (total : Result ToldView ℕ) → i < length lines
    → with_added_journal i now ≡ Ok new → with_added_journals i (drop i lines) now ≡ total → with_added_journals (i + 1) (drop (i + 1) lines) new ≡ total
added_go_on [] i now new total lt taken so_far = absurd (omega arith)
added_go_on (line ∷ lines) i now new total lt taken so_far =
    goes_on with_added_journals one_added (λ n x xs s. refl) (line ∷ lines) i line (get_or (line ∷ lines) i line) now new total lt refl taken so_far

pub added_stop : (stop : Stop) (lines : List ContextLine) (i : ℕ) (now : ToldView) (total : Result ToldView ℕ) → i < length lines
    → Stops stop (with_added_journal i now) → with_added_journals i (drop i lines) now ≡ total → Stops stop total
added_stop stop [] i now total lt wrong so_far = absurd (omega arith)
added_stop stop (line ∷ lines) i now total lt wrong so_far =
    stops_at with_added_journals one_added (λ n x xs s. refl) stop (line ∷ lines) i line (get_or (line ∷ lines) i line) now total lt refl wrong so_far

-- ---- notes

abbrev all_notes : ℕ → List Entry → ToldView → Result ToldView ℕ
all_notes n notes told = with_lines (map note_line notes) told

abbrev one_note : ℕ → Entry → ToldView → Result ToldView ℕ
one_note n note told = with_line (note_line note) told

pub notes_go_on : (notes : List Entry) (i : ℕ) (d note : Entry) (now new : ToldView) (total : Result ToldView ℕ) → i < length notes → note ≡ get_or notes i d
    → with_line (note_line note) now ≡ Ok new → with_lines (map note_line (drop i notes)) now ≡ total → with_lines (map note_line (drop (i + 1) notes)) new ≡ total
notes_go_on = goes_on all_notes one_note (λ n x xs s. refl)

pub notes_stop : (stop : Stop) (notes : List Entry) (i : ℕ) (d note : Entry) (now : ToldView) (total : Result ToldView ℕ) → i < length notes → note ≡ get_or notes i d
    → Stops stop (with_line (note_line note) now) → with_lines (map note_line (drop i notes)) now ≡ total → Stops stop total
notes_stop = stops_at all_notes one_note (λ n x xs s. refl)
