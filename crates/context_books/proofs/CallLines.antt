-- The lines of one call, of each kind: what the sequential context answers from the number on that
-- is due before the call's places.
use Rattle.std.proofs.Common.{◌≡◌, ℕ, ◌+◌, List, [], ◌∷◌, ◌++◌, length, map, take, sym, ap, ◌∙◌, subst, arith, Some, None}
use Rattle.std.specs.Prelude.{slice_get}
use Rattle.std.proofs.lemmas.Simd.{map-map}
use Rattle.call_places.specs.declared.spans.Item.{Item as ItemSpans}
use Rattle.call_places.specs.declared.spans.Span.{Span}
use Rattle.call_places.specs.declared.entries.Place.{Place}
use Rattle.call_places.specs.Messages.{sealed_messages}
use Rattle.call_places.specs.Spans.{span_bytes}
use Rattle.hpke_context.specs.Answers as hpke
use Rattle.hpke_context.specs.Answers.{Seal, Unseal, Cipher, answer}
use Rattle.hpke_context.specs.Contexts.{ContextView, exported_by}
use Rattle.context_books.specs.Batches.{Ask, unseal, items_in, context_in, block, place, own_places, lane_of}
use Rattle.context_books.specs.Merging.{lane_places}
use Rattle.context_books.specs.Legal.{reply_of, number_of, due_after}
use Rattle.context_books.specs.Guesses.{guess_at, missed, missed_in}
use Rattle.context_books.specs.Entries.{numbers_from}
use Rattle.context_books.specs.Lists.{In}
use Rattle.context_books.proofs.Places.{in_own}
use Rattle.context_books.proofs.Legals.{all_asked_item}
use Rattle.batch_plans.specs.declared.plan.CallLine.{CallLine}
use Rattle.batch_plans.specs.declared.plan.CallLine.TheVariants as calls
use Rattle.batch_plans.specs.declared.replies.CallRefusal.{CallRefusal}
use Rattle.batch_plans.specs.Limits.{items_from}
use Rattle.batch_plans.specs.Within.{IsCallWithin}
use Rattle.batch_plans.specs.Lines.{batch_line, exported_line, refused_line}
use Rattle.context_books.specs.Standing.{call_refusal, standing_at}
use Rattle.context_books.specs.Asks.{asked_by, cipher_at}
use Rattle.context_books.specs.Runs.{Run, asks_of, journal_of, guesses_of, answer_line, answer_line_of, place_line, served_lines, export_line, lines_unless, call_lines}
use Rattle.context_books.specs.Lanes.{calls_of, StandsBehind}
use Rattle.context_books.proofs.Placed.{call_replies_are, call_numbers_are}
use Rattle.context_books.proofs.Done.{ask_served, length-messages, within_taken}

-- where a front has of a lane's places those of the calls before, the next call's are not there
pub not_yet : (run : Run) (lane number context : ℕ) (front : List Place)
    → own_places lane front ≡ lane_places context lane (take number (lane_of (asks_of run) lane))
    → (item : ℕ) → In (place lane number item) front → ⊥
not_yet run lane number context front own item has =
    let asks = lane_of (asks_of run) lane in
    let t = all_asked_item context lane 0 (take number asks) (place lane number item)
    (subst (In (place lane number item)) own (in_own (place lane number item) front has)) in
    let few = within_taken number asks t.1 item context t.3.0 t.3.1 in
    let is : number ≡ 0 + t.1 = t.2 in
    absurd (omega arith)

-- ---- the lines of the places of a call

module _ (run : Run) (lane number : ℕ) (ask : Ask) (front : List Place)
    (here : slice_get (lane_of (asks_of run) lane) number ≡ Some ask)
    (t : StandsBehind run lane number ask front) where
  abbrev cipher : Cipher
  cipher = cipher_at run.contexts (context_in ask)

  abbrev first : ℕ
  first = due_after (asks_of run) cipher front

  places_lines : map (place_line run (context_in ask)) (block lane number 0 (length (items_in ask)))
      ≡ map answer_line (hpke.run cipher first (items_in ask))
  places_lines =
      let b = block lane number 0 (length (items_in ask)) in
      sym (map-map answer_line_of (reply_of (asks_of run) cipher (journal_of run (context_in ask)))
      b)
      ∙ ap (map answer_line_of)
      (call_replies_are (asks_of run) cipher (journal_of run (context_in ask)) lane number ask
      here t.after front t.stands t.served t.fresh)
      ∙ map-map answer_line_of Some (hpke.run cipher first (items_in ask))

  places_numbers : map (number_of (asks_of run) cipher (journal_of run (context_in ask)))
      (block lane number 0 (length (items_in ask)))
      ≡ numbers_from cipher first (items_in ask)
  places_numbers =
      call_numbers_are (asks_of run) cipher (journal_of run (context_in ask)) lane number ask here
      t.after front t.stands t.served t.fresh

-- ---- the lines of a call

pub refused_lines : (run : Run) (lane number : ℕ) (call : CallLine) (refusal : CallRefusal)
    → call_refusal run.contexts call ≡ Some refusal
    → call_lines run lane number call ≡ refused_line refusal ∷ []
refused_lines run lane number call refusal is =
    ap (λ r. lines_unless r (served_lines run lane number call)) is

lines_served : (run : Run) (lane number : ℕ) (call : CallLine)
    → call_refusal run.contexts call ≡ None
    → call_lines run lane number call ≡ served_lines run lane number call
lines_served run lane number call free =
    ap (λ r. lines_unless r (served_lines run lane number call)) free

pub export_lines : (run : Run) (lane number context : ℕ) (exporter : Span) (size : ℕ)
    (view : ContextView)
    → call_refusal run.contexts (calls.Export context exporter size) ≡ None
    → standing_at run.contexts context ≡ Some view
    → call_lines run lane number (calls.Export context exporter size)
    ≡ exported_line (exported_by view (span_bytes run.plan.pool exporter) size) ∷ []
export_lines run lane number context exporter size view free is =
    lines_served run lane number (calls.Export context exporter size) free
    ∙ ap (λ o. export_line o (span_bytes run.plan.pool exporter) size ∷ []) is

pub seal_lines : (run : Run) (lane number context : ℕ) (item : ItemSpans) (front : List Place)
    → slice_get (calls_of run lane) number ≡ Some (calls.Seal context item)
    → call_refusal run.contexts (calls.Seal context item) ≡ None
    → StandsBehind run lane number (asked_by run.plan (calls.Seal context item)) front
    → call_lines run lane number (calls.Seal context item)
    ≡ answer_line
    (answer (cipher_at run.contexts context)
    (due_after (asks_of run) (cipher_at run.contexts context) front)
    (Seal (span_bytes run.plan.pool item.aad) (span_bytes run.plan.pool item.text))) ∷ []
seal_lines run lane number context item front at free t =
    let call = calls.Seal context item in
    lines_served run lane number call free
    ∙ places_lines run lane number (asked_by run.plan call) front
    (ask_served run lane number call at free) t

pub unseal_lines : (run : Run) (lane number context : ℕ) (item : ItemSpans) (front : List Place)
    → slice_get (calls_of run lane) number ≡ Some (calls.Unseal context item)
    → call_refusal run.contexts (calls.Unseal context item) ≡ None
    → StandsBehind run lane number (asked_by run.plan (calls.Unseal context item)) front
    → call_lines run lane number (calls.Unseal context item)
    ≡ answer_line
    (answer (cipher_at run.contexts context)
    (due_after (asks_of run) (cipher_at run.contexts context) front)
    (Unseal (span_bytes run.plan.pool item.aad) (span_bytes run.plan.pool item.text))) ∷ []
unseal_lines run lane number context item front at free t =
    let call = calls.Unseal context item in
    lines_served run lane number call free
    ∙ places_lines run lane number (asked_by run.plan call) front
    (ask_served run lane number call at free) t

pub unseal_all_lines : (run : Run) (lane number context first count guess : ℕ) (front : List Place)
    → IsCallWithin (length run.plan.items) (length run.plan.pool)
    (calls.UnsealAll context first count)
    → slice_get (calls_of run lane) number ≡ Some (calls.UnsealAll context first count)
    → call_refusal run.contexts (calls.UnsealAll context first count) ≡ None
    → StandsBehind run lane number (asked_by run.plan (calls.UnsealAll context first count)) front
    → guess_at (lane_of (asks_of run) lane) (guesses_of run lane) number ≡ guess
    → let c = cipher_at run.contexts context in
    let due = due_after (asks_of run) c front in
    let items =
    map unseal (sealed_messages run.plan.pool (items_from run.plan.items first count)) in
    call_lines run lane number (calls.UnsealAll context first count)
    ≡ map answer_line (hpke.run c due items) ++ batch_line guess
    (missed guess 0 (numbers_from c due items)) ∷ []
unseal_all_lines run lane number context first count guess front within at free t is =
    let call = calls.UnsealAll context first count in
    let ask = asked_by run.plan call in
    let here = ask_served run lane number call at free in
    let size = length-messages run.plan.items run.plan.pool first count within.3 in
    lines_served run lane number call free
    ∙ (λ i. map (place_line run context) (block lane number 0 (sym size i))
    ++ batch_line (is i) (missed_in (asks_of run) (cipher_at run.contexts context)
    (journal_of run context) lane number (sym size i) (is i)) ∷ [])
    ∙ (λ i. places_lines run lane number ask front here t i ++ batch_line guess
    (missed guess 0 (places_numbers run lane number ask front here t i)) ∷ [])
