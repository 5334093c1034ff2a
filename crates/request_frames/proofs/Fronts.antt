-- A text begins with a batch where its first bytes are one, and has that batch's faults but for what stands behind it.
use Rattle.std.proofs.Common.{◌≡◌, ◌≢◌, ℕ, ◌+◌, ◌-◌, ◌≤◌, Bool, true, false, cond, List, [], ◌++◌, length, take, codes, Result, Ok, Err, sym, ap, ◌∙◌, append_assoc, append-nil, arith}
use Rattle.std.specs.List.{join_with_byte}
use Rattle.std.proofs.lemmas.List.{take_at, length-append}
use Rattle.field_text.specs.declared.reasons.Reason.{Reason}
use Rattle.field_text.specs.declared.reasons.Reason.TheVariants as reasons
use Rattle.field_text.specs.declared.faults.BadBatch.{BadBatch}
use Rattle.field_text.specs.Cuts.{line_feed}
use Rattle.field_text.specs.Lines.{Grammar, FrontText, bad, front, whole, is_nothing}
use Rattle.field_text.proofs.Fronts.{front_goes_on, front_alone, nothing_behind}
use Rattle.field_text.proofs.SpelledLines.{IsSpelling, IsText, front_ok, front_read, text_read}
use Rattle.batch_plans.specs.declared.plan.Plan.{Plan}
use Rattle.batch_plans.specs.Limits.{most_input}
use Rattle.request_frames.specs.Batch.{batch, batch_lines, ended, front_batch, Spells, BadAt, BeginsWith, FrontBadAt}
use Rattle.request_frames.specs.Live.{live_lines, live, front_live, Spells as SpellsLive, BeginsWith as BeginsLive}
use Rattle.request_frames.proofs.SpelledPlans.{Adds, spelling}
use Rattle.request_frames.proofs.SpelledTexts.{front_ends, ended_ok}
use Rattle.request_frames.proofs.SpelledLive.{live_spelling}

-- a text that begins with lines
record IsLines (text rest : List ℕ) : Type 0 where
  front : List ℕ
  is : text ≡ (front ++ codes "\n") ++ rest

-- ---- in a grammar whose lines spell what they add

module _ {W : Type 0} (g : Grammar Plan W) (names : Bool) (lines_spell : IsSpelling g (Adds names)) where
  text_lines : (plan : Plan) (text rest : List ℕ) → IsText g (Adds names) plan text rest → IsLines text rest
  text_lines plan text rest read =
      let before = (read.header ++ codes "\n") ++ read.body in
      record {
        front = before ++ codes "end";
        is = read.parts ∙ ap (λ (bytes : List ℕ). bytes ++ rest) (sym (append_assoc before (codes "end") (codes "\n")));
      }

  -- what begins a text is a batch
  front_begins : (text : List ℕ) (plan : Plan) (end : ℕ) → ended text (front g most_input text) ≡ Ok (plan, end)
      → whole (front g most_input (take end text)) ≡ Ok plan
  front_begins text plan end e =
      let found = ended_ok text (front g most_input text) plan end e in
      let after = join_with_byte line_feed found.0.rest in
      let lines = text_lines found.0.plan text after (front_read g (Adds names) lines_spell most_input text found.0 found.1) in
      let alone = front_alone g most_input lines.front found.0 (ap (front g most_input) (sym lines.is) ∙ found.1) in
      let size : length (lines.front ++ codes "\n") ≡ end = omega (arith, found.3, ap length lines.is, length-append (lines.front ++ codes "\n") after) in
      let first : take end text ≡ lines.front ++ codes "\n" = ap (take end) lines.is ∙ take_at (lines.front ++ codes "\n") after end size in
      ap (λ (text : List ℕ). whole (front g most_input text)) first ∙ ap whole alone ∙ ap (λ (plan : Plan). Ok plan) found.2

  -- a batch begins each text that goes on behind it
  whole_goes_on : (text rest : List ℕ) (plan : Plan) → whole (front g most_input text) ≡ Ok plan → length (text ++ rest) ≤ most_input
      → ended (text ++ rest) (front g most_input (text ++ rest)) ≡ Ok (plan, length text)
  whole_goes_on text rest plan e small =
      let found = front_ok (front g most_input text) plan e in
      let lines = text_lines plan text [] (text_read g (Adds names) lines_spell most_input text plan e) in
      let is : text ≡ lines.front ++ codes "\n" = lines.is ∙ append-nil (lines.front ++ codes "\n") in
      let nothing = nothing_behind g most_input text found.0 found.1 found.2 in
      let longer : text ++ rest ≡ (lines.front ++ codes "\n") ++ rest = ap (λ (front : List ℕ). front ++ rest) is in
      let on = front_goes_on g most_input lines.front rest found.0 (ap (front g most_input) (sym is) ∙ found.1) nothing (omega (arith, small, ap length longer)) in
      let size : length (text ++ rest) - length rest ≡ length text = omega (arith, length-append text rest) in
      front_ends g (text ++ rest) rest found.0.plan found.0.lines (ap (front g most_input) longer ∙ on)
      ∙ ap (λ (plan : Plan). Ok (plan, length (text ++ rest) - length rest)) found.3
      ∙ ap (λ (end : ℕ). Ok (plan, end)) size

-- ---- of both kinds of batches

pub begins : (text : List ℕ) (plan : Plan) (end : ℕ) → BeginsWith text plan end → Spells (take end text) plan
unfolding batch front_batch
begins text plan end e = front_begins batch_lines false spelling text plan end e

pub goes_on : (text rest : List ℕ) (plan : Plan) → Spells text plan → length (text ++ rest) ≤ most_input → BeginsWith (text ++ rest) plan (length text)
unfolding batch front_batch
goes_on text rest plan e small = whole_goes_on batch_lines false spelling text rest plan e small

pub live_begins : (text : List ℕ) (plan : Plan) (end : ℕ) → BeginsLive text plan end → SpellsLive (take end text) plan
unfolding live front_live
live_begins text plan end e = front_begins live_lines true live_spelling text plan end e

pub live_goes_on : (text rest : List ℕ) (plan : Plan) → SpellsLive text plan → length (text ++ rest) ≤ most_input
    → BeginsLive (text ++ rest) plan (length text)
unfolding live front_live
live_goes_on text rest plan e small = whole_goes_on live_lines true live_spelling text rest plan e small

-- ---- faults

fault_kept : (text : List ℕ) (read : Result (FrontText Plan) BadBatch) (fault : BadBatch) → ended text read ≡ Err fault → whole read ≡ Err fault
fault_kept text (Ok found) fault e = absurd cc
fault_kept text (Err other) fault e = let same : other ≡ fault = cc in ap (λ (fault : BadBatch). Err fault) same

fault_back : (text : List ℕ) (read : Result (FrontText Plan) BadBatch) (line : ℕ) (reason : Reason) → whole read ≡ bad line reason → reason ≢ reasons.Trailing
    → ended text read ≡ bad line reason
fault_back text (Err other) line reason e none = let same : other ≡ record { line = line; reason = reason } = cc in ap (λ (fault : BadBatch). Err fault) same
fault_back text (Ok found) line reason e none = go (is_nothing found.rest) e
  where
    go : (b : Bool) → cond b (Ok found.plan) (bad (found.lines + 1) reasons.Trailing) ≡ bad line reason → ended text (Ok found) ≡ bad line reason
    go true e = absurd cc
    go false e =
        let same : record { line = found.lines + 1; reason = reasons.Trailing } ≡ record { line = line; reason = reason } = cc in
        absurd (none (sym (ap (λ (fault : BadBatch). fault.reason) same)))

pub front_fault : (text : List ℕ) (line : ℕ) (reason : Reason) → FrontBadAt text line reason → BadAt text line reason
unfolding batch front_batch
front_fault text line reason e = fault_kept text (front batch_lines most_input text) _ e

pub fault_front : (text : List ℕ) (line : ℕ) (reason : Reason) → BadAt text line reason → reason ≢ reasons.Trailing → FrontBadAt text line reason
unfolding batch front_batch
fault_front text line reason e none = fault_back text (front batch_lines most_input text) line reason e none
