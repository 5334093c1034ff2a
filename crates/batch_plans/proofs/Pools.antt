-- The lines of replies depend on no more of the pool than their spans name.
use Rattle.std.proofs.Common.{◌≡◌, ◌+◌, ℕ, List, [], ◌∷◌, ◌++◌, map, take, drop, refl, sym, ap, ◌∙◌}
use Rattle.std.specs.Prelude.{slice_get, codes}
use Rattle.std.specs.List.{All}
use Rattle.std.proofs.lemmas.List.{take-take, drop-take}
use Rattle.std.proofs.lemmas.List.Elements.{All-head, All-tail, All-take, All-drop}
use Rattle.call_places.specs.declared.spans.Span.{Span}
use Rattle.call_places.specs.Spans.{span_bytes, IsInPool}
use Rattle.batch_plans.specs.declared.plan.CallLine.{CallLine}
use Rattle.batch_plans.specs.declared.replies.Reply.{Reply}
use Rattle.batch_plans.specs.declared.replies.Reply.TheVariants.{Blank, Sealed, Opened, Failed, Limit, Exported, Refused, Added, Retired}
use Rattle.batch_plans.specs.declared.replies.Batch.{Batch}
use Rattle.batch_plans.specs.Replies.{IsInRange}
use Rattle.batch_plans.specs.Lines.{served_line, exported_line}
use Rattle.batch_plans.specs.AnswersText.{reply_line, reply_count, batch_count, guess_line, calls_lines}

-- a span's bytes, among the first bytes of the pool
front_bytes : (size : ℕ) (pool : List ℕ) (span : Span) → IsInPool size span
    → span_bytes pool span ≡ drop span.start (take (span.start + span.len) (take size pool))
front_bytes size pool span fits =
    let end = span.start + span.len in
    sym (drop-take span.start span.len pool)
    ∙ ap (λ (front : List ℕ). drop span.start front) (sym (take-take end size pool fits))

-- two pools that begin with the same bytes
module _ (size : ℕ) (a b : List ℕ) (same : take size a ≡ take size b) where
  pub span_bytes-same : (span : Span) → IsInPool size span → span_bytes a span ≡ span_bytes b span
  span_bytes-same span fits =
      let end = span.start + span.len in
      front_bytes size a span fits
      ∙ ap (λ (front : List ℕ). drop span.start (take end front)) same
      ∙ sym (front_bytes size b span fits)

  pub reply_line-same : (reply : Reply) → IsInRange size reply
      → reply_line a reply ≡ reply_line b reply
  reply_line-same Blank fits = refl
  reply_line-same (Sealed number text) fits =
      ap (served_line (codes "sealed ") number) (span_bytes-same text fits)
  reply_line-same (Opened number text) fits =
      ap (served_line (codes "opened ") number) (span_bytes-same text fits)
  reply_line-same (Failed number) fits = refl
  reply_line-same Limit fits = refl
  reply_line-same (Exported text) fits = ap exported_line (span_bytes-same text fits)
  reply_line-same (Refused refusal) fits = refl
  reply_line-same Added fits = refl
  reply_line-same Retired fits = refl

  pub reply_lines-same : (replies : List Reply) → All (IsInRange size) replies
      → map (reply_line a) replies ≡ map (reply_line b) replies
  reply_lines-same [] fits = refl
  reply_lines-same (reply ∷ replies) fits =
      let first = All-head (IsInRange size) reply replies fits in
      let rest = All-tail (IsInRange size) reply replies fits in
      ap (λ line. line ∷ map (reply_line a) replies) (reply_line-same reply first)
      ∙ ap (λ lines. reply_line b reply ∷ lines) (reply_lines-same replies rest)

  -- the lines of calls
  pub calls_lines-same : (calls : List CallLine) (replies : List Reply) (batches : List Batch)
      → All (IsInRange size) replies
      → calls_lines a calls replies batches ≡ calls_lines b calls replies batches
  calls_lines-same [] replies batches fits = refl
  calls_lines-same (call ∷ calls) replies batches fits =
      let n = reply_count call (slice_get replies 0) in
      let m = batch_count call (slice_get replies 0) in
      let mine = reply_lines-same (take n replies) (All-take (IsInRange size) n replies fits) in
      let guessed = map guess_line (take m batches) in
      ap (λ lines. lines ++ (guessed ++ calls_lines a calls (drop n replies) (drop m batches))) mine
      ∙ ap (λ lines. map (reply_line b) (take n replies) ++ (guessed ++ lines))
      (calls_lines-same calls (drop n replies) (drop m batches)
      (All-drop (IsInRange size) n replies fits))
