-- What is told, by what was found.
use Rattle.std.proofs.Common.{◌≡◌, ◌∙◌, ◌<◌, ◌≤◌, ℕ, List, [], Some, length, ap, arith, length-take, subst, sym, take}
use Rattle.field_text.specs.Printing.{AppendsPrefix}
use Rattle.field_text.specs.declared.reasons.Reason.{Reason}
use Rattle.field_text.specs.declared.faults.BadBatch.{BadBatch}
use Rattle.batch_plans.specs.declared.plan.Plan.{Plan}
use Rattle.batch_plans.specs.ReplyText.{bad_text}
use Rattle.request_frames.specs.Batch.{BadAt, Spells}
use Rattle.context_table.specs.ReplyTo.{IsReply}
use Rattle.library_calls.specs.Texts.{IsBatch, IsNoBatch, TellsBad, HasLongerLine, IsReplyTo, IsNoReplyTo}

pub is_batch : (text : List ℕ) (plan : Plan) → Spells text plan → IsBatch text
unfolding IsBatch
is_batch text plan spells = (plan, spells)

pub tells : (text said : List ℕ) (bad : BadBatch) → BadAt text bad.line bad.reason
    → said ≡ bad_text bad → TellsBad text said
unfolding TellsBad
tells text said bad at is = (bad.line, bad.reason, at, is)

pub longer_line : (text : List ℕ) (room : ℕ) (bad : BadBatch) → BadAt text bad.line bad.reason
    → room < length (bad_text bad) → HasLongerLine text room
unfolding HasLongerLine
longer_line text room bad at long = (bad.line, bad.reason, at, long)

-- a text that was cut is longer than what was written
pub cut_short : (bytes text : List ℕ) (room : ℕ) → AppendsPrefix (Some []) (Some bytes) text
    → room ≤ length bytes → room < length text
cut_short bytes text room cut fits = omega (arith, fits, cut.1, ap length cut.2, length-take cut.0 text)

pub legal : (text reply : List ℕ) (plan : Plan) → Spells text plan → IsReply plan reply
    → IsReplyTo text reply
unfolding IsReplyTo
legal text reply plan spells is = (plan, spells, is)

pub illegal : (text reply : List ℕ) (plan : Plan) → Spells text plan → ¬ IsReply plan reply
    → IsNoReplyTo text reply
unfolding IsNoReplyTo
illegal text reply plan spells is = (plan, spells, is)

pub no_batch : (text : List ℕ) (line : ℕ) (reason : Reason) → BadAt text line reason
    → IsNoBatch text
unfolding IsNoBatch
no_batch text line reason at = (line, reason, at)

-- ---- a text has one reading, and a reply one judgement

module _ (text : List ℕ) where
  pub batch_has_no_bad_line : IsBatch text → ¬ IsNoBatch text
  unfolding IsBatch IsNoBatch
  batch_has_no_bad_line is also = let e = sym is.1 ∙ also.2 in cc

  pub longer_line_is_bad : (room : ℕ) → HasLongerLine text room → IsNoBatch text
  unfolding HasLongerLine IsNoBatch
  longer_line_is_bad room has = (has.0, has.1, has.2)

  -- a line that stands in the room isn't longer than it
  pub line_that_fits : (room n : ℕ) (out : List ℕ) (bad : BadBatch) → BadAt text bad.line bad.reason
      → take n out ≡ bad_text bad → length out ≡ room → ¬ HasLongerLine text room
  unfolding HasLongerLine
  line_that_fits room n out bad at is size has =
      let other : BadBatch = record { line = has.0; reason = has.1 } in
      let e = sym at ∙ has.2 in
      let same : bad ≡ other = cc in
      omega (arith, size, has.3, ap length is, length-take n out, ap (λ (one : BadBatch). length (bad_text one)) same)

module _ (text reply : List ℕ) where
  pub one_plan : (plan other : Plan) → Spells text plan → Spells text other → plan ≡ other
  one_plan plan other is also = let e = sym is ∙ also in cc

  pub legal_is_not_broken : IsReplyTo text reply → ¬ IsNoReplyTo text reply
  unfolding IsReplyTo IsNoReplyTo
  legal_is_not_broken is also =
      also.2 (subst (λ plan. IsReply plan reply) (one_plan is.0 also.0 is.1 also.1) is.2)

  pub legal_is_not_bad : IsReplyTo text reply → ¬ IsNoBatch text
  unfolding IsReplyTo IsNoBatch
  legal_is_not_bad is also = let e = sym is.1 ∙ also.2 in cc

  pub broken_is_not_bad : IsNoReplyTo text reply → ¬ IsNoBatch text
  unfolding IsNoReplyTo IsNoBatch
  broken_is_not_bad is also = let e = sym is.1 ∙ also.2 in cc
