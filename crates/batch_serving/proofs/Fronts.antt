-- A batch at the front of a text ends within it, and the text is not too large.
use Rattle.std.proofs.Common.{◌≡◌, ◌∙◌, ◌≤◌, ◌<◌, ◌-◌, ℕ, Bool, true, false, List, length, drop, Result, Ok, Err, refl, sym, ap, arith}
use Rattle.std.specs.Prelude.{nat_le}
use Rattle.std.specs.List.{join_with_byte}
use Rattle.std.proofs.lemmas.Bool.{leb-true, leb-false}
use Rattle.std.proofs.lemmas.List.{length-drop}
use Rattle.field_text.specs.Cuts.{line_feed}
use Rattle.field_text.specs.Lines.{FrontText, front, bad}
use Rattle.field_text.specs.declared.faults.BadBatch.{BadBatch}
use Rattle.batch_plans.specs.Limits.{most_input}
use Rattle.batch_plans.specs.declared.plan.Plan.{Plan}
use Rattle.field_text.specs.declared.reasons.Reason.TheVariants.{Size}
use Rattle.request_frames.specs.Batch.{batch_lines, ended, front_batch}
use Rattle.request_frames.specs.Live.{front_live, live_lines}
use Rattle.batch_serving.specs.Text.{front_by}
use Rattle.batch_serving.proofs.Ends.{large_front, large_front_live}

abbrev end_in : Result (Plan × ℕ) BadBatch → ℕ
end_in (Ok front) = front.1
end_in (Err fault) = 0

ended_within : (text : List ℕ) (plan : Plan) (end : ℕ) (r : Result (FrontText Plan) BadBatch) → ended text r ≡ Ok (plan, end) → end ≤ length text
ended_within text plan end (Err fault) e = cc
ended_within text plan end (Ok read) e =
    let same : length text - length (join_with_byte line_feed read.rest) ≡ end = ap end_in e in
    omega (arith, same)

module _ (text : List ℕ) (plan : Plan) (end : ℕ) where
  batch_within : front_batch text ≡ Ok (plan, end) → end ≤ length text
  unfolding front_batch
  batch_within begins = ended_within text plan end (front batch_lines most_input text) begins

  live_within : front_live text ≡ Ok (plan, end) → end ≤ length text
  unfolding front_live
  live_within begins = ended_within text plan end (front live_lines most_input text) begins

  pub front_within : (is_live : Bool) → front_by is_live text ≡ Ok (plan, end) → end ≤ length text
  front_within false begins = batch_within begins
  front_within true begins = live_within begins

  large : (is_live : Bool) → most_input < length text → front_by is_live text ≡ bad 0 Size
  large false more = large_front text more
  large true more = large_front_live text more

  front_small : (is_live : Bool) → front_by is_live text ≡ Ok (plan, end) → length text ≤ most_input
  front_small is_live begins = go (nat_le (length text) most_input) refl
    where
      go : (b : Bool) → nat_le (length text) most_input ≡ b → length text ≤ most_input
      go true is = leb-true _ _ is
      go false is = let no = sym begins ∙ large is_live (leb-false _ _ is) in cc

  -- what stands behind the batch is not too large
  pub rest_small : (is_live : Bool) → front_by is_live text ≡ Ok (plan, end) → length (drop end text) ≤ most_input
  rest_small is_live begins = omega (arith, length-drop end text, front_small is_live begins)
