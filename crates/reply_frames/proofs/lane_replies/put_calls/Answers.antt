use Rattle.std.proofs.Common.{length, refl}
use Rattle.std.proofs.lemmas.List.Elements.{All-drop, All-same}
use Rattle.call_places.specs.declared.spans.Span.{Span}
use Rattle.batch_plans.specs.Replies.{IsInRange}
use Rattle.batch_plans.specs.declared.plan.CallLine.TheVariants.{Seal}
use Rattle.field_text.proofs.Held.{Puts-same}
use Rattle.reply_frames.proofs.Chains.{◌⨾◌}
use Rattle.reply_frames.proofs.Leaves.{Leaves-next, Leaves-nothing}
use Rattle.reply_frames.proofs.LanesLeft.{calls_from, calls-next, calls-end, answered-parts}
use Rattle.reply_frames.proofs.lane_replies.put_calls.Goals as goal

abbrev nothing : Span
nothing = record { start = 0; len = 0 }

pub calls-preserved : goal.calls-preserved
calls-preserved g c =
    let replies = c.calls.replies.now in
    let IsWithin = IsInRange (length c.as_slice-pool.result.now) in
    let next = calls-next c.as_slice-pool.result.now c.args.calls.now c.calls.call-index
    (Seal 0 (record { aad = nothing; text = nothing })) _ replies
    c.replies_of.result.0.now c.replies_of.result.1.now c.calls.batches.now
    c.guesses_of.result.0.now c.guesses_of.result.1.now c.calls-test.true refl in
    let parted = next (record {
      own_are = c.replies_of.ensures.own;
      later_are = c.replies_of.ensures.later;
      kept_are = c.guesses_of.ensures.own;
      rest_are = c.guesses_of.ensures.later;
    }) in
    record {
      left = Leaves-next parted c.calls.invariant.left
          (c.put_replies.ensures ⨾ c.put_guesses.ensures);
      range = All-same IsWithin c.replies_of.result.1.now _ c.replies_of.ensures.later
          (All-drop IsWithin _ replies c.calls.invariant.range);
    }

pub returns : goal.returns
returns g c =
    let pool = c.as_slice-pool.result.now in
    let calls = c.args.calls.now in
    let end = calls-end pool calls c.calls.call-index c.calls.replies.now c.calls.batches.now in
    let parts = answered-parts pool calls c.args.lane.now _ _ c.as_slice-pool.ensures.items in
    let whole = calls_from pool calls 0 c.as_slice-replies.result.now c.as_slice-batches.result.now in
    Puts-same (parts c.as_slice-replies.ensures.items c.as_slice-batches.ensures.items)
    (Leaves-nothing {whole = whole} (end c.calls-test.false) c.calls.invariant.left)
