use Rattle.std.proofs.Common.{◌≡◌, ℕ, List, length, get_or, take, drop, map, refl, ap, ◌∙◌}
use Rattle.std.specs.Prelude.{slice_get}
use Rattle.std.specs.List.{concat}
use Rattle.call_places.specs.declared.spans.Span.{Span}
use Rattle.batch_plans.specs.declared.plan.CallLine.TheVariants.{Seal}
use Rattle.batch_plans.specs.declared.replies.Reply.{Reply}
use Rattle.field_text.proofs.Held.{Puts-same}
use Rattle.batch_plans.specs.AnswersText.{reply_line, reply_count, batch_count}
use Rattle.reply_frames.proofs.Chains.{◌⨾◌}
use Rattle.reply_frames.proofs.Leaves.{Leaves-next, Leaves-nothing}
use Rattle.reply_frames.proofs.LanesLeft.{calls_from, calls-next, calls-end, answered-parts}
use Rattle.reply_frames.proofs.GivenLines.{given, given_text}
use Rattle.reply_frames.proofs.given_replies.put_given_calls.Goals as goal

abbrev nothing : Span
nothing = record { start = 0; len = 0 }

pub calls-preserved : goal.calls-preserved
calls-preserved g c =
    let pool = c.as_slice-pool.result.now in
    let none = Seal 0 (record { aad = nothing; text = nothing }) in
    let call = get_or c.args.calls.now c.calls.call-index none in
    let left = given c.calls.replies.now in
    let batches = c.calls.batches.now in
    let next = c.from_given-next.result.now in
    let first = c.from_given-next.ensures.first in
    let same = c.from_given-next.ensures.same in
    let count = reply_count call (slice_get left 0) in
    let kept = batch_count call (slice_get left 0) in
    let counted = c.reply_count.ensures ∙ ap (reply_count call) first in
    let own_is : given c.parted.result.0.now ≡ take count left =
    c.parted.ensures.own ∙ ap (λ (n : ℕ). take n (given next)) counted ∙ ap (take count) same in
    let later_is : given c.parted.result.1.now ≡ drop count left =
    c.parted.ensures.later ∙ ap (λ (n : ℕ). drop n (given next)) counted ∙ ap (drop count) same in
    let parted = calls-next pool c.args.calls.now c.calls.call-index
    none call left
    (take count left) (given c.parted.result.1.now) batches
    c.guesses_of.result.0.now c.guesses_of.result.1.now c.calls-test.true refl (record {
      own_are = refl;
      later_are = later_is;
      kept_are = c.guesses_of.ensures.own ∙ ap (λ (n : ℕ). take n batches) (ap (batch_count call) first);
      rest_are = c.guesses_of.ensures.later ∙ ap (λ (n : ℕ). drop n batches) (ap (batch_count call) first);
    }) in
    let lines = given_text pool c.parted.result.0.now
    ∙ ap (λ (rs : List Reply). concat (map (reply_line pool) rs)) own_is in
    record {
      left = Leaves-next parted c.calls.invariant.left
          (Puts-same lines c.put_replies.ensures ⨾ c.put_guesses.ensures);
      range = (c.parted.ensures.range (length pool) (c.from_given-next.ensures.range (length pool) c.calls.invariant.range)).1;
    }

pub put_replies-requires : goal.put_replies-requires
put_replies-requires g c =
    let size = length c.as_slice-pool.result.now in
    (c.parted.ensures.range size (c.from_given-next.ensures.range size c.calls.invariant.range)).0

pub returns : goal.returns
returns g c =
    let pool = c.as_slice-pool.result.now in
    let calls = c.args.calls.now in
    let lane = c.args.lane.now in
    let replies = given c.as_slice-replies.result.now in
    let end = calls-end pool calls c.calls.call-index (given c.calls.replies.now) c.calls.batches.now in
    let parts = answered-parts pool calls (record lane { replies = given lane.replies }) _ _ c.as_slice-pool.ensures.items in
    let whole = calls_from pool calls 0 replies c.as_slice-batches.result.now in
    Puts-same (parts (ap given c.as_slice-replies.ensures.items) c.as_slice-batches.ensures.items)
    (Leaves-nothing {whole = whole} (end c.calls-test.false) c.calls.invariant.left)
