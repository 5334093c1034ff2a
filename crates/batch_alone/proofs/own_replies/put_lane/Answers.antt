use Rattle.std.proofs.Common.{◌≡◌, ℕ, false, List, length, ap, ◌∙◌, arith}
use Rattle.std.specs.Prelude.{slice_index_or}
use Rattle.batch_plans.specs.declared.plan.CallLine.{CallLine}
use Rattle.batch_plans.specs.declared.replies.Reply.{Reply}
use Rattle.context_core.proofs.Ended.{refill_is}
use Rattle.batch_alone.specs.Own.{own_reply, own_at, with_own}
use Rattle.batch_alone.proofs.Putting.{with_own_same}
use Rattle.batch_alone.proofs.own_replies.put_lane.Goals as goal

pub returns : goal.returns
returns c =
    let plan = c.args.plan.now in
    let adds = c.args.adds.now in
    let notes = c.args.notes.now in
    let lane = c.args.lane in
    let calls = c.args.calls.now in
    let old = c.args.answers.now.replies in
    let new = c.put_replies.new.replies in
    let live = c.deref.result.now in
    let size : length new ≡ length old =
    c.put_replies.auto.replies ∙ ap length c.as_mut_slice.ensures.items in
    let told = (λ (number : ℕ) (call : CallLine).
    own_reply plan adds (slice_index_or live number false) call) in
    let is : new ≡ with_own (own_at plan adds notes lane) 0 calls old =
    c.put_replies.ensures ∙ ap (λ (rs : List Reply). with_own told 0 calls rs) c.as_mut_slice.ensures.items
    ∙ with_own_same told (own_at plan adds notes lane) 0 calls old
    (λ k call low. ap (λ b. own_reply plan adds b call)
    (ap (λ l. slice_index_or l k false) c.deref.ensures.value
    ∙ c.in_ok-live.ensures.each k (omega arith))) in
    (λ i. record c.args.answers.now { replies = (refill_is (length old) old new size ∙ is) i })
