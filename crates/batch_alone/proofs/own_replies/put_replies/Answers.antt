use Rattle.std.proofs.Common.{◌≡◌, ◌+◌, ◌++◌, ℕ, false, drop, take, get_or, Option, subst, sym, ap, ◌∙◌}
use Rattle.std.specs.Prelude.{slice_index_or}
use Rattle.call_places.specs.declared.spans.Span.{Span}
use Rattle.batch_plans.specs.declared.plan.CallLine.{CallLine}
use Rattle.batch_plans.specs.declared.plan.CallLine.TheVariants.{Seal}
use Rattle.batch_plans.specs.declared.replies.Reply.{Reply}
use Rattle.batch_plans.specs.AnswersText.{UsesUp}
use Rattle.batch_alone.specs.Own.{own_reply, put_at, with_own}
use Rattle.batch_alone.proofs.Putting.{next_call, stands, next_stands}
use Rattle.batch_alone.proofs.own_replies.put_replies.Goals as goal

abbrev nothing : Span
nothing = record { start = 0; len = 0 }

-- the call of an element that the loop reads
abbrev other : CallLine
other = Seal 0 (record { aad = nothing; text = nothing })

pub put_reply-at-requires-clause-there : goal.put_reply-at-requires-clause-there
put_reply-at-requires-clause-there c =
    let calls = c.args.calls.now in
    let k = c.calls.number in
    let at = c.calls.at in
    let replies = c.calls.replies in
    let used = c.calls.invariant.used in
    (stands (get_or calls k other) (drop (k + 1) calls) at replies used.0 c.calls.invariant.low
    (subst (λ l. UsesUp l (drop at replies) used.0) (next_call calls k other c.calls-test.true) used.1)).there

pub put_reply-at-requires-clause-few : goal.put_reply-at-requires-clause-few
put_reply-at-requires-clause-few c =
    let calls = c.args.calls.now in
    let k = c.calls.number in
    let at = c.calls.at in
    let replies = c.calls.replies in
    let used = c.calls.invariant.used in
    (stands (get_or calls k other) (drop (k + 1) calls) at replies used.0 c.calls.invariant.low
    (subst (λ l. UsesUp l (drop at replies) used.0) (next_call calls k other c.calls-test.true) used.1)).few

pub calls-preserved : goal.calls-preserved
calls-preserved c =
    let calls = c.args.calls.now in
    let k = c.calls.number in
    let at = c.calls.at in
    let replies = c.calls.replies in
    let used = c.calls.invariant.used in
    let step = next_call calls k other c.calls-test.true in
    let call = get_or calls k other in
    let behind = drop (k + 1) calls in
    let own = (λ (number : ℕ) (one : CallLine).
    own_reply c.args.plan.now c.args.adds.now (slice_index_or c.args.live.now number false) one) in
    let uses = subst (λ l. UsesUp l (drop at replies) used.0) step used.1 in
    let put : c.put_reply-at.new.replies ≡ put_at (own k call) at replies =
    c.put_reply-at.ensures.put ∙ ap (λ (o : Option Reply). put_at o at replies) c.own_reply-own.ensures in
    let n = next_stands call behind at replies used.0 c.calls.invariant.low uses own k
    c.put_reply-at.result c.put_reply-at.new.replies c.put_reply-at.ensures.next put in
    record {
      size = n.size ∙ c.calls.invariant.size;
      low = n.low;
      used = n.used;
      put = n.put ∙ ap (λ l. take at replies ++ with_own own k l (drop at replies)) (sym step)
          ∙ c.calls.invariant.put;
    }
