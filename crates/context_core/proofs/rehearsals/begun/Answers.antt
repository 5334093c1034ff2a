use Rattle.std.proofs.Common.{◌≡◌, ◌<◌, ℕ, ◌++◌, List, length, take, drop, get_or, refl, sym, ap, ◌∙◌, subst, arith}
use Rattle.std.proofs.lemmas.List.{take-append-le, take_all}
use Rattle.batch_plans.specs.declared.replies.LaneAnswers.{LaneAnswers}
use Rattle.batch_plans.specs.Progress.{begun}
use Rattle.context_books.specs.ContextLines.{export_limits}
use Rattle.context_core.specs.declared.lanes.Lane.{Lane}
use Rattle.context_core.proofs.Begun.{begun_follows, pools_small}
use Rattle.context_core.proofs.Ended.{lane_count, refill_is}
use Rattle.context_core.proofs.rehearsals.begun.Goals as goal

pub hand_out-requires-clause-small : goal.hand_out-requires-clause-small
hand_out-requires-clause-small g c =
    pools_small c.args.plan.now (export_limits c.args.contexts.now) c.as_mut_slice.result.now
    c.requires.within (c.as_mut_slice.ensures.items ∙ c.requires.room)

pub hand_out-requires-clause-count : goal.hand_out-requires-clause-count
hand_out-requires-clause-count g c =
    ap length c.as_mut_slice.ensures.items
    ∙ lane_count c.args.plan.now (export_limits c.args.contexts.now) c.args.answers.now
    c.requires.room
    ∙ sym c.in_ok-lanes.ensures.count ∙ sym (ap length c.as_mut_slice-2.ensures.value)

pub returns-clause-count : goal.returns-clause-count
returns-clause-count g c =
    let old = c.args.answers.now in
    let out = c.hand_out.new.answers in
    let size : length out ≡ length old =
    c.hand_out.auto.answers ∙ ap length c.as_mut_slice.ensures.items in
    ap length (refill_is (length old) old out size) ∙ size

pub returns-clause-begun : goal.returns-clause-begun
returns-clause-begun g c =
    let vec = c.in_ok-lanes.lanes in
    let given = c.hand_out.new.lanes in
    let given_count : length given ≡ length vec.items = c.hand_out.auto.lanes
    ∙ ap length c.as_mut_slice-2.ensures.value in
    let len : vec.len ≡ length vec.items = vec.ok.0 in
    let given_is : take vec.len (given ++ drop (length given) vec.items) ≡ given =
    take-append-le vec.len given (drop (length given) vec.items) (omega arith)
    ∙ take_all vec.len given (omega arith) in
    begun_follows c.args.plan.now c.args.contexts.now c.requires.within c.requires.standing
    (record { books = c.in_ok-books.field-0; places = 0; checks = c.by.result })
    vec.items (take vec.len (given ++ drop (length given) vec.items)) c.as_mut_slice.result.now
    c.in_ok-books.ensures refl (omega (arith, c.by.ensures)) c.in_ok-lanes.ensures.count
    c.in_ok-lanes.ensures.fresh (c.as_mut_slice.ensures.items ∙ c.requires.room)
    (ap length given_is ∙ given_count)
    (λ l lane one low. ap (λ (xs : List Lane). get_or xs l lane) given_is
    ∙ subst (λ (xs : List Lane). (i : ℕ) (x : Lane) (y : LaneAnswers) → i < length xs
    → get_or given i x ≡ record (get_or xs i x)
    { progress = begun (get_or c.as_mut_slice.result.now i y) }) c.as_mut_slice-2.ensures.value
    c.hand_out.ensures l lane one low)
