use Rattle.std.proofs.Common.{◌≡◌, List, map, length, ap, ◌∙◌, arith}
use Rattle.std.specs.List.{range_with_len}
use Rattle.batch_plans.specs.declared.plan.Plan.{Plan}
use Rattle.batch_plans.specs.declared.plan.CallLine.{CallLine}
use Rattle.batch_plans.specs.declared.plan.ContextLine.{ContextLine}
use Rattle.batch_plans.specs.Limits.{all_items}
use Rattle.batch_plans.specs.Room.{lane_room, journal_room}
use Rattle.batch_plans.proofs.Positions.{all_placed_items, all_live_plain}
use Rattle.batch_plans.proofs.replies.Answers.for_plan.Goals as goal

pub journals_room-requires : goal.journals_room-requires
journals_room-requires c =
    let plan = c.args.plan.now in
    let placed = ap (λ lanes. all_items lanes) c.in_ok-calls.ensures in
    omega (arith, c.requires.items, placed, all_placed_items plan plan.lanes)

pub returns-clause-plain : goal.returns-clause-plain
returns-clause-plain c = λ plain.
    let plan = c.args.plan.now in
    let limits = c.args.export_limits.now in
    let stays : c.in_ok-calls.calls ≡ plan.lanes =
    c.in_ok-calls.ensures ∙ ap (λ (p : Plan). p.lanes) (all_live_plain plan plain) in
    let journals = λ (lines : List ContextLine) (lanes : List (List CallLine)).
    map (journal_room lines limits lanes) (range_with_len 0 (length lines)) in
    let lanes_are = c.in_ok-lanes.ensures ∙ ap (map (lane_room plan limits)) stays in
    let journals_are = c.in_ok-journals.ensures
    ∙ ap (λ lines. journals lines c.in_ok-calls.calls) c.as_slice.ensures.items
    ∙ ap (journals plan.contexts) stays in
    let notes_are = c.from_vec.ensures.items ∙ c.new.ensures.items in (
    λ i. record {
      keys = c.args.keys;
      contexts = c.args.contexts;
      lanes = lanes_are i;
      journals = journals_are i;
      notes = notes_are i;
    }
    )
