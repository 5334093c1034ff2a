use Rattle.std.proofs.Common.{◌≡◌, [], List, Option, Some, get_or, sym, ap, ◌∙◌}
use Rattle.std.specs.Prelude.{slice_get, slice_index_or}
use Rattle.std.proofs.lemmas.Option.{slice_get-get_or}
use Rattle.call_places.specs.declared.spans.Item.{Item}
use Rattle.batch_plans.specs.declared.plan.CallLine.{CallLine}
use Rattle.journal_check.specs.Runs.{asks_in, asked_in_call}
use Rattle.journal_check.proofs.items.asked_at.Goals as goal

pub returns : goal.returns
returns c =
    let plan = c.args.plan.now in
    let place = c.args.place in
    let call = c.in_ok-call.call.now in
    let lane = c.in_ok-calls.ensures.lookup in
    let found = c.in_ok-call.ensures.lookup in
    let calls : c.as_slice-2.result.now ≡ slice_index_or plan.lanes place.lane [] =
    c.as_slice-2.ensures.items ∙ lane.3.1 [] ∙ ap (λ (lanes : List (List CallLine)). get_or lanes place.lane []) c.as_slice.ensures.items in
    let is : slice_get (slice_index_or plan.lanes place.lane []) place.call ≡ Some call =
    ap (λ (cs : List CallLine). slice_get cs place.call) (sym calls) ∙ slice_get-get_or c.as_slice-2.result.now place.call call found.3.0 ∙ ap Some (sym found.1) in
    c.asked_item.ensures
    ∙ ap (λ (items : List Item). slice_get (asks_in items call) place.item) c.as_slice-3.ensures.items
    ∙ sym (ap (λ (o : Option CallLine). asked_in_call plan.items o place.item) is)
