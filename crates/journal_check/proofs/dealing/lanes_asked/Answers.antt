use Rattle.std.proofs.Common.{◌+◌, ◌++◌, ◌∷◌, [], List, length, drop, sym, ap, append_assoc, ◌∙◌, arith}
use Rattle.std.proofs.lemmas.List.{get_or_default}
use Rattle.journal_check.specs.declared.asks.Asked.{Asked}
use Rattle.journal_check.specs.Histories.{spots_from}
use Rattle.journal_check.proofs.PileLists.{lanes_from}
use Rattle.journal_check.proofs.Walks.{drop_next}
use Rattle.journal_check.proofs.Dealt.{lanes_end}
use Rattle.journal_check.proofs.dealing.lanes_asked.Goals as goal

pub spots_on-requires : goal.spots_on-requires
spots_on-requires c =
    let here = c.as_slice.ensures.items ∙ c.index-asks-lane.is ∙ get_or_default c.args.asks.now c.lanes.lane _ [] c.lanes-test.true in
    omega (arith, c.requires.calls c.lanes.lane, ap length here)

pub returns : goal.returns
returns c = lanes_end c.args.asks.now c.lanes.lists.items c.lanes.lane c.lanes-test.false c.lanes.invariant

pub lanes-preserved : goal.lanes-preserved
lanes-preserved c =
    let asks = c.args.asks.now in
    let i = c.lanes.lane in
    let so_far = c.lanes.lists.items in
    let here = c.as_slice.ensures.items ∙ c.index-asks-lane.is in
    let later = lanes_from (i + 1) (drop (i + 1) asks) in
    rw (c.in_ok-push.ensures.items, c.from_vec.ensures.items, c.in_ok-spots.ensures)
    (append_assoc so_far _ later
    ∙ ap (λ (calls : List Asked). so_far ++ (spots_from i 0 calls ∷ later)) here
    ∙ ap (λ (ls : List (List Asked)). so_far ++ lanes_from i ls) (sym (drop_next asks i _ c.lanes-test.true))
    ∙ c.lanes.invariant)
