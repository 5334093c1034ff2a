use Rattle.std.proofs.Common.{◌≡◌, ◌∙◌, ap, lit<, arith, sym, length, map, [], ◌∷◌, get_or, Some}
use Rattle.std.specs.List.{slice_split}
use Rattle.std.proofs.lemmas.List.{map-append, length_push}
use Rattle.std.proofs.lemmas.Iterator.Consumers.{YieldsList-at, YieldsList-turn, YieldsList-end}
use Rattle.std.proofs.lemmas.Iterator.Splits.{YieldsList-from_str_split}
use Rattle.byte_strings.specs.Decimals.{decimal_from_to}
use Rattle.batch_words.specs.Words.{is_comma, lanes}
use Rattle.batch_words.proofs.Steps.{lanes-more, lanes-none, schedule-of, schedule-no_lane, schedule-too_long}
use Rattle.batch_words.proofs.schedules.push_lanes.Goals as goal

pub returns-then-len-eq-MOST_STEPS : goal.returns-then-len-eq-MOST_STEPS
returns-then-len-eq-MOST_STEPS c =
    let split = c.split-part-items.ensures in
    let road = YieldsList-at c.into_iter-part-iterator.ensures.into_iter_gives (YieldsList-from_str_split 44 c.args.text.now (lit< tt) split.text split.has_more split.pattern) in
    let turn = YieldsList-turn road c.loop-part.yielded _ c.loop-part.yielded_by _ _ c.in-Some.part c.in-Some.is c.next.ensures.steps in
    schedule-too_long c.args.text.now c.requires.steps (omega (arith, turn.0))

pub loop-part-preserved : goal.loop-part-preserved
loop-part-preserved c =
    let lane : decimal_from_to 0 15 c.in-Some.part.now ≡ Some c.in-Some-decimal_from_to.lane =
    ap (decimal_from_to 0 15) (sym c.as_bytes.ensures.value) ∙ sym c.in-Some-decimal_from_to.ensures in
    let pushed = c.in_ok-push-in-Some-decimal_from_to.ensures in
    let more = length_push c.loop-part.yielded c.in-Some.part in
    record {
      read =
          ap lanes (map-append (λ x. x.now) c.loop-part.yielded (c.in-Some.part ∷ []))
          ∙ lanes-more (map (λ x. x.now) c.loop-part.yielded) c.in-Some.part.now c.loop-part.lanes.items c.in-Some-decimal_from_to.lane c.loop-part.invariant.read lane
          ∙ ap (λ r. Some r) (sym pushed.items);
      count = omega (arith, pushed.len, more);
      most = omega (arith, pushed.len);
    }

pub returns-in-None-decimal_from_to : goal.returns-in-None-decimal_from_to
returns-in-None-decimal_from_to c =
    let split = c.split-part-items.ensures in
    let road = YieldsList-at c.into_iter-part-iterator.ensures.into_iter_gives (YieldsList-from_str_split 44 c.args.text.now (lit< tt) split.text split.has_more split.pattern) in
    let turn = YieldsList-turn road c.loop-part.yielded _ c.loop-part.yielded_by _ _ c.in-Some.part c.in-Some.is c.next.ensures.steps in
    let parts = slice_split is_comma c.args.text.now in
    let here : c.as_bytes.result.now ≡ get_or parts (length c.loop-part.yielded) c.in-Some.part.now = c.as_bytes.ensures.value ∙ turn.1 in
    schedule-no_lane c.args.text.now c.requires.steps
    (lanes-none parts (length c.loop-part.yielded) c.in-Some.part.now turn.0 (ap (decimal_from_to 0 15) (sym here) ∙ sym c.in-None-decimal_from_to.ensures))

pub returns : goal.returns
returns c =
    let split = c.split-part-items.ensures in
    let road = YieldsList-at c.into_iter-part-iterator.ensures.into_iter_gives (YieldsList-from_str_split 44 c.args.text.now (lit< tt) split.text split.has_more split.pattern) in
    let end = YieldsList-end road c.loop-part.yielded _ c.loop-part.yielded_by _ _ c.in-None.is c.next.ensures.steps in
    schedule-of c.args.text.now c.requires.steps c.loop-part.lanes.items
    (ap lanes (sym end.0) ∙ c.loop-part.invariant.read) (omega (arith, end.1))
