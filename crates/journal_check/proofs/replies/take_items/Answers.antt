use Rattle.std.proofs.Common.{◌+◌, ◌++◌, List, map, drop, get_or, ap, ◌∙◌, arith}
use Rattle.std.proofs.lemmas.Grind.{common_steps}
use Rattle.std.proofs.lemmas.Result.{err_from_is_err_and}
use Rattle.std.proofs.lemmas.List.{drop_all}
use Rattle.call_places.specs.declared.entries.Place.{Place}
use Rattle.context_books.specs.Runs.{place_line}
use Rattle.result_lines.specs.Replies.{wrong_reply}
use Rattle.journal_check.specs.Walks.{run_in}
use Rattle.journal_check.proofs.Pulling.{holds_halt, no_place, next_place, next_line}
use Rattle.journal_check.proofs.replies.take_items.Goals as goal

pub returns-in_err-take_place-clause-lines : goal.returns-in_err-take_place-clause-lines
returns-in_err-take_place-clause-lines c = λ ps more size own.
    let i = c.places._place in
    let f = place_line (run_in c.args.walk.now.checked) c.args.context in
    let e = err_from_is_err_and c.from_residual.result c.from_residual.ensures.1 in
    let p : Place = get_or ps i no_place in
    let here = c.in_err-take_place.ensures.line p (drop (i + 1) ps ++ more)
    (c.places.invariant.left ps more size own ∙ next_place ps more i c.args.count size c.places-test.true) in
    rw (e.1, e.2)
    (holds_halt c.in_err-take_place.field-0.0 c.args.replies.now c.places.replies c.take_place.new.replies c.take_place.new.replies (map f ps) (f p) (map f (drop (i + 1) ps))
    (λ rest. c.places.invariant.held ps more rest size own
    ∙ ap (wrong_reply c.places.replies) (next_line f ps rest i c.args.count size c.places-test.true)) here)

pub places-preserved : goal.places-preserved
places-preserved c =
    let i = c.places._place in
    let f = place_line (run_in c.args.walk.now.checked) c.args.context in
    let lt = c.places-test.true in
    record {
      left = λ ps more size own.
          c.in_ok-take_place.ensures.left (get_or ps i no_place) (drop (i + 1) ps ++ more)
          (c.places.invariant.left ps more size own ∙ next_place ps more i c.args.count size lt);
      held = λ ps more rest size own.
          let p : Place = get_or ps i no_place in
          let here = c.in_ok-take_place.ensures.line p (drop (i + 1) ps ++ more)
          (c.places.invariant.left ps more size own ∙ next_place ps more i c.args.count size lt) in
          c.places.invariant.held ps more rest size own
          ∙ ap (wrong_reply c.places.replies) (next_line f ps rest i c.args.count size lt)
          ∙ here (map f (drop (i + 1) ps) ++ rest);
      others = λ d other. c.in_ok-take_place.ensures.others d other ∙ c.places.invariant.others d other;
      cursors = omega (arith, c.requires.cursors, c.places.auto, c.take_place.auto);
    }

pub returns-clause-lines : goal.returns-clause-lines
returns-clause-lines c = λ ps more size own rest.
    let f = place_line (run_in c.args.walk.now.checked) c.args.context in
    let end = c.places-test.false in
    c.places.invariant.held ps more rest size own
    ∙ ap (λ (qs : List Place). wrong_reply c.places.replies (map f qs ++ rest)) (drop_all c.places._place ps (omega arith))

pub returns-clause-left : goal.returns-clause-left
returns-clause-left c = grind (arith, common_steps)
