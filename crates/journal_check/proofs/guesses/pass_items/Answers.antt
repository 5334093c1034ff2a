use Rattle.std.proofs.Common.{◌+◌, ◌++◌, ◌∙◌, ℕ, List, get_or, map, drop, refl, sym, ap, arith}
use Rattle.std.specs.Prelude.{slice_index}
use Rattle.journal_check.specs.Passing.{due_at}
use Rattle.journal_check.specs.Walks.{run_in}
use Rattle.journal_check.proofs.DueNumbers.{one_more, found_all, left_behind}
use Rattle.journal_check.proofs.OneContext.{journal_there, run_there, numbers_on}
use Rattle.journal_check.proofs.Pulling.{no_place, next_place}
use Rattle.journal_check.proofs.guesses.pass_items.Goals as goal

pub bounds-walk-context : goal.bounds-walk-context
bounds-walk-context c = run_there c.args.walk.now.checked c.requires.run c.args.context c.requires.stands

pub bounds-cursors-context : goal.bounds-cursors-context
bounds-cursors-context c = omega (arith, journal_there c.args.walk.now.checked c.requires.run c.args.context c.requires.stands, c.requires.cursors)

pub places-init : goal.places-init
places-init c = record {
  left = λ ps more size own. own;
  found = λ ps more size own. ap (λ (found : List ℕ). found ++ map (due_at (run_in c.args.walk.now.checked) c.args.context) ps) (sym c.new-numbers.ensures.items);
  reach = λ before. before;
  others = λ d other. refl;
  cursors = c.requires.cursors;
}

pub places-preserved : goal.places-preserved
places-preserved c =
    let i = c.places._place in
    let n = c.args.count in
    let f = due_at (run_in c.args.walk.now.checked) c.args.context in
    let lt = c.places-test.true in
    record {
      left = λ ps more size own.
          c.pass_place-number.ensures.left (get_or ps i no_place) (drop (i + 1) ps ++ more)
          (c.places.invariant.left ps more size own ∙ next_place ps more i n size lt);
      found = λ ps more size own.
          one_more f ps i n c.places.numbers.items c.push.new.self.items c.pass_place-number.result size lt
          (c.pass_place-number.ensures.number (get_or ps i no_place) (drop (i + 1) ps ++ more)
          (c.places.invariant.left ps more size own ∙ next_place ps more i n size lt))
          c.in_ok-push.ensures.items (c.places.invariant.found ps more size own);
      reach = λ before. c.pass_place-number.ensures.reach (c.places.invariant.reach before);
      others = λ d other. c.pass_place-number.ensures.others d other ∙ c.places.invariant.others d other;
      cursors = omega (arith, c.requires.cursors, c.places.auto, c.pass_place-number.auto);
    }

pub returns-clause-least : goal.returns-clause-least
returns-clause-least c =
    let at = c.args.context in
    c.number_at-least.ensures
    ∙ ap (λ (numbers : List ℕ). slice_index numbers (slice_index c.args.cursors.now at))
    (c.deref.ensures.value ∙ numbers_on c.args.walk.now.checked c.requires.run at c.requires.stands c.index-walk-context.result)

pub returns-clause-numbers : goal.returns-clause-numbers
returns-clause-numbers c = λ ps more size own.
    found_all ps more c.places._place c.args.count size c.places-test.false (due_at (run_in c.args.walk.now.checked) c.args.context) c.places.numbers.items (c.places.invariant.found ps more size own)

pub returns-clause-left : goal.returns-clause-left
returns-clause-left c = λ ps more size own.
    left_behind ps more c.places._place c.args.count size c.places-test.false _ (c.places.invariant.left ps more size own)

pub returns-clause-reach : goal.returns-clause-reach
returns-clause-reach c = c.places.invariant.reach

pub returns-clause-others : goal.returns-clause-others
returns-clause-others c = c.places.invariant.others
