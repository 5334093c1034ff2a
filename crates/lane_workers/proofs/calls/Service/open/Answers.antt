use Rattle.std.proofs.Common.{◌≡◌, List, length, map, sum_by, refl, sym, ap, ◌∙◌, subst, arith}
use Rattle.call_places.specs.declared.spans.Item.{Item}
use Rattle.speculative_open.specs.Tables.{TableView}
use Rattle.hpke_context.specs.Answers.{run}
use Rattle.hpke_context.specs.Contexts.{cipher_of}
use Rattle.context_books.specs.Openings.{unseals}
use Rattle.batch_plans.specs.Calls.{context_of}
use Rattle.batch_plans.specs.Room.{opened_room}
use Rattle.batch_plans.specs.Progress.{Progress}
use Rattle.context_books.specs.Runs.{answer_line}
use Rattle.context_books.specs.Writing.{PutsReplies}
use Rattle.lane_workers.specs.declared.works.LaneWork.{LaneWork}
use Rattle.context_books.specs.LaneCalls.{opening_items}
use Rattle.lane_workers.specs.Turns.{CanTurn, Guesses, Commits, with_table}
use Rattle.lane_workers.specs.Readings.{hears}
use Rattle.lane_workers.proofs.Heard.{turn_of, guesses_heard, items_same, call_here}
use Rattle.lane_workers.proofs.Ready.{can_open, look_turn, commit_turn}
use Rattle.lane_workers.proofs.Fitting.{fit_of, opening_fits}
use Rattle.lane_workers.proofs.calls.Service.open.Goals as goal

pub items_of_opening-items-requires : goal.items_of_opening-items-requires
items_of_opening-items-requires g c =
    let v = c.args.self.now in
    let r = c.requires.may.0 in
    let bytes = c.requires.may.1.bytes in
    call_here r.plan v.plan.now c.args.line.now bytes (fit_of c.requires.may.1)

pub guess-guess-requires-clause-turn : goal.guess-guess-requires-clause-turn
guess-guess-requires-clause-turn g c κs within =
    let v = c.args.self.now in
    let r = c.requires.may.0 in
    let w = c.args.work.now in
    let s = c.args.shared.now in
    subst (λ j. CanTurn w s v.counter j c.args.call 0) (sym c.context_of-number.ensures)
    (turn_of (hears r w) w refl refl
    (look_turn r.plan v.contexts.now v.counter c.args.call c.args.line.now s (hears r w)
    c.requires.may.1.may c.requires.opening))

pub test-requires-clause-cipher : goal.test-requires-clause-cipher
test-requires-clause-cipher g c κs within =
    let v = c.args.self.now in
    let r = c.requires.may.0 in
    (can_open r.plan v.contexts.now v.counter c.args.call c.args.line.now c.args.shared.now
    (hears r c.args.work.now) c.requires.may.1.may c.requires.opening).1

pub test-requires-clause-room : goal.test-requires-clause-room
test-requires-clause-room g c κs within =
    let fit = opening_fits c.requires.may.1 c.requires.opening c.items_of_opening-items.ensures in
    let rows = fit.rows in
    let same = ap (λ (x : TableView). x.room) c.guess-guess.ensures.same.table in
    omega arith

pub test-requires-clause-spans : goal.test-requires-clause-spans
test-requires-clause-spans g c κs within =
    (opening_fits c.requires.may.1 c.requires.opening c.items_of_opening-items.ensures).spans

pub commit-first-requires-clause-turn : goal.commit-first-requires-clause-turn
commit-first-requires-clause-turn g c κs within =
    let v = c.args.self.now in
    let s = c.args.shared.now in
    let w = c.args.work.now in
    let mid = c.guess-guess.new.work in
    let number = c.context_of-number.ensures in
    let guesses = subst (λ j. Guesses w mid c.args.line.now j c.guess-guess.result) number
    c.guess-guess.ensures in
    let r = c.requires.may.0 in
    let line = c.args.line.now in
    let table = c.test.new.work.table in
    let turn = turn_of (with_table (hears r mid) table) (with_table mid table) refl refl
    (commit_turn r.plan v.contexts.now v.counter c.args.call line s (hears r w) c.requires.may.1.may
    c.requires.opening (hears r mid) c.guess-guess.result table
    (guesses_heard r w mid line (context_of line) c.guess-guess.result guesses)) in
    subst (λ (x : LaneWork). CanTurn x s v.counter c.context_of-number.result c.args.call
    (length c.items_of_opening-items.result.now)) (sym c.test.ensures.same)
    (subst (λ j. CanTurn (with_table mid table) s v.counter j c.args.call
    (length c.items_of_opening-items.result.now)) (sym number)
    (subst (λ (xs : List Item). CanTurn (with_table mid table) s v.counter
    (context_of line) c.args.call (length xs))
    (items_same r.plan v.plan.now line c.requires.may.1.bytes ∙ sym c.items_of_opening-items.ensures) turn))

pub commit-first-requires-clause-opens : goal.commit-first-requires-clause-opens
commit-first-requires-clause-opens g c κs within =
    let v = c.args.self.now in
    let r = c.requires.may.0 in
    can_open r.plan v.contexts.now v.counter c.args.call c.args.line.now c.args.shared.now
    (hears r c.args.work.now) c.requires.may.1.may c.requires.opening

pub commit-first-requires-clause-table : goal.commit-first-requires-clause-table
commit-first-requires-clause-table g c κs within = c.test.ensures.table

pub commit-first-requires-clause-spans : goal.commit-first-requires-clause-spans
commit-first-requires-clause-spans g c κs within =
    (opening_fits c.requires.may.1 c.requires.opening c.items_of_opening-items.ensures).spans

pub commit-first-requires-clause-room : goal.commit-first-requires-clause-room
commit-first-requires-clause-room g c κs within =
    let fit = opening_fits c.requires.may.1 c.requires.opening c.items_of_opening-items.ensures in
    let steps = fit.steps in
    let tested = ap (λ (x : LaneWork). length x.steps.items) c.test.ensures.same in
    let guessed = ap length c.guess-guess.ensures.steps in
    omega arith

pub finish-requires-clause-cipher : goal.finish-requires-clause-cipher
finish-requires-clause-cipher g c κs within =
    let v = c.args.self.now in
    let r = c.requires.may.0 in
    (can_open r.plan v.contexts.now v.counter c.args.call c.args.line.now c.args.shared.now
    (hears r c.args.work.now) c.requires.may.1.may c.requires.opening).1

pub finish-requires-clause-steps : goal.finish-requires-clause-steps
finish-requires-clause-steps g c κs within = c.commit-first.ensures.steps

pub finish-requires-clause-spans : goal.finish-requires-clause-spans
finish-requires-clause-spans g c κs within =
    (opening_fits c.requires.may.1 c.requires.opening c.items_of_opening-items.ensures).spans

pub finish-requires-clause-few : goal.finish-requires-clause-few
finish-requires-clause-few g c κs within =
    let fit = opening_fits c.requires.may.1 c.requires.opening c.items_of_opening-items.ensures in
    let steps = fit.steps in
    let tested = ap (λ (x : LaneWork). length x.steps.items) c.test.ensures.same in
    let guessed = ap length c.guess-guess.ensures.steps in
    let committed = c.commit-first.ensures.room in
    omega arith

pub finish-requires-clause-room : goal.finish-requires-clause-room
finish-requires-clause-room g c κs within =
    let fit = opening_fits c.requires.may.1 c.requires.opening c.items_of_opening-items.ensures in
    let same : c.commit-first.new.work.progress ≡ c.args.work.now.progress =
    c.commit-first.ensures.same.progress ∙ ap (λ (x : LaneWork). x.progress) c.test.ensures.same
    ∙ c.guess-guess.ensures.same.progress in
    let taken = ap (λ (p : Progress). p.taken) same in
    let pool = ap (λ (p : Progress). length p.pool) same in
    omega (arith, fit.room, taken, pool)

pub finish-requires-clause-left : goal.finish-requires-clause-left
finish-requires-clause-left g c κs within =
    let fit = opening_fits c.requires.may.1 c.requires.opening c.items_of_opening-items.ensures in
    let same : c.commit-first.new.work.progress ≡ c.args.work.now.progress =
    c.commit-first.ensures.same.progress ∙ ap (λ (x : LaneWork). x.progress) c.test.ensures.same
    ∙ c.guess-guess.ensures.same.progress in
    omega (arith, fit.left, ap (λ (p : Progress). p.left) same)

pub returns : goal.returns
returns g c =
    let v = c.args.self.now in
    let w = c.args.work.now in
    let view = c.args.shared.now.context in
    let line = c.args.line.now in
    let pool = v.plan.now.pool in
    let mid = c.guess-guess.new.work in
    let done = c.commit-first in
    let number = c.context_of-number.ensures in
    let items = c.items_of_opening-items.ensures in
    let same : done.new.work.progress ≡ w.progress = done.ensures.same.progress
    ∙ ap (λ (x : LaneWork). x.progress) c.test.ensures.same ∙ c.guess-guess.ensures.same.progress in
    record {
      guessed = mid;
      table = c.test.new.work.table;
      committed = done.new.work;
      first = done.result.0;
      guesses = subst (λ j. Guesses w mid line j c.guess-guess.result) number c.guess-guess.ensures;
      guess_is = c.test.ensures.guess;
      rows = c.test.ensures.room ∙ ap (λ (x : TableView). x.room) c.guess-guess.ensures.same.table;
      commits = subst (λ (x : LaneWork). Commits x done.new.work view (context_of line) c.args.call pool
          (opening_items v.plan.now line) done.result.0 done.result.1) c.test.ensures.same
          (subst (λ j. Commits c.test.new.work done.new.work view j c.args.call pool
          (opening_items v.plan.now line) done.result.0 done.result.1) number
          (subst (λ (xs : List Item). Commits c.test.new.work done.new.work view
          c.context_of-number.result c.args.call pool xs done.result.0 done.result.1) items done.ensures));
      progress = c.finish.new.work.progress;
      puts = subst (λ (p : Progress). PutsReplies p c.finish.new.work.progress
          (sum_by opened_room (opening_items v.plan.now line)) (map answer_line
          (run (cipher_of view) done.result.0
          (unseals pool (opening_items v.plan.now line))))) same
          (subst (λ (xs : List Item). PutsReplies done.new.work.progress c.finish.new.work.progress
          (sum_by opened_room xs) (map answer_line (run (cipher_of view) done.result.0
          (unseals pool xs)))) items c.finish.ensures.puts);
      new_is = c.finish.ensures.same;
    }
