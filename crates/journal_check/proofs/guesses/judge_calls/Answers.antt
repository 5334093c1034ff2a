use Rattle.std.proofs.Common.{ℕ, ◌+◌, Bool, cond, Some, map, drop, get_or, sym, ap, ◌∙◌, arith}
use Rattle.std.proofs.lemmas.Grind.{common_steps}
use Rattle.context_books.specs.Asks.{ask_of}
use Rattle.result_lines.specs.declared.told.GuessLine.{GuessLine}
use Rattle.result_lines.specs.Guesses.{wrong_guess}
use Rattle.journal_check.specs.Passing.{is_right_by}
use Rattle.journal_check.specs.Walks.{run_in}
use Rattle.journal_check.proofs.Walks.{drop_next}
use Rattle.journal_check.proofs.ServedCalls.{points_at}
use Rattle.journal_check.proofs.GuessSteps.{no_guess, go_past, at_opening}
use Rattle.journal_check.proofs.guesses.judge_calls.Goals.{then-is_opening+else-next-guesses+else-not-is_right, else-is_opening}
use Rattle.journal_check.proofs.guesses.judge_calls.Goals as goal

pub returns-then-not-is_right : goal.returns-then-not-is_right
returns-then-not-is_right c =
    let walk = c.args.walk.now in
    let run = run_in walk.checked in
    let i = c.calls.call-index in
    let calls = c.args.calls.now in
    let guesses = c.args.guesses.now in
    let next = c.calls.next in
    let contexts = walk.checked.contexts.now in
    let lt = c.calls-test.true in
    let at = drop_next calls i _ lt in
    let points = points_at contexts walk.checked.journals.now walk.lane i _ _ c.calls.cursors at c.calls.invariant.points in
    let told : GuessLine = get_or guesses next no_guess in
    let later = wrong_guess run walk.lane (i + 1) (map (ask_of run.plan contexts) (drop (i + 1) calls)) (drop (next + 1) guesses) in
    sym (at_opening run walk.lane i contexts calls _ at guesses next _ c.calls.invariant.held
    (sym c.is_opening.ensures ∙ c.if-is_opening.true) (c.requires.within i _ lt) told (drop_next guesses next no_guess c.if-next-guesses.false) c.is_right.result
    (λ context first count names free some.
    c.is_right.ensures
    ∙ ap (is_right_by told.guess c.in_ok-passed.passed.least) c.deref.ensures.value
    ∙ c.in_ok-passed.ensures.right i (drop (i + 1) calls) told.guess context first count names free some points c.calls.invariant.reach)
    ∙ ap (λ (b : Bool). cond b later (Some told.number)) c.if-not-is_right.true)

pub calls-preserved : goal.calls-preserved
calls-preserved c =
    let walk = c.args.walk.now in
    let run = run_in walk.checked in
    let i = c.calls.call-index in
    let calls = c.args.calls.now in
    let guesses = c.args.guesses.now in
    let next = c.calls.next in
    let contexts = walk.checked.contexts.now in
    let lt = c.calls-test.true in
    let at = drop_next calls i _ lt in
    let points = points_at contexts walk.checked.journals.now walk.lane i _ _ c.calls.cursors at c.calls.invariant.points in
    let later = λ (k : ℕ). wrong_guess run walk.lane (i + 1) (map (ask_of run.plan contexts) (drop (i + 1) calls)) (drop k guesses) in
    record {
      held = elim c.if-is_opening.branch [
        | then-is_opening+else-next-guesses+else-not-is_right w ↦
            let told : GuessLine = get_or guesses next no_guess in
            at_opening run walk.lane i contexts calls _ at guesses next _ c.calls.invariant.held
            (sym c.is_opening.ensures ∙ w.if-is_opening.true) (c.requires.within i _ lt) told (drop_next guesses next no_guess w.if-next-guesses.false) w.is_right.result
            (λ context first count names free some.
            w.is_right.ensures
            ∙ ap (is_right_by told.guess c.in_ok-passed.passed.least) w.deref.ensures.value
            ∙ c.in_ok-passed.ensures.right i (drop (i + 1) calls) told.guess context first count names free some points c.calls.invariant.reach)
            ∙ ap (λ (b : Bool). cond b (later (next + 1)) (Some told.number)) w.if-not-is_right.false
            ∙ ap later (sym w.next-is)
        | else-is_opening w ↦
            go_past run walk.lane i contexts calls _ at guesses next _ c.calls.invariant.held (sym c.is_opening.ensures ∙ w.if-is_opening.false) ∙ ap later (sym w.next-is)
      ];
      points = c.in_ok-passed.ensures.points i (drop (i + 1) calls) points;
      reach = c.in_ok-passed.ensures.reach c.calls.invariant.reach;
      cursors = omega (arith, c.requires.cursors, c.calls.auto, c.pass_call.auto);
      few = elim c.if-is_opening.branch [
        | then-is_opening+else-next-guesses+else-not-is_right w ↦ omega (arith, w.next-is, w.if-next-guesses.false)
        | else-is_opening w ↦ omega (arith, w.next-is, c.calls.invariant.few)
      ];
    }

pub returns-then-next-guesses : goal.returns-then-next-guesses
returns-then-next-guesses c = grind (arith, common_steps)

pub returns : goal.returns
returns c = grind (arith, common_steps)
