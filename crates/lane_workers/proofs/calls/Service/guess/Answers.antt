use Rattle.std.proofs.Common.{◌≡◌, ℕ, true, false, [], Some, None, refl, sym, ap, ◌∙◌, subst, arith, append-nil}
use Rattle.std.specs.Prelude.{slice_set}
use Rattle.std.proofs.lemmas.List.{set-get_or}
use Rattle.turn_lock.specs.Passes.{PassView}
use Rattle.batch_plans.specs.Calls.{keeps_guess}
use Rattle.batch_plans.specs.declared.plan.CallLine.{CallLine}
use Rattle.lane_workers.specs.declared.works.LaneWork.{LaneWork}
use Rattle.lane_workers.specs.Turns.{pass_at, Guesses}
use Rattle.lane_workers.proofs.Found.{is_there}
use Rattle.lane_workers.proofs.calls.Service.guess.Goals.{in-Some, in-None}
use Rattle.lane_workers.proofs.calls.Service.guess.Goals as goal

-- in no turn
at_once : (w : LaneWork) (line : CallLine) (number guess : ℕ) (p : PassView)
    → pass_at w.passes.items number ≡ Some p → keeps_guess line ≡ false
    → Guesses w w line number guess
at_once w line number guess p holds none = record {
  pass = p;
  was = holds;
  after = p;
  has_guessed = record {
    after = record { lock = refl; number = refl; turns = omega arith };
    next_call = refl;
    others = ([], sym (append-nil p.seen), refl);
    due = λ keeps. absurd (let no : false ≡ true = sym none ∙ keeps in cc);
  };
  passes = sym (ap (slice_set w.passes.items number) (sym holds)
      ∙ set-get_or w.passes.items number None);
  seat = refl;
  same = record { lane = refl; table = refl; progress = refl };
  steps = refl;
  checks = refl;
}

pub returns : goal.returns
returns g c =
    let old = c.args.work.now in
    let line = c.args.line.now in
    let number = c.args.number in
    let m = c.match-guess_by_last in
    let t = c.requires.turn in
    elim m.branch [
      | in-Some w ↦ subst (λ (x : LaneWork). Guesses old x line number m.guess) (sym w.work-is)
          (at_once old line number m.guess t.pass t.holds
          (c.guess_by_last.ensures (is_there w.in-Some.is)))
      | in-None w ↦ subst (λ (x : LaneWork). Guesses old x line number m.guess) (sym w.work-is)
          (subst (Guesses old w.look-guess.new.work line number) (sym w.guess-is)
          (w.look-guess.ensures line))
    ]
