use Rattle.std.proofs.Common.{◌≡◌, ◌++◌, Some, None, ◌∙◌, sym, refl, ap, subst, arith}
use Rattle.std.specs.Prelude.{sum}
use Rattle.std.specs.List.{All}
use Rattle.turn_lock.specs.Passes.{PassListView, IsShown, NoOthers}
use Rattle.stamp_counter.specs.Seats.{SeatView}
use Rattle.shared_context.specs.Calls.{SharedView}
use Rattle.shared_runs.proofs.closing.close.Goals as goal

pub returns : goal.returns
returns c =
    let book = c.close-book.result.1 in
    let b = c.close-book.ensures in
    let joined = c.join.ensures in
    record {
      none = λ e. absurd
          (let f : None ≡ Some c.in-Some-Some.context = sym e ∙ c.in-Some-Some.is-0 in cc);
      some = λ s list is back.
          let same : c.in-Some-Some.context ≡ s = cc in
          let lists : c.in-Some-Some.passes ≡ list = cc in
          let shares : sum c.in-Some-Some.context.lock.terms.quotas ≡ sum s.lock.terms.quotas =
          ap (λ (x : SharedView). sum x.lock.terms.quotas) same in
          let left = ap (λ (x : SeatView). x.left) joined in
          let quotas = ap sum b.terms.1 in (
            book,
            refl,
            record {
              shown = subst (λ (l : PassListView). All (IsShown book.entries) l.passes) lists
                  b.shown;
              others = subst (λ (l : PassListView). NoOthers book.entries l.passes) lists
                  b.others;
              rise = c.entries.ensures.rise;
              drawn = ap (λ (x : SeatView). x.drawn) joined
                  ∙ ap (λ ds. c.args.all.now.drawn ++ ds) b.stamps;
              left = omega (arith, left, quotas, shares, b.left);
              few = omega (arith, quotas, shares, b.left);
            },
          );
      counter = ap (λ (x : SeatView). x.counter) joined ∙ sym c.requires.seat;
    }
