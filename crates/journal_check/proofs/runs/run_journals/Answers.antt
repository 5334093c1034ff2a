use Rattle.std.proofs.Common.{◌≡◌, List, [], Option, subst, sym, ap, ◌∙◌, arith}
use Rattle.std.proofs.lemmas.List.{get_or_default}
use Rattle.call_places.specs.declared.entries.Mark.{Mark}
use Rattle.hpke_context.specs.Contexts.{ContextView}
use Rattle.context_books.specs.Histories.{marks_at}
use Rattle.context_books.specs.Lists.{In}
use Rattle.context_books.specs.Standing.{standing_at}
use Rattle.journal_check.specs.Runs.{IsRunOf, AreRuns}
use Rattle.journal_check.proofs.Slots.{runs_push}
use Rattle.journal_check.proofs.runs.run_journals.Goals as goal

pub run_at-requires-clause-fit : goal.run_at-requires-clause-fit
run_at-requires-clause-fit c = λ context m stands here.
    let journals = c.args.journals.now in
    let n = c.journals.number in
    let marks : c.as_slice.result.now ≡ marks_at journals n =
    c.as_slice.ensures.items ∙ c.index-journals-number.is ∙ get_or_default journals n c.index-journals-number.result [] c.journals-test.true in
    c.requires.fit n context m (sym (ap (λ (cs : List (Option ContextView)). standing_at cs n) c.journals.invariant.kept) ∙ stands)
    (subst (λ (ms : List Mark). In m ms) marks here)

pub journals-preserved : goal.journals-preserved
journals-preserved c =
    let plan = c.args.plan.now in
    let contexts = c.args.contexts.now in
    let journals = c.args.journals.now in
    let n = c.journals.number in
    let kept = c.journals.invariant.kept in
    let marks : c.as_slice.result.now ≡ marks_at journals n =
    c.as_slice.ensures.items ∙ c.index-journals-number.is ∙ get_or_default journals n c.index-journals-number.result [] c.journals-test.true in
    let one = c.in_ok-done.ensures.run in
    record {
      runs = subst (AreRuns plan contexts journals) (sym c.in_ok-push.ensures.items)
          (runs_push plan contexts journals c.journals.runs.items c.in_ok-done.done n c.journals.invariant.runs c.journals.invariant.count
          (λ context stands. subst (λ (ms : List Mark). IsRunOf plan context ms c.in_ok-done.done) marks
          (one context (ap (λ (cs : List (Option ContextView)). standing_at cs n) kept ∙ stands))));
      count = omega (arith, c.in_ok-push.ensures.len, c.journals.invariant.count);
      kept = c.in_ok-done.ensures.kept ∙ kept;
    }
