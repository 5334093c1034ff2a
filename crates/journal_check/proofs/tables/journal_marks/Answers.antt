use Rattle.std.proofs.Common.{◌≡◌, ◌+◌, ◌++◌, drop, true, false, List, map, ap, sym, ◌∙◌, subst, arith}
use Rattle.std.proofs.lemmas.Grind.{common_steps}
use Rattle.std.specs.Option.{MatchOption}
use Rattle.std.specs.List.{list_all}
use Rattle.call_places.specs.declared.entries.Mark.{Mark}
use Rattle.context_books.specs.LiveChecks.{call_mark}
use Rattle.journal_check.specs.Tables.{is_low}
use Rattle.journal_check.proofs.Walks.{map_next, all_next, all_fail}
use Rattle.journal_check.proofs.tables.journal_marks.Goals as goal

pub returns-in_default : goal.returns-in_default
returns-in_default c =
    let shown = c.as_slice.result.now in
    let fails : list_all is_low shown ≡ false =
    subst (λ o. MatchOption o (list_all is_low shown ≡ false) (λ marks. (marks ≡ map call_mark shown) × (list_all is_low shown ≡ true))) c.in_default.is c.in_ok-own.ensures in
    sym (all_fail (list_all is_low) c.args.journals.now c.journals.journal-index _ _ c.journals-test.true c.journals.invariant.low
    (sym (ap (list_all is_low) (c.as_slice.ensures.items ∙ c.journal-item.is)) ∙ fails))

pub journals-preserved : goal.journals-preserved
journals-preserved c =
    let journals = c.args.journals.now in
    let i = c.journals.journal-index in
    let here = c.as_slice.ensures.items ∙ c.journal-item.is in
    let found : (c.in-Some.own ≡ map call_mark c.as_slice.result.now) × (list_all is_low c.as_slice.result.now ≡ true) =
    subst (λ o. MatchOption o (list_all is_low c.as_slice.result.now ≡ false) (λ marks. (marks ≡ map call_mark c.as_slice.result.now) × (list_all is_low c.as_slice.result.now ≡ true)))
    c.in-Some.is c.in_ok-own.ensures in
    record {
      made = ap (λ (ms : List (List Mark)). ms ++ map (map call_mark) (drop (i + 1) journals)) c.in_ok-push.ensures.items
          ∙ map_next (map call_mark) journals i _ c.in-Some.own c.journals.marks.items _ c.journals-test.true (found.0 ∙ ap (map call_mark) here) c.journals.invariant.made;
      low = all_next (list_all is_low) journals i _ _ c.journals-test.true c.journals.invariant.low (sym (ap (list_all is_low) here) ∙ found.1);
    }

pub returns : goal.returns
returns c = grind (arith, common_steps)
