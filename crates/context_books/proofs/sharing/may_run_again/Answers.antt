use Rattle.std.proofs.Common.{◌≡◌, ◌<◌, ◌≤◌, true, false, length, refl, sym, ◌∙◌, subst, arith, inl, inr}
use Rattle.std.proofs.lemmas.Bool.{cases_lt}
use Rattle.context_books.specs.Sharing.{Seals, NoOtherSeals}
use Rattle.context_books.proofs.sharing.may_run_again.Goals as goal

pub returns-then-not-seals_alone : goal.returns-then-not-seals_alone
returns-then-not-seals_alone c = (
  λ e. absurd (let f : false ≡ true = e in cc),
  λ all.
      let low = subst (λ contexts. c.contexts.at < length contexts) c.as_slice-at-end.ensures.items
      c.contexts-test.true in
      sym c.if-not-seals_alone.true ∙ c.seals_alone.ensures.1 (λ lane. all c.contexts.at lane low),
)

pub contexts-preserved : goal.contexts-preserved
contexts-preserved c k lane low = elim (cases_lt k c.contexts.at) [
  | inl before ↦ c.contexts.invariant k lane before
  | inr high ↦
      (let same : k ≡ c.contexts.at = omega arith in
      subst (λ at. Seals c.args.plan.now at lane → NoOtherSeals c.args.plan.now at lane) (sym same)
      (c.seals_alone.ensures.0 c.if-not-seals_alone.false lane))
]

pub returns : goal.returns
returns c = (
  λ e at lane low. c.contexts.invariant at lane
      (let end = subst (λ contexts. length contexts ≤ c.contexts.at) c.as_slice-at-end.ensures.items
      c.contexts-test.false in omega arith),
  λ all. refl,
)
