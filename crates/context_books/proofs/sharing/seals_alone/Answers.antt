use Rattle.std.proofs.Common.{◌≡◌, true, false, sym, ◌∙◌, subst, arith, inl, inr}
use Rattle.std.specs.List.{list_any}
use Rattle.std.proofs.lemmas.Bool.{cases_lt}
use Rattle.std.proofs.lemmas.Grind.{common_steps}
use Rattle.context_books.specs.LaneCalls.{lane_calls}
use Rattle.context_books.specs.Sharing.{Seals, NoOtherSeals, seals_on}
use Rattle.context_books.proofs.sharing.seals_alone.Goals as goal
use Rattle.context_books.proofs.sharing.seals_alone.Goals.{else-seals-via-then-seals+else-not-no_other_seals, else-seals-via-else-seals}

clash : {X : Type 0} → false ≡ true → X
clash e = absurd (let f : false ≡ true = e in cc)

pub returns-then-not-no_other_seals : goal.returns-then-not-no_other_seals
returns-then-not-no_other_seals c = (
  clash,
  λ all.
      let seals : Seals c.args.plan.now c.args.at c.lanes.lane = grind (arith, common_steps) in
      sym c.if-not-no_other_seals.true ∙ c.no_other_seals.ensures.1 (all c.lanes.lane seals),
)

pub lanes-preserved : goal.lanes-preserved
lanes-preserved c k low seals = elim (cases_lt k c.lanes.lane) [
  | inl before ↦ c.lanes.invariant k before seals
  | inr high ↦
      (let same : k ≡ c.lanes.lane = omega arith in
      elim c.else-seals.branch [
        | else-seals-via-then-seals+else-not-no_other_seals w ↦
            subst (NoOtherSeals c.args.plan.now c.args.at) (sym same)
            (w.no_other_seals.ensures.0 w.if-not-no_other_seals.false)
        | else-seals-via-else-seals w ↦
            (let silent : false
            ≡ list_any (seals_on c.args.plan.now c.args.at) (lane_calls c.args.plan.now c.lanes.lane) =
            (let none = w.if-seals.false in grind (arith, common_steps)) in
            clash (silent ∙ subst (Seals c.args.plan.now c.args.at) same seals))
      ])
]
