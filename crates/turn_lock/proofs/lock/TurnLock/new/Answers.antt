use Rattle.std.proofs.Common.{◌≡◌, [], ◌∷◌, ◌++◌, List, Some, sym, ap, ◌∙◌, subst, arith}
use Rattle.std.specs.Prelude.{Option}
use Rattle.atomic_table.specs.Table.{opening}
use Rattle.turn_lock.specs.Rule.{Kept}
use Rattle.turn_lock.specs.Steps.{first_view}
use Rattle.turn_lock.proofs.Ends.{begins}
use Rattle.turn_lock.proofs.lock.TurnLock.new.Goals as goal

pub new-requires : goal.new-requires
new-requires g c =
    let slots : c.push.new.self.items ≡ Some c.args.value ∷ [] = c.in_ok-push.ensures.items ∙ ap (λ (l : List (Option g.row.V.Denot)). l ++ Some c.args.value ∷ []) c.new-slots.ensures.items in
    subst (λ (l : List (Option g.row.V.Denot)). Kept g.V.Listed.entries g.V.Listed.terms c.from.result (g.V.Listed.terms c.of.result.value) (opening (0 ∷ 0 ∷ 0 ∷ []) l (first_view (g.V.Listed.terms c.of.result.value)))) (sym slots)
    (begins g.V.Listed.entries g.V.Listed.terms c.from.result _ c.args.value c.requires.empty (ap g.V.Listed.terms (sym c.of.ensures)) (omega arith) (omega arith))
