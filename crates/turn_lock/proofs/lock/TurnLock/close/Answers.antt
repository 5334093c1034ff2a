use Rattle.std.proofs.Common.{◌≡◌, ◌++◌, [], ◌∷◌, List, length, sym, refl, ap, ◌∙◌, subst, arith, append_assoc, All}
use Rattle.turn_lock.specs.Views.{part}
use Rattle.turn_lock.specs.Passes.{PassView, PassListView, LockView, AllOf, IsShown, NoOthers}
use Rattle.turn_lock.proofs.Ends.{joins}
use Rattle.turn_lock.proofs.Closing.{AllOf-split, closes, closes_with, not_none}
use Rattle.turn_lock.proofs.lock.TurnLock.close.Goals as goal

pub join_seat-requires : goal.join_seat-requires
join_seat-requires g c =
    let i = c.loop-pass.invariant in
    let lock = c.args.self.lock in
    let id = ap (λ (l : LockView). l.lock.table) c.self.view_is in
    let t = i.3.0 in
    let all = subst (AllOf lock) i.3.2 c.requires.lock in
    let all_first = subst (AllOf lock) (sym (ap (λ (p : PassListView). p.passes) c.passes.view_is) ∙ c.in-Some.ensures.items) c.requires.lock in
    let first = AllOf-split lock _ c.in-Some.first [] all_first in
    let here = AllOf-split lock c.pop-in-loop-pass.new.self.items c.in-Some-pop.pass (i.3.1 ∷ t) (subst (AllOf lock) (ap (λ l. l ++ i.3.1 ∷ t) c.in-Some-pop.ensures.items ∙ append_assoc c.pop-in-loop-pass.new.self.items (c.in-Some-pop.pass ∷ []) (i.3.1 ∷ t)) all) in
    let s = c.into_seat.ensures in (
      i.0 ∙ c.into_seat-seat.ensures.0 ∙ ap (λ l. l.table) first ∙ sym id,
      s.0 ∙ ap (λ l. l.table) here ∙ sym id,
      s.1,
      omega arith,
      joins g.V.Listed.entries g.V.Listed.terms _ _ c.loop-pass.seat.id c.loop-pass.seat.me.0 c.into_seat.result.id c.into_seat.result.me.0 i.2 s.2 (omega (arith, ap length i.3.3)),
    )

pub loop-pass-preserved : goal.loop-pass-preserved
loop-pass-preserved g c =
    let i = c.loop-pass.invariant in
    let more = i.3.1 ∷ i.3.0 in
    let joined = c.join_seat.ensures in (
      joined.0 ∙ i.0,
      ap (λ m. m.1) joined.2 ∙ i.1,
      ap (λ m. m.0.phase) joined.2,
      (
        more,
        c.in-Some-pop.pass,
        i.3.2 ∙ ap (λ l. l ++ more) c.in-Some-pop.ensures.items ∙ append_assoc c.pop-in-loop-pass.new.self.items (c.in-Some-pop.pass ∷ []) more,
        ap (λ m. m.0.parts) joined.2 ∙ ap (λ parts. parts ++ c.loop-pass.seat.me.0.parts) c.into_seat.ensures.3
            ∙ ap (λ parts. part c.in-Some-pop.pass.number c.in-Some-pop.pass.seen ∷ parts) i.3.3,
      ),
    )

pub close_with-closed-requires : goal.close_with-closed-requires
close_with-closed-requires g c =
    let i = c.loop-pass.invariant in
    let lock = c.args.self.lock in
    let id = ap (λ (l : LockView). l.lock.table) c.self.view_is in
    let all_first = subst (AllOf lock) (sym (ap (λ (p : PassListView). p.passes) c.passes.view_is) ∙ c.in-Some.ensures.items) c.requires.lock in
    let first = AllOf-split lock _ c.in-Some.first [] all_first in
    i.0 ∙ c.into_seat-seat.ensures.0 ∙ ap (λ l. l.table) first ∙ sym id

empty_list : (xs : List PassView) → length xs ≡ 0 → xs ≡ []
empty_list [] e = refl
empty_list (x ∷ xs) e = absurd (omega arith)

pub unreachable-requires-in-None : goal.unreachable-requires-in-None
unreachable-requires-in-None g c =
    let i = c.loop-pass.invariant in
    let lock = c.args.self.lock in
    let taken = i.3.1 ∷ i.3.0 in
    let none_left : c.loop-pass.passes.items ≡ [] = empty_list _ (omega (arith, c.in_default-pop.ensures.cases.0)) in
    let all : c.args.passes.passes ≡ taken = i.3.2 ∙ ap (λ l. l ++ taken) none_left in
    let passes = ap (λ (l : LockView). l.passes) c.self.view_is in
    not_none g.V.Listed.entries g.V.Listed.terms lock taken c.take-value.result
    (closes g.V.Listed.entries g.V.Listed.terms lock c.self.inside.table.shared.key.passes c.loop-pass.seat.id _ c.loop-pass.seat.me.0 _ _ taken c.take-value.result
    (ap (λ (l : LockView). l.lock.terms) c.self.view_is) i.2 i.3.3 (ap length (sym all) ∙ c.requires.all ∙ sym passes) c.close_with-closed.ensures.values.2 c.take-value.ensures.value)
    c.in-None.is

pub returns : goal.returns
returns g c =
    let i = c.loop-pass.invariant in
    let lock = c.args.self.lock in
    let taken = i.3.1 ∷ i.3.0 in
    let none_left : c.loop-pass.passes.items ≡ [] = empty_list _ (omega (arith, c.in_default-pop.ensures.cases.0)) in
    let all : c.args.passes.passes ≡ taken = i.3.2 ∙ ap (λ l. l ++ taken) none_left in
    let passes = ap (λ (l : LockView). l.passes) c.self.view_is in
    let value = c.in-Some-value.value in
    let w = closes_with g.V.Listed.entries g.V.Listed.terms lock taken c.take-value.result value
    (closes g.V.Listed.entries g.V.Listed.terms lock c.self.inside.table.shared.key.passes c.loop-pass.seat.id _ c.loop-pass.seat.me.0 _ _ taken c.take-value.result
    (ap (λ (l : LockView). l.lock.terms) c.self.view_is) i.2 i.3.3 (ap length (sym all) ∙ c.requires.all ∙ sym passes) c.close_with-closed.ensures.values.2 c.take-value.ensures.value)
    c.in-Some-value.is in record {
      terms = w.terms_are;
      shown = subst (All (IsShown (g.V.Listed.entries value))) (sym all) w.shown;
      others = subst (NoOthers (g.V.Listed.entries value)) (sym all) w.others;
    }
