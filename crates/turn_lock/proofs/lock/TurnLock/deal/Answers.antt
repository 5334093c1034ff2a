use Rattle.std.proofs.Common.{◌≡◌, ◌+◌, ◌-◌, ◌++◌, [], ◌∷◌, length, suc, take, drop, vec_len, sym, ap, ◌∙◌, arith}
use Rattle.std.specs.Prelude.{Option}
use Rattle.atomic_table.specs.Table.{Me}
use Rattle.turn_lock.specs.declared.views.View.{View}
use Rattle.turn_lock.specs.Views.{parts_of}
use Rattle.turn_lock.specs.Steps.{staying_view}
use Rattle.turn_lock.specs.Passes.{fresh_from, fresh_pass, LockView}
use Rattle.turn_lock.specs.Seats.{terms_of}
use Rattle.turn_lock.proofs.Steps.{forks}
use Rattle.turn_lock.proofs.Dealing.{fresh_from-next, length-fresh_from, to_front, fresh_of}
use Rattle.turn_lock.proofs.lock.TurnLock.deal.Goals as goal

pub split_seat-requires : goal.split_seat-requires
split_seat-requires g c =
    let i = c.loop-number.invariant in
    let v = ap (λ (m : Me (Option g.row.V.Denot) View). m.0) i.1 in
    let passes = ap (λ (l : LockView). l.passes) c.self.view_is in
    let made = ap (λ (y : View). y.made) v in (
      i.0 ∙ sym (ap (λ (l : LockView). l.lock.table) c.self.view_is),
      omega arith,
      forks g.V.Listed.entries g.V.Listed.terms _ _ c.loop-number.seat.id c.loop-number.seat.me.0 (ap (λ (y : View). y.phase) v) (ap (λ (y : View). y.makes) v) (omega arith) (omega (arith, ap parts_of v)),
    )

pub push_reserved-requires : goal.push_reserved-requires
push_reserved-requires g c =
    let i = c.loop-number.invariant in
    let a = ap length i.2 in let b = length-fresh_from c.args.self.now.lock 1 (c.loop-number.number - 1) in
    omega arith

pub loop-number-preserved : goal.loop-number-preserved
loop-number-preserved g c =
    let i = c.loop-number.invariant in
    let sp = c.split_seat.ensures in
    let badge = c.into_badge-badge.ensures in
    let lock = c.args.self.now.lock in
    let right = badge.2 ∙ ap (λ (m : Me (Option g.row.V.Denot) View). m.0 ∷ []) sp.4 in
    let made = ap (λ (m : Me (Option g.row.V.Denot) View). m.0.terms) i.1 in
    let new = fresh_of lock c.fresh.result c.into_badge-badge.result.table_id c.into_badge-badge.result.views c.loop-number.number c.fresh.ensures (badge.0 ∙ sp.3 ∙ i.0) (ap terms_of right ∙ made) in
    let next : c.loop-number.number - 1 + 1 ≡ c.loop-number.number + 1 - 1 = omega arith in
    let at : 1 + (c.loop-number.number - 1) ≡ c.loop-number.number = omega arith in (
      sp.0 ∙ i.0,
      sp.2 ∙ ap (λ (m : Me (Option g.row.V.Denot) View). (staying_view m.0, m.1)) i.1,
      c.push_reserved.ensures.items ∙ (λ k. i.2 k ++ new k ∷ []) ∙ ap (λ n. fresh_from lock 1 (c.loop-number.number - 1) ++ fresh_pass lock n ∷ []) (sym at) ∙ sym (fresh_from-next lock 1 (c.loop-number.number - 1)) ∙ ap (fresh_from lock 1) next,
      omega (arith, c.push_reserved.ensures.capacity, i.3),
    )

pub push_reserved-requires-2 : goal.push_reserved-requires-2
push_reserved-requires-2 g c =
    let i = c.loop-number.invariant in
    let a = ap length i.2 in let b = length-fresh_from c.args.self.now.lock 1 (c.loop-number.number - 1) in
    omega arith

pub returns : goal.returns
returns g c =
    let i = c.loop-number.invariant in
    let badge = c.into_badge.ensures in
    let lock = c.args.self.now.lock in
    let right = badge.2 ∙ ap (λ (m : Me (Option g.row.V.Denot) View). m.0 ∷ []) i.1 in
    let new = fresh_of lock c.fresh-2.result c.into_badge.result.table_id c.into_badge.result.views 0 c.fresh-2.ensures (badge.0 ∙ i.0) (ap terms_of right) in
    let all : c.push_reserved-2.new.self.items ≡ fresh_from lock 1 (c.loop-number.number - 1) ++ fresh_pass lock 0 ∷ [] = c.push_reserved-2.ensures.items ∙ (λ k. i.2 k ++ new k ∷ []) in
    let a = ap length i.2 in let b = length-fresh_from lock 1 (c.loop-number.number - 1) in
    let n : vec_len c.push_reserved-2.new.self - 1 ≡ length (fresh_from lock 1 (c.loop-number.number - 1)) = omega (arith, c.push_reserved-2.ensures.len) in
    let turned = to_front (fresh_from lock 1 (c.loop-number.number - 1)) (fresh_pass lock 0) (vec_len c.push_reserved-2.new.self - 1) n in
    let whole : suc (c.loop-number.number - 1) ≡ c.args.passes = omega arith in (
      c.rotate_right.ensures.items ∙ ap (λ l. drop (vec_len c.push_reserved-2.new.self - 1) l ++ take (vec_len c.push_reserved-2.new.self - 1) l) all ∙ turned ∙ ap (fresh_from lock 0) whole,
      omega (arith, c.rotate_right.ensures.capacity, c.push_reserved-2.ensures.capacity, i.3),
    )
