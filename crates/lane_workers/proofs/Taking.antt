-- What a lane takes into a turn is what it has.
use Rattle.std.proofs.Common.{◌≡◌, ℕ, Option, Some, Bor, sym, ap, ◌∙◌, subst}
use Rattle.std.specs.Prelude.{slice_index_or}
use Rattle.turn_lock.specs.Passes.{PassView}
use Rattle.stamp_counter.specs.Seats.{SeatView, CounterView}
use Rattle.shared_context.specs.Calls.{SharedView, MayCall}
use Rattle.shared_context.specs.Stamped.{IsNote}
use Rattle.lane_workers.specs.declared.works.LaneWork.{LaneWork}
use Rattle.lane_workers.specs.Turns.{CanTurn}
use Rattle.lane_workers.proofs.Found.{read_here, one_of}

module _ {w : LaneWork} {s : SharedView} {counter : Option (Bor CounterView)} {number call count : ℕ}
    (t : CanTurn w s counter number call count) where
  -- the pass that was in its slot
  pub pass_taken : {slot taken : Option PassView} → slot ≡ slice_index_or w.passes.items number slot
      → taken ≡ slot → taken ≡ Some t.pass
  pass_taken {slot} {taken} at took = took ∙ at ∙ read_here w.passes.items number slot t.pass t.holds

  pub may_take : (p : PassView) → Some p ≡ Some t.pass → MayCall s.lock p call count
  may_take p is = subst (λ (q : PassView). MayCall s.lock q call count) (sym (one_of p t.pass is)) t.may

  one_of_stamps : (x : Bor CounterView) → counter ≡ Some x → t.stamps ≡ x
  one_of_stamps x is = one_of t.stamps x (sym t.counter_is ∙ is)

  pub counter_taken : (x : Bor CounterView) → counter ≡ Some x → s.lock.terms.counter ≡ x.now.id
  counter_taken x is = t.same ∙ ap (λ (y : Bor CounterView). y.now.id) (one_of_stamps x is)

  pub note_taken : (x : Bor CounterView) (seat : SeatView) → counter ≡ Some x → w.seat ≡ Some seat
      → IsNote x.now.id seat
  note_taken x seat is has =
      subst (λ (y : Bor CounterView). IsNote y.now.id seat) (one_of_stamps x is)
      (subst (λ (z : SeatView). IsNote t.stamps.now.id z) (one_of t.seat seat (sym t.has ∙ has)) t.note)
