use Rattle.std.proofs.Common.{List, ℕ, arith, sym, refl, ap, ◌∙◌, subst}
use Rattle.call_places.specs.declared.entries.Entry.{Entry}
use Rattle.call_places.specs.Entries.{own, CallsWithin}
use Rattle.call_places.specs.Orders.{last_of}
use Rattle.turn_lock.specs.Passes.{MayAdd, next_after, HeldView}
use Rattle.turn_lock.specs.Seats.{next_from}
use Rattle.turn_lock.specs.Steps.{GaveValue}
use Rattle.turn_lock.proofs.Calls.{last_below, next_is, calls_after, one_rest}
use Rattle.turn_lock.proofs.Seats.{filled, left, rests}
use Rattle.turn_lock.proofs.Steps.{passes_on}
use Rattle.turn_lock.proofs.lock.TurnLock.leave.Goals as goal

pub next_call_of-next_call-requires : goal.next_call_of-next_call-requires
next_call_of-next_call-requires g c =
    let a = c.requires.added in
    let i = c.held.inside in
    let h = subst (λ (x : HeldView g.row.V.Denot). MayAdd x.number x.next_call x.seen (g.V.Listed.entries x.value) a.0) (sym c.held.view_is) a.1 in
    λ e is mine late. last_below i.number i.next_call 4294967295 _ a.0 h.calls c.held.invariant.calls e (ap last_of (sym h.adds) ∙ is) mine late

pub store-requires : goal.store-requires
store-requires g c =
    let a = c.requires.added in
    let i = c.held.inside in
    let h = subst (λ (x : HeldView g.row.V.Denot). MayAdd x.number x.next_call x.seen (g.V.Listed.entries x.value) a.0) (sym c.held.view_is) a.1 in
    let f = filled i.seat.me c.exchange.new.seat.me i.value _ _ _ _ c.held.invariant c.exchange.ensures.3 in
    let terms = ap (λ (x : HeldView g.row.V.Denot). g.V.Listed.terms x.value) c.held.view_is ∙ c.requires.terms ∙ ap (λ l. l.terms) (sym c.requires.lock) ∙ ap (λ (x : HeldView g.row.V.Denot). x.lock.terms) (sym c.held.view_is) in (
      c.exchange.ensures.0 ∙ ap (λ (x : HeldView g.row.V.Denot). x.lock.table) c.held.view_is ∙ ap (λ l. l.table) c.requires.lock ∙ sym (ap (λ l. l.lock.table) c.self.view_is),
      omega arith,
      passes_on g.V.Listed.entries g.V.Listed.terms _ _ _ _ c.exchange.new.seat.me i.ticket i.number _ _ a.0 i.value f.holds f.parts f.slots (terms ∙ sym f.terms_are) refl h.adds h.mine,
    )

pub invariant_of-result : goal.invariant_of-result
invariant_of-result g c =
    let a = c.requires.added in
    let i = c.held.inside in
    let h = subst (λ (x : HeldView g.row.V.Denot). MayAdd x.number x.next_call x.seen (g.V.Listed.entries x.value) a.0) (sym c.held.view_is) a.1 in
    let next = c.next_call_of-next_call.ensures ∙ ap (λ l. next_from i.number i.next_call (last_of l)) h.adds ∙ next_is i.number i.next_call 4294967295 _ a.0 h.mine h.calls c.held.invariant.calls in
    let f = filled i.seat.me c.exchange.new.seat.me i.value _ _ _ _ c.held.invariant c.exchange.ensures.3 in
    let l = left g.V.Listed.entries c.exchange.new.seat.me c.wake.new.seat.me i.value _ _ _ _ _ f (subst (GaveValue g.V.Listed.entries c.exchange.new.seat.me) (sym c.wake.ensures.1) c.store.ensures.2) in
    let calls = calls_after i.number i.next_call 4294967295 _ a.0 h.mine h.calls h.rise c.held.invariant.calls in
    (rests g.V.Listed.entries c.wake.new.seat.me c.into_badge.result.views i.value i.number i.turns c.next_call_of-next_call.result _ l c.into_badge.ensures.2
    (subst (λ (x : ℕ × List Entry). CallsWithin 0 x.0 (own i.number x.1)) (λ k. (sym next k, sym h.adds k)) calls)).0

pub returns-clause-next_call : goal.returns-clause-next_call
returns-clause-next_call g c =
    let a = c.requires.added in
    let i = c.held.inside in
    let h = subst (λ (x : HeldView g.row.V.Denot). MayAdd x.number x.next_call x.seen (g.V.Listed.entries x.value) a.0) (sym c.held.view_is) a.1 in
    let next = c.next_call_of-next_call.ensures ∙ ap (λ l. next_from i.number i.next_call (last_of l)) h.adds ∙ next_is i.number i.next_call 4294967295 _ a.0 h.mine h.calls c.held.invariant.calls in
    λ added is. next ∙ ap (λ l. next_after i.next_call l) (one_rest _ a.0 added (sym a.1.adds ∙ is)) ∙ ap (λ (x : HeldView g.row.V.Denot). next_after x.next_call added) c.held.view_is
