use Rattle.std.proofs.Common.{◌≡◌, ◌++◌, ◌∷◌, sym, ap, ◌∙◌, arith, Some}
use Rattle.std.specs.Prelude.{Option}
use Rattle.atomic_table.specs.Table.{rest}
use Rattle.call_places.specs.Entries.{own}
use Rattle.turn_lock.specs.Seats.{seen_in}
use Rattle.turn_lock.proofs.Seats.{idles, waits_now, takes, holds_now, others_added, value_is, not_empty, slot_is}
use Rattle.turn_lock.proofs.Steps.{looks}
use Rattle.turn_lock.proofs.lock.TurnLock.enter.Goals as goal

pub take_ticket-ticket-requires-clause-table : goal.take_ticket-ticket-requires-clause-table
take_ticket-ticket-requires-clause-table g c = c.into_seat-seat.ensures.0 ∙ ap (λ p. p.lock.table) c.pass.view_is ∙ ap (λ l. l.table) c.requires.lock

pub take_ticket-ticket-requires-clause-seat : goal.take_ticket-ticket-requires-clause-seat
take_ticket-ticket-requires-clause-seat g c =
    let seat = c.into_seat-seat.ensures in
    let v = idles c.into_seat-seat.result.me.0 _ _ _ _ seat.2 c.pass.invariant in
    let turns : c.pass.inside.turns ≡ c.args.pass.turns = ap (λ p. p.turns) c.pass.view_is in record {
      number = _;
      seen = _;
      idle = v.idle;
      parts = v.parts;
      more_turns = omega (arith, v.turns_are, c.requires.turns);
    }

pub load-requires : goal.load-requires
load-requires g c =
    let seat = c.into_seat-seat.ensures in
    let v = idles c.into_seat-seat.result.me.0 _ _ _ _ seat.2 c.pass.invariant in
    let w = waits_now _ _ _ _ _ _ v seat.3 c.take_ticket-ticket.ensures.took in
    let i = c.loop.invariant in (
      i.0 ∙ c.take_ticket-ticket.ensures.table ∙ seat.0 ∙ ap (λ p. p.lock.table) c.pass.view_is ∙ ap (λ l. l.table) c.requires.lock ∙ sym (ap (λ l. l.lock.table) c.self.view_is),
      omega arith,
      looks g.V.Listed.entries g.V.Listed.terms _ _ _ _ c.loop.seat.me _ _ _ (ap (λ m. m.0.phase) i.1 ∙ w.waits) (ap (λ m. m.0.parts) i.1 ∙ w.parts),
    )

pub exchange-requires : goal.exchange-requires
exchange-requires g c =
    let seat = c.into_seat-seat.ensures in
    let i = c.loop.invariant in
    let t = takes g.V.Listed.entries g.V.Listed.terms c.into_seat-seat.result.me c.take_ticket-ticket.new.seat.me c.loop.seat.me c.load.new.seat.me _ _ _ _ _ _ seat.2 c.pass.invariant seat.3 c.take_ticket-ticket.ensures.took c.loop.invariant.1 c.if-load-ticket.true c.load.ensures.2 in (
      c.load.ensures.0 ∙ i.0 ∙ c.take_ticket-ticket.ensures.table ∙ seat.0 ∙ ap (λ p. p.lock.table) c.pass.view_is ∙ ap (λ l. l.table) c.requires.lock ∙ sym (ap (λ l. l.lock.table) c.self.view_is),
      (Some t.value, slot_is c.load.new.seat.me t.value t.slots),
    )

pub invariant_of-result : goal.invariant_of-result
invariant_of-result g c =
    let seat = c.into_seat-seat.ensures in
    let t = takes g.V.Listed.entries g.V.Listed.terms c.into_seat-seat.result.me c.take_ticket-ticket.new.seat.me c.loop.seat.me c.load.new.seat.me _ _ _ _ _ _ seat.2 c.pass.invariant seat.3 c.take_ticket-ticket.ensures.took c.loop.invariant.1 c.if-load-ticket.true c.load.ensures.2 in
    let turns : c.pass.inside.turns ≡ c.args.pass.turns = ap (λ p. p.turns) c.pass.view_is in
    holds_now g.V.Listed.entries g.V.Listed.terms _ _ _ _ _ _ _ _ t c.exchange.ensures.3 (omega (arith, c.requires.turns)) c.take_ticket-ticket.ensures.took.0 c.pass.invariant.calls

pub returns-in-Some-exchange-clause-pass : goal.returns-in-Some-exchange-clause-pass
returns-in-Some-exchange-clause-pass g c =
    let seat = c.into_seat-seat.ensures in
    let t = takes g.V.Listed.entries g.V.Listed.terms c.into_seat-seat.result.me c.take_ticket-ticket.new.seat.me c.loop.seat.me c.load.new.seat.me _ _ _ _ _ _ seat.2 c.pass.invariant seat.3 c.take_ticket-ticket.ensures.took c.loop.invariant.1 c.if-load-ticket.true c.load.ensures.2 in
    let held = c.exchange.ensures in
    let table = held.0 ∙ c.load.ensures.0 ∙ c.loop.invariant.0 ∙ c.take_ticket-ticket.ensures.table ∙ seat.0 ∙ ap (λ p. p.lock.table) c.pass.view_is in
    let terms = ap (λ m. m.0.terms) held.3 ∙ t.view_terms ∙ ap (λ p. p.lock.terms) c.pass.view_is in record {
      lock = λ k. record { table = table k; terms = terms k };
      number = ap (λ p. p.number) c.pass.view_is;
      turns = ap (λ p. p.turns) c.pass.view_is;
      next_call = ap (λ p. p.next_call) c.pass.view_is;
    }

pub returns-in-Some-exchange-clause-seen : goal.returns-in-Some-exchange-clause-seen
returns-in-Some-exchange-clause-seen g c =
    let seat = c.into_seat-seat.ensures in
    let t = takes g.V.Listed.entries g.V.Listed.terms c.into_seat-seat.result.me c.take_ticket-ticket.new.seat.me c.loop.seat.me c.load.new.seat.me _ _ _ _ _ _ seat.2 c.pass.invariant seat.3 c.take_ticket-ticket.ensures.took c.loop.invariant.1 c.if-load-ticket.true c.load.ensures.2 in
    let held = c.exchange.ensures in
    let same = value_is c.load.new.seat.me t.value c.in-Some-exchange.value t.slots (held.2 ∙ ap (λ (x : Option g.row.V.Denot). (0, x) ∷ rest c.load.new.seat.me.1) c.in-Some-exchange.is) in
    ap (λ m. seen_in m.0.parts) held.3 ∙ ap seen_in t.parts ∙ ap g.V.Listed.entries same

pub returns-in-Some-exchange-clause-others : goal.returns-in-Some-exchange-clause-others
returns-in-Some-exchange-clause-others g c =
    let seat = c.into_seat-seat.ensures in
    let t = takes g.V.Listed.entries g.V.Listed.terms c.into_seat-seat.result.me c.take_ticket-ticket.new.seat.me c.loop.seat.me c.load.new.seat.me _ _ _ _ _ _ seat.2 c.pass.invariant seat.3 c.take_ticket-ticket.ensures.took c.loop.invariant.1 c.if-load-ticket.true c.load.ensures.2 in
    let held = c.exchange.ensures in
    let same = value_is c.load.new.seat.me t.value c.in-Some-exchange.value t.slots (held.2 ∙ ap (λ (x : Option g.row.V.Denot). (0, x) ∷ rest c.load.new.seat.me.1) c.in-Some-exchange.is) in
    let number = ap (λ p. p.number) c.pass.view_is in
    let seen = ap (λ p. p.seen) c.pass.view_is in
    let added = others_added _ _ _ t.begins t.whole in
    (added.0, ap g.V.Listed.entries (sym same) ∙ added.1 ∙ ap (λ l. l ++ added.0) seen, ap (λ k. own k added.0) (sym number) ∙ added.2)

pub returns-in-Some-exchange-clause-terms : goal.returns-in-Some-exchange-clause-terms
returns-in-Some-exchange-clause-terms g c =
    let seat = c.into_seat-seat.ensures in
    let t = takes g.V.Listed.entries g.V.Listed.terms c.into_seat-seat.result.me c.take_ticket-ticket.new.seat.me c.loop.seat.me c.load.new.seat.me _ _ _ _ _ _ seat.2 c.pass.invariant seat.3 c.take_ticket-ticket.ensures.took c.loop.invariant.1 c.if-load-ticket.true c.load.ensures.2 in
    let same = value_is c.load.new.seat.me t.value c.in-Some-exchange.value t.slots (c.exchange.ensures.2 ∙ ap (λ (x : Option g.row.V.Denot). (0, x) ∷ rest c.load.new.seat.me.1) c.in-Some-exchange.is) in
    ap g.V.Listed.terms (sym same) ∙ t.terms_are ∙ ap (λ p. p.lock.terms) c.pass.view_is ∙ ap (λ l. l.terms) c.requires.lock

pub unreachable-requires : goal.unreachable-requires
unreachable-requires g c =
    let seat = c.into_seat-seat.ensures in
    let t = takes g.V.Listed.entries g.V.Listed.terms c.into_seat-seat.result.me c.take_ticket-ticket.new.seat.me c.loop.seat.me c.load.new.seat.me _ _ _ _ _ _ seat.2 c.pass.invariant seat.3 c.take_ticket-ticket.ensures.took c.loop.invariant.1 c.if-load-ticket.true c.load.ensures.2 in
    not_empty c.load.new.seat.me t.value t.slots (c.exchange.ensures.2 ∙ ap (λ (x : Option g.row.V.Denot). (0, x) ∷ rest c.load.new.seat.me.1) c.in-None-exchange.is)
