use Rattle.turn_lock.proofs.Apart.{turn_is_given_out, one_holds, one_waits, one_has_number}
use Rattle.turn_lock.proofs.laws.the_rule_tells_seats_apart.Goals as goal

pub returns : goal.returns
returns g c = record {
  turn = turn_is_given_out g.V.Listed.entries g.V.Listed.terms;
  holder = one_holds g.V.Listed.entries g.V.Listed.terms;
  ticket = one_waits g.V.Listed.entries g.V.Listed.terms;
  number = one_has_number g.V.Listed.entries g.V.Listed.terms;
}
