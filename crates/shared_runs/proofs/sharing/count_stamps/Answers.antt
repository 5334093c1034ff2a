use Rattle.std.proofs.Common.{◌≡◌, ◌∷◌, List, length, Option, Some, sym, ap, ◌∙◌, subst, arith}
use Rattle.std.specs.Prelude.{IfSome, sum}
use Rattle.stamp_counter.specs.Seats.{SeatView, fresh_seat, fresh_seats}
use Rattle.std.proofs.lemmas.List.{length-map}
use Rattle.shared_runs.proofs.Seats.{both_parts, first_seats, some_taken, sum_shares}
use Rattle.shared_runs.proofs.sharing.count_stamps.Goals as goal

-- the seat that was taken is the first of those that were there
taken_is : (o : Option SeatView) (s : SeatView) (old new : List SeatView) → o ≡ Some s
    → IfSome o (λ x. old ≡ x ∷ new) → old ≡ s ∷ new
taken_is o s old new is taken =
    subst (λ (p : Option SeatView). IfSome p (λ x. old ≡ x ∷ new)) is taken

pub new-requires-clause-count : goal.new-requires-clause-count
new-requires-clause-count c =
    let all = c.args.all.now in
    let size = ap length (c.deref.ensures.value ∙ c.in_ok-shares.ensures) in
    let sums = length-map all sum in
    let few = c.requires.few in
    (omega arith, omega arith)

pub new-requires-clause-sum : goal.new-requires-clause-sum
new-requires-clause-sum c =
    let given = c.deref.ensures.value ∙ c.in_ok-shares.ensures in
    let most = c.requires.others in
    omega (arith, ap sum given, sum_shares c.args.all.now c.args.others, c.requires.sum)

pub unwrap-seat-requires : goal.unwrap-seat-requires
unwrap-seat-requires c =
    let given = c.deref.ensures.value ∙ c.in_ok-shares.ensures in
    some_taken c.take.result c.in_ok-counter.seats _ _ c.take.ensures.none.0
    (c.in_ok-counter.ensures.seats ∙ ap (fresh_seats c.in_ok-counter.counter.id) given)

pub unwrap-other-requires : goal.unwrap-other-requires
unwrap-other-requires c =
    let given = c.deref.ensures.value ∙ c.in_ok-shares.ensures in
    let id = c.in_ok-counter.counter.id in
    let first = both_parts c.unwrap-seat.result (fresh_seat id 0) c.take.new.self _
    (sym (taken_is c.take.result c.unwrap-seat.result c.in_ok-counter.seats c.take.new.self
    c.unwrap-seat.ensures c.take.ensures.taken) ∙ c.in_ok-counter.ensures.seats ∙ ap (fresh_seats id) given) in
    some_taken c.take-2.result c.take.new.self _ _ c.take-2.ensures.none.0 first.1

pub returns : goal.returns
returns c =
    let all = c.args.all.now in
    let given = c.deref.ensures.value ∙ c.in_ok-shares.ensures in
    let seats = first_seats c.in_ok-counter.counter.id c.deref.result.now all c.args.others
    c.in_ok-counter.seats c.take.new.self c.take-2.new.self c.unwrap-seat.result
    c.unwrap-other.result c.in_ok-counter.ensures.seats given
    (taken_is c.take.result c.unwrap-seat.result c.in_ok-counter.seats c.take.new.self
    c.unwrap-seat.ensures c.take.ensures.taken)
    (taken_is c.take-2.result c.unwrap-other.result c.take.new.self c.take-2.new.self
    c.unwrap-other.ensures c.take-2.ensures.taken) in
    record {
      all_is = c.in_ok-counter.ensures.all ∙ ap sum given ∙ sum_shares all c.args.others;
      seat_is = seats.0;
      other_is = seats.1;
      seats_are = seats.2;
    }
