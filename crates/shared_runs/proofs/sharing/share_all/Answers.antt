use Rattle.std.proofs.Common.{◌≡◌, ◌+◌, ◌<◌, ◌≤◌, ◌++◌, ◌∷◌, [], ℕ, List, length, map, Option, None, sym, refl, ap, ◌∙◌, subst, arith, get_or-set_other, get_or, length-append}
use Rattle.std.specs.Prelude.{sum}
use Rattle.std.proofs.lemmas.List.{length-set}
use Rattle.stamp_counter.specs.Seats.{SeatView, fresh_seats}
use Rattle.turn_lock.specs.Passes.{PassListView}
use Rattle.hpke_context.specs.Contexts.{ContextView}
use Rattle.shared_context.specs.Calls.{SharedView}
use Rattle.context_books.specs.Standing.{standing_at}
use Rattle.lane_workers.specs.Turns.{shared_at}
use Rattle.lane_workers.specs.Handing.{list_at}
use Rattle.lane_workers.proofs.Handing.{found_here}
use Rattle.shared_runs.specs.Sharing.{Shares}
use Rattle.shared_runs.proofs.Ends.{at_end, at_front, one_more}
use Rattle.shared_runs.proofs.Seats.{next_seat, some_seat}
use Rattle.shared_runs.proofs.sharing.share_all.Goals as goal

pub unreachable-requires : goal.unreachable-requires
unreachable-requires c =
    let t = c.requires.seats in
    let size = c.requires.count in
    let low = c.contexts-test.true in
    some_seat t.0 c.args.all.now c.contexts.number (omega arith) c.contexts.seats
    (c.contexts.invariant.seats t.0 t.1) (c.in_default.ensures.none.0 refl)

pub share-requires : goal.share-requires
share-requires c =
    let t = c.requires.seats in
    let all = c.args.all.now in
    let n = c.contexts.number in
    let low : n < length all =
    (let size = c.requires.count in let a = c.contexts-test.true in omega arith) in
    let quotas : c.as_slice.result.now ≡ get_or all n [] =
    c.as_slice.ensures.items ∙ found_here all n c.index-all-number.result [] low c.index-all-number.is in
    let seat = (next_seat t.0 all n low c.contexts.seats c.take.new.self c.in-Some.seat
    (c.contexts.invariant.seats t.0 t.1) c.in-Some.ensures.taken).0 in
    let lanes = c.requires.lanes n [] low in
    record {
      some = subst (λ q. 0 < length q) (sym quotas) lanes.0;
      few = subst (λ q. length q < 65536) (sym quotas) lanes.1;
      most = subst (λ q. sum q ≤ 65536) (sym quotas) (c.requires.sums n [] low);
      drawn = ap (λ (s : SeatView). s.drawn) seat;
      left = ap (λ (s : SeatView). s.left) seat ∙ ap sum (sym quotas);
    }

pub contexts-preserved : goal.contexts-preserved
contexts-preserved c =
    let i = c.contexts.invariant in
    let all = c.args.all.now in
    let n = c.contexts.number in
    let contexts = c.args.contexts.now in
    let low : n < length all =
    (let size = c.requires.count in let a = c.contexts-test.true in omega arith) in
    let there : n < length c.contexts.contexts =
    (let size = c.contexts.auto.contexts in let a = c.contexts-test.true in omega arith) in
    let quotas : c.as_slice.result.now ≡ get_or all n [] =
    c.as_slice.ensures.items ∙ found_here all n c.index-all-number.result [] low c.index-all-number.is in
    let context : c.take-in-contexts.result ≡ standing_at contexts n =
    c.take-in-contexts.ensures.value ∙ sym c.index-contexts-number.is
    ∙ found_here c.contexts.contexts n c.index-contexts-number.result None there
    c.index-contexts-number.is
    ∙ i.left n (omega arith) in
    let one = c.push_reserved.ensures in
    let list = c.push_reserved-in-contexts.ensures in
    let here : shared_at c.push_reserved.new.self.items n ≡ c.in_ok-one.one =
    ap (λ (xs : List (Option SharedView)). shared_at xs n) one.items
    ∙ ap (shared_at (c.contexts.shared.items ++ c.in_ok-one.one ∷ [])) (sym i.count)
    ∙ at_end c.contexts.shared.items [] c.in_ok-one.one None in
    let list_here : list_at c.push_reserved-in-contexts.new.self.items n ≡ c.in_ok-one.list =
    ap (λ (xs : List (Option PassListView)). list_at xs n) list.items
    ∙ ap (list_at (c.contexts.passes.items ++ c.in_ok-one.list ∷ [])) (sym i.lists_count)
    ∙ at_end c.contexts.passes.items [] c.in_ok-one.list None in
    let next = λ (counter : List ℕ) (is : c.args.seats.now ≡ fresh_seats counter (map sum all)).
    next_seat counter all n low c.contexts.seats c.take.new.self c.in-Some.seat
    (i.seats counter is) c.in-Some.ensures.taken in
    let size : length c.contexts.shared.items ≡ n = i.count in
    let lists_size : length c.contexts.passes.items ≡ n = i.lists_count in
    record {
      done = λ counter is. one_more (λ k. Shares (standing_at contexts k) (get_or all k []) counter
          (shared_at c.push_reserved.new.self.items k)
          (list_at c.push_reserved-in-contexts.new.self.items k)) n
          (λ k less.
          let before : shared_at c.push_reserved.new.self.items k ≡ shared_at c.contexts.shared.items k =
          ap (λ (xs : List (Option SharedView)). shared_at xs k) one.items
          ∙ at_front c.contexts.shared.items (c.in_ok-one.one ∷ []) None k (omega arith) in
          let list_before : list_at c.push_reserved-in-contexts.new.self.items k
          ≡ list_at c.contexts.passes.items k =
          ap (λ (xs : List (Option PassListView)). list_at xs k) list.items
          ∙ at_front c.contexts.passes.items (c.in_ok-one.list ∷ []) None k (omega arith) in
          subst (λ (s : Option SharedView). Shares (standing_at contexts k) (get_or all k []) counter s
          (list_at c.push_reserved-in-contexts.new.self.items k)) (sym before)
          (subst (λ (l : Option PassListView). Shares (standing_at contexts k) (get_or all k []) counter
          (shared_at c.contexts.shared.items k) l) (sym list_before) (i.done counter is k less)))
          (subst (λ (o : Option ContextView). Shares o (get_or all n []) counter
          (shared_at c.push_reserved.new.self.items n)
          (list_at c.push_reserved-in-contexts.new.self.items n)) context
          (subst (λ (q : List ℕ). Shares c.take-in-contexts.result q counter
          (shared_at c.push_reserved.new.self.items n)
          (list_at c.push_reserved-in-contexts.new.self.items n)) quotas
          (subst (λ (j : List ℕ). Shares c.take-in-contexts.result c.as_slice.result.now j
          (shared_at c.push_reserved.new.self.items n)
          (list_at c.push_reserved-in-contexts.new.self.items n))
          (ap (λ (s : SeatView). s.counter) (next counter is).0)
          (subst (λ (s : Option SharedView). Shares c.take-in-contexts.result c.as_slice.result.now
          c.in-Some.seat.counter s (list_at c.push_reserved-in-contexts.new.self.items n)) (sym here)
          (subst (λ (l : Option PassListView). Shares c.take-in-contexts.result c.as_slice.result.now
          c.in-Some.seat.counter c.in_ok-one.one l) (sym list_here) c.in_ok-one.ensures)))));
      left = λ k above. get_or-set_other c.contexts.contexts n k c.take-in-contexts.new.self None
          (λ e. not_it k n above e) ∙ i.left k (omega arith);
      seats = λ counter is. (next counter is).1;
      count = ap length one.items ∙ length-append c.contexts.shared.items (c.in_ok-one.one ∷ [])
          ∙ ap (λ k. k + 1) size;
      lists_count = ap length list.items
          ∙ length-append c.contexts.passes.items (c.in_ok-one.list ∷ []) ∙ ap (λ k. k + 1) lists_size;
      room = omega (
        arith,
        one.capacity,
        i.room,
        length-set c.contexts.contexts n c.take-in-contexts.new.self,
      );
      lists_room = omega (
        arith,
        list.capacity,
        i.lists_room,
        length-set c.contexts.contexts n c.take-in-contexts.new.self,
      );
    }
  where
    not_it : (k n : ℕ) → n + 1 ≤ k → k ≡ n → ⊥
    not_it k n above e = omega arith
