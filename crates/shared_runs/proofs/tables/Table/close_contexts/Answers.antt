use Rattle.std.proofs.Common.{◌≡◌, ◌<◌, ◌+◌, length, ℕ, List, Option, None, sym, refl, ap, ◌∙◌, subst, arith, slice_index_or}
use Rattle.std.proofs.lemmas.List.{get_or-set_other, length-set}
use Rattle.lane_workers.specs.Turns.{shared_at}
use Rattle.lane_workers.proofs.Handing.{found_here}
use Rattle.shared_runs.proofs.Closed.{ClosedSoFar, none_closed, closed_more, may_close, all_taken, all_closed}
use Rattle.shared_runs.proofs.tables.Table.close_contexts.Goals as goal

-- what was taken is what stood there from the start
taken : {X : Type 0} (now old : List (Option X)) (k : ℕ) (found result : Option X) → k < length now
    → found ≡ slice_index_or now k found → result ≡ found
    → slice_index_or now k None ≡ slice_index_or old k None → slice_index_or old k None ≡ result
taken now old k found result low is same rest =
    sym (same ∙ found_here now k found None low is ∙ rest)

pub contexts-init : goal.contexts-init
contexts-init c =
    let items = c.as_mut_slice-contexts.ensures.items in
    record {
      so_far = none_closed c.args.self c.args.left c.requires.table c.requires.seat c.requires.stamps c.args.books.now.items
          c.requires.none;
      contexts_later = λ k low. ap (λ xs. shared_at xs k) items;
      passes_later = λ k low. refl;
      contexts_count = ap length items;
      passes_count = c.requires.back.1.count;
      room = c.requires.room;
    }

pub close-requires-clause-may : goal.close-requires-clause-may
close-requires-clause-may c =
    let t = c.args.self in
    let i = c.contexts.invariant in
    let n = c.contexts.number in
    let size = ap length c.as_mut_slice-contexts.ensures.items in
    let low : n < length t.contexts = omega (arith, size, c.contexts-test.true) in
    let is = taken c.contexts.contexts t.contexts n c.index-contexts-number.result
    c.take-context.result (omega (arith, i.contexts_count)) c.index-contexts-number.is
    (c.take-context.ensures.value ∙ sym c.index-contexts-number.is)
    (i.contexts_later n (omega arith)) in
    let back = taken c.contexts.passes.items c.args.left.passes.items n c.index_mut.result.now
    c.take-list.result (omega (arith, i.passes_count)) c.index_mut.ensures.value
    c.take-list.ensures.value (i.passes_later n (omega arith)) in
    may_close t c.args.left c.requires.table c.requires.seat c.requires.back.0 c.requires.back.1 c.requires.back.2 n
    c.take-context.result c.take-list.result is back

pub close-requires-clause-seat : goal.close-requires-clause-seat
close-requires-clause-seat c = c.contexts.invariant.so_far.counter

pub push_reserved-requires : goal.push_reserved-requires
push_reserved-requires c =
    let i = c.contexts.invariant in
    let size = ap length c.as_mut_slice-contexts.ensures.items in
    omega (arith, size, c.contexts-test.true, i.so_far.count, i.room, c.contexts.books.ok.0)

pub contexts-preserved : goal.contexts-preserved
contexts-preserved c =
    let t = c.args.self in
    let i = c.contexts.invariant in
    let n = c.contexts.number in
    let size = ap length c.as_mut_slice-contexts.ensures.items in
    let low : n < length t.contexts = omega (arith, size, c.contexts-test.true) in
    let is = taken c.contexts.contexts t.contexts n c.index-contexts-number.result
    c.take-context.result (omega (arith, i.contexts_count)) c.index-contexts-number.is
    (c.take-context.ensures.value ∙ sym c.index-contexts-number.is)
    (i.contexts_later n (omega arith)) in
    let back = taken c.contexts.passes.items c.args.left.passes.items n c.index_mut.result.now
    c.take-list.result (omega (arith, i.passes_count)) c.index_mut.ensures.value
    c.take-list.ensures.value (i.passes_later n (omega arith)) in
    let may = may_close t c.args.left c.requires.table c.requires.seat c.requires.back.0 c.requires.back.1 c.requires.back.2 n
    c.take-context.result c.take-list.result is back in
    record {
      so_far = subst (λ bs. ClosedSoFar t c.args.left (n + 1) bs c.close.new.all)
          (sym c.push_reserved.ensures.items)
          (closed_more t c.args.left c.requires.table c.requires.seat n c.contexts.books.items c.contexts.seat c.close.new.all
          c.take-context.result c.take-list.result c.close.result i.so_far low is back may
          c.close.ensures);
      contexts_later = λ k above. get_or-set_other c.contexts.contexts n k
          c.take-context.new.self None (λ e. absurd (omega arith))
          ∙ i.contexts_later k (omega arith);
      passes_later = λ k above. get_or-set_other c.contexts.passes.items n k
          c.take-list.new.self None (λ e. absurd (omega arith))
          ∙ i.passes_later k (omega arith);
      contexts_count = length-set c.contexts.contexts n c.take-context.new.self ∙ i.contexts_count;
      passes_count = length-set c.contexts.passes.items n c.take-list.new.self ∙ i.passes_count;
      room = omega (arith, i.room, c.push_reserved.ensures.capacity);
    }

pub close-requires-2-clause-counter : goal.close-requires-2-clause-counter
close-requires-2-clause-counter c = c.contexts.invariant.so_far.counter

pub close-requires-2-clause-all : goal.close-requires-2-clause-all
close-requires-2-clause-all c =
    let i = c.contexts.invariant in
    let size = ap length c.as_mut_slice-contexts.ensures.items in
    all_taken c.args.self c.args.left c.requires.table c.requires.seat c.contexts.number c.contexts.books.items c.contexts.seat
    i.so_far (omega (arith, size, c.contexts-test.false))

pub returns-clause-count : goal.returns-clause-count
returns-clause-count c =
    let i = c.contexts.invariant in
    let size = ap length c.as_mut_slice-contexts.ensures.items in
    omega (arith, size, c.contexts-test.false, i.so_far.count, i.so_far.rest)

pub returns-clause-closed : goal.returns-clause-closed
returns-clause-closed c = λ passes back count.
    let t = c.args.self in
    let i = c.contexts.invariant in
    let size = ap length c.as_mut_slice-contexts.ensures.items in
    let end : c.contexts.number ≡ length t.contexts =
    omega (arith, size, c.contexts-test.false, i.so_far.rest) in
    all_closed t c.args.left c.requires.table c.requires.seat c.contexts.books.items c.contexts.seat
    (subst (λ n. ClosedSoFar t c.args.left n c.contexts.books.items c.contexts.seat) end i.so_far)
    passes back count c.close-2.result c.close-2.ensures.stamps
