use Rattle.std.proofs.Common.{◌≡◌, ◌≤◌, ◌++◌, All, List, ℕ, length, take, drop, refl, sym, ap, ◌∙◌, subst, arith}
use Rattle.std.specs.Prelude.{slice_set}
use Rattle.std.proofs.lemmas.List.{take-append-le, take_all, set-set}
use Rattle.call_places.specs.declared.entries.Step.{Step}
use Rattle.call_places.specs.Spans.{ItemIsInPool}
use Rattle.context_books.specs.Openings.{IsTableFor, opening_steps, opening_misses}
use Rattle.shared_context.specs.Calls.{HasCommitted}
use Rattle.lane_workers.proofs.Found.{is_there}
use Rattle.lane_workers.proofs.Taking.{pass_taken, may_take, counter_taken, note_taken}
use Rattle.lane_workers.proofs.calls.Service.commit.Goals as goal

pub unwrap-counter-requires : goal.unwrap-counter-requires
unwrap-counter-requires g c = is_there c.requires.turn.counter_is

pub unwrap-pass-requires : goal.unwrap-pass-requires
unwrap-pass-requires g c =
    is_there (pass_taken c.requires.turn c.index_mut.ensures.value c.take.ensures.value)

pub unwrap-seat-requires : goal.unwrap-seat-requires
unwrap-seat-requires g c = is_there (c.take-2.ensures.value ∙ c.requires.turn.has)

pub commit_front-first-requires-clause-may : goal.commit_front-first-requires-clause-may
commit_front-first-requires-clause-may g c =
    let t = c.requires.turn in
    may_take t c.unwrap-pass.result (sym c.unwrap-pass.ensures
    ∙ pass_taken t c.index_mut.ensures.value c.take.ensures.value)

pub commit_front-first-requires-clause-opens : goal.commit_front-first-requires-clause-opens
commit_front-first-requires-clause-opens g c = c.requires.opens

pub commit_front-first-requires-clause-counter : goal.commit_front-first-requires-clause-counter
commit_front-first-requires-clause-counter g c =
    counter_taken c.requires.turn c.unwrap-counter.result c.unwrap-counter.ensures

pub commit_front-first-requires-clause-seat : goal.commit_front-first-requires-clause-seat
commit_front-first-requires-clause-seat g c =
    note_taken c.requires.turn c.unwrap-counter.result c.unwrap-seat.result
    c.unwrap-counter.ensures (sym c.take-2.ensures.value ∙ c.unwrap-seat.ensures)

pub commit_front-first-requires-clause-spans : goal.commit_front-first-requires-clause-spans
commit_front-first-requires-clause-spans g c =
    subst (λ (bytes : List ℕ). All (ItemIsInPool (length bytes)) c.args.items.now)
    (sym c.as_slice-pool.ensures.items) c.requires.spans

pub commit_front-first-requires-clause-table : goal.commit_front-first-requires-clause-table
commit_front-first-requires-clause-table g c =
    subst (λ (bytes : List ℕ). IsTableFor c.args.shared.now.context bytes c.args.items.now
    c.args.work.now.table) (sym c.as_slice-pool.ensures.items) c.requires.table

pub commit_front-first-requires-clause-checks : goal.commit_front-first-requires-clause-checks
commit_front-first-requires-clause-checks g c = c.requires.checks

pub commit_front-first-requires-clause-steps : goal.commit_front-first-requires-clause-steps
commit_front-first-requires-clause-steps g c =
    subst (λ (steps : List Step). length c.args.items.now ≤ length steps)
    (sym c.as_mut_slice-steps.ensures.value) c.requires.room

pub returns : goal.returns
returns g c =
    let t = c.requires.turn in
    let done = c.commit_front-first in
    let view = c.args.shared.now.context in
    let items = c.args.items.now in
    let steps_are = ap (λ (bytes : List ℕ). opening_steps view done.result.0 bytes items)
    c.as_slice-pool.ensures.items in
    let new = done.new.steps in
    let old = c.args.work.now.steps in
    let rest = drop (length new) old.items in
    let size : length new ≡ old.len = done.ensures.room ∙ c.as_mut_slice-steps.ensures.len in
    let whole : take old.len (new ++ rest) ≡ new =
    take-append-le old.len new rest (omega arith) ∙ take_all old.len new (omega arith) in
    record {
      pass = c.unwrap-pass.result;
      was = t.holds ∙ sym (pass_taken t c.index_mut.ensures.value c.take.ensures.value)
          ∙ c.unwrap-pass.ensures;
      after = done.result.2;
      seat = c.unwrap-seat.result;
      had = sym c.take-2.ensures.value ∙ c.unwrap-seat.ensures;
      back = done.result.3;
      has_committed = subst (λ (ss : List Step). HasCommitted c.unwrap-pass.result done.result.2
          c.unwrap-seat.result done.result.3 c.args.call ss done.result.0) steps_are
          done.ensures.committed;
      passes = set-set _ _ _ _
          ∙ ap (slice_set c.args.work.now.passes.items c.args.number) c.put.ensures;
      seat_is = c.put-2.ensures;
      same = record { lane = refl; table = refl; progress = refl };
      steps = ap (take (length items)) whole ∙ done.ensures.steps ∙ steps_are;
      room = ap length whole ∙ done.ensures.room ∙ ap length c.as_mut_slice-steps.ensures.value;
      missed_is = done.ensures.missed ∙ ap (λ (bytes : List ℕ). opening_misses view done.result.0 bytes
          items c.args.work.now.table.guess) c.as_slice-pool.ensures.items;
      checks = done.ensures.checks;
    }
