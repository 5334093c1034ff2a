use Rattle.std.proofs.Common.{List, ◌++◌, sym, ap, ◌∙◌, arith}
use Rattle.call_places.specs.declared.entries.Entry.{Entry}
use Rattle.context_books.specs.Entries.{entries_from}
use Rattle.context_books.proofs.Blocks.{IsOwn-entries, CallsWithin-entries, PlacesRise-entries}
use Rattle.shared_context.proofs.contexts.SharedContext.commit.Goals as goal

pub leave-requires-clause-added : goal.leave-requires-clause-added
leave-requires-clause-added g c =
    let e = c.enter-held.ensures in
    let s = c.settle-missed.ensures.added in
    let was = c.value-value.ensures.value in
    let lane = c.number-lane.ensures ∙ sym e.pass.number in
    let steps = c.settle-missed.new.steps in
    let all : List Entry = entries_from c.enter-held.result.number c.args.call 0 s.0 steps in (
      all,
      record {
        adds = s.2 ∙ (λ k. (was k).book.entries ++ entries_from (lane k) c.args.call 0 s.0 steps) ∙ ap (λ l. l ++ all) (sym e.seen);
        mine = IsOwn-entries _ _ _ _ _;
        calls = CallsWithin-entries _ _ _ _ _ _ _ (omega (arith, e.pass.next_call, c.requires.may.late)) c.requires.may.call_fits;
        rise = PlacesRise-entries _ _ _ _ _;
      },
    )
