use Rattle.std.proofs.Common.{◌≡◌, ℕ, ◌+◌, ◌++◌, length, sym, ap, ◌∙◌, subst, arith}
use Rattle.std.specs.List.{range_with_len}
use Rattle.context_books.specs.Entries.{entries_from}
use Rattle.context_books.specs.Books.{BookView}
use Rattle.call_places.proofs.Stamps.{StampsBelow-weaker}
use Rattle.context_books.proofs.Blocks.{stamps_of-entries, StampsBelow-entries, length-entries}
use Rattle.stamp_counter.specs.Stamps.{ComesAfter}
use Rattle.stamp_counter.proofs.Stamping.{stamped_more}
use Rattle.shared_context.specs.Stamped.{StampedView}
use Rattle.shared_context.proofs.stamped.StampedBook.settle.Goals as goal

pub settle-missed-requires-clause-stamps : goal.settle-missed-requires-clause-stamps
settle-missed-requires-clause-stamps c = StampsBelow-weaker c.self.inside.seat.low c.draw_stamps-first.result.0 c.self.inside.book.entries c.draw_stamps-first.ensures.least c.self.invariant.below

pub invariant_of-self : goal.invariant_of-self
invariant_of-self c =
    let first : ℕ = c.draw_stamps-first.result.0 in
    let steps = c.settle-missed.new.steps in
    let many : length steps ≡ length c.args.opening.items.now = c.settle-missed.auto.steps ∙ c.requires.steps in
    stamped_more c.self.inside.book.quotas c.settle-missed.new.self.quotas c.self.inside.book.entries c.settle-missed.new.self.entries c.self.inside.seat c.draw_stamps-first.new.own (entries_from c.args.opening.lane c.args.opening.call 0 first steps) c.args.counter.now.id first (length c.args.opening.items.now)
    c.self.invariant c.settle-missed.ensures.terms.quotas c.settle-missed.ensures.added c.draw_stamps-first.ensures.own
    (stamps_of-entries c.args.opening.lane c.args.opening.call 0 first steps ∙ ap (range_with_len first) many)
    (length-entries c.args.opening.lane c.args.opening.call 0 first steps ∙ many)
    (StampsBelow-entries c.args.opening.lane c.args.opening.call 0 first (first + length c.args.opening.items.now) steps (omega arith))
    c.draw_stamps-first.ensures.least c.a_lanes_room_is_the_books.ensures.room

pub returns-clause-added : goal.returns-clause-added
returns-clause-added c =
    let s = c.draw_stamps-first.ensures in
    let first : ℕ = c.draw_stamps-first.result.0 in
    let steps = c.settle-missed.new.steps in
    let many : length c.args.opening.items.now ≡ length steps = sym (c.settle-missed.auto.steps ∙ c.requires.steps) in
    let was = ap (λ (v : StampedView). v.book) c.self.view_is in (
      first,
      subst (λ n. ComesAfter c.args.counter.now.id c.args.seat c.draw_stamps-first.result.1 c.args.self.now.book.entries first n) many
          (subst (λ (b : BookView). ComesAfter c.args.counter.now.id c.args.seat c.draw_stamps-first.result.1 b.entries first (length c.args.opening.items.now)) was (s.after c.self.inside.book.entries c.self.invariant.below)),
      subst (λ (b : BookView). c.settle-missed.new.self.entries ≡ b.entries ++ entries_from c.args.opening.lane c.args.opening.call 0 first steps) was c.settle-missed.ensures.added,
    )
