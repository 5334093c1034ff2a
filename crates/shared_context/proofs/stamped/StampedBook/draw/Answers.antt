use Rattle.std.proofs.Common.{◌≡◌, ℕ, [], ◌∷◌, ◌++◌, refl, ap, subst, arith}
use Rattle.context_books.specs.Entries.{entry}
use Rattle.context_books.specs.Books.{BookView, drawn_step}
use Rattle.call_places.proofs.Stamps.{StampsBelow-weaker}
use Rattle.stamp_counter.specs.Stamps.{ComesAfter}
use Rattle.stamp_counter.proofs.Stamping.{stamped_more}
use Rattle.shared_context.specs.Stamped.{StampedView}
use Rattle.shared_context.proofs.stamped.StampedBook.draw.Goals as goal

pub draw-requires-clause-stamp : goal.draw-requires-clause-stamp
draw-requires-clause-stamp c = StampsBelow-weaker c.self.inside.seat.low c.draw_stamps-stamp.result.0 c.self.inside.book.entries c.draw_stamps-stamp.ensures.least c.self.invariant.below

pub invariant_of-self : goal.invariant_of-self
invariant_of-self c =
    let first : ℕ = c.draw_stamps-stamp.result.0 in
    stamped_more c.self.inside.book.quotas c.draw.new.self.quotas c.self.inside.book.entries c.draw.new.self.entries c.self.inside.seat c.draw_stamps-stamp.new.own (entry c.args.place first (drawn_step c.draw.result) ∷ []) c.args.counter.now.id first 1
    c.self.invariant c.draw.ensures.terms.quotas c.draw.ensures.added c.draw_stamps-stamp.ensures.own refl refl (omega arith, tt) c.draw_stamps-stamp.ensures.least c.a_lanes_room_is_the_books.ensures.room

pub returns-clause-added : goal.returns-clause-added
returns-clause-added c =
    let s = c.draw_stamps-stamp.ensures in
    let first : ℕ = c.draw_stamps-stamp.result.0 in
    let was = ap (λ (v : StampedView). v.book) c.self.view_is in (
      first,
      subst (λ (b : BookView). ComesAfter c.args.counter.now.id c.args.seat c.draw_stamps-stamp.result.1 b.entries first 1) was (s.after c.self.inside.book.entries c.self.invariant.below),
      subst (λ (b : BookView). c.draw.new.self.entries ≡ b.entries ++ entry c.args.place first (drawn_step c.draw.result) ∷ []) was c.draw.ensures.added,
    )
