use Rattle.std.proofs.Common.{◌+◌, ◌<◌, length, cond, sym, ap, ◌∙◌, subst}
use Rattle.std.specs.Prelude.{slice_index}
use Rattle.call_places.specs.Entries.{own, seq_of, StampsBelow}
use Rattle.context_books.specs.Entries.{entry}
use Rattle.context_books.specs.Books.{BookView, MayStand}
use Rattle.context_books.proofs.Adding.{grows}
use Rattle.context_books.proofs.book.Book.add.Goals as goal

pub invariant_of-self : goal.invariant_of-self
invariant_of-self c =
    let was = sym c.self.view_is in
    grows _ _ _ _ c.self.inside.entries.items _ _ _ _ _ (entry c.args.place c.args.stamp c.args.step) c.self.invariant
    (subst (λ (b : BookView). c.args.place.lane < length b.quotas) was c.requires.lane)
    (subst (λ (b : BookView). length (own c.args.place.lane b.entries) < slice_index b.quotas c.args.place.lane) was c.requires.room)
    c.index_mut.ensures.value
    (subst (λ (b : BookView). StampsBelow c.args.stamp b.entries) was c.requires.stamp)
    (subst (λ (b : BookView). MayStand b.limit (seq_of b.entries) c.args.step) was c.requires.step)
    (ap (λ b. cond b (c.self.inside.seq + 1) c.self.inside.seq) (sym (sym c.advances.ensures ∙ c.if-advances.true)))
    c.push_reserved.ensures.items
    c.push_reserved.ensures.capacity

pub invariant_of-self-else-advances : goal.invariant_of-self-else-advances
invariant_of-self-else-advances c =
    let was = sym c.self.view_is in
    grows _ _ _ _ c.self.inside.entries.items _ _ _ _ _ (entry c.args.place c.args.stamp c.args.step) c.self.invariant
    (subst (λ (b : BookView). c.args.place.lane < length b.quotas) was c.requires.lane)
    (subst (λ (b : BookView). length (own c.args.place.lane b.entries) < slice_index b.quotas c.args.place.lane) was c.requires.room)
    c.index_mut.ensures.value
    (subst (λ (b : BookView). StampsBelow c.args.stamp b.entries) was c.requires.stamp)
    (subst (λ (b : BookView). MayStand b.limit (seq_of b.entries) c.args.step) was c.requires.step)
    (ap (λ b. cond b (c.self.inside.seq + 1) c.self.inside.seq) (sym (sym c.advances.ensures ∙ c.if-advances.false)))
    c.push_reserved.ensures.items
    c.push_reserved.ensures.capacity
