-- An entry more in a book.
use Rattle.std.proofs.Common.{◌≡◌, ℕ, ◌-◌, ◌<◌, ◌≤◌, List, [], ◌∷◌, ◌++◌, length, set, sym, ap, ◌∙◌, subst, arith}
use Rattle.std.specs.Prelude.{slice_index, slice_index_or}
use Rattle.std.proofs.lemmas.List.{get_or_default}
use Rattle.call_places.specs.declared.entries.Entry.{Entry}
use Rattle.call_places.specs.declared.entries.Step.{Step}
use Rattle.call_places.specs.declared.entries.Step.TheVariants.{Sealed, SealLimit, Opened, Failed, OpenLimit, Note}
use Rattle.call_places.specs.Entries.{own, seq_of, StampsBelow}
use Rattle.call_places.specs.Orders.{StampsRise}
use Rattle.context_books.specs.Entries.{number_after, AtNumbers}
use Rattle.context_books.proofs.EntryNumbers.{to_each, from_each, last_number, last_is, seq_of-push}
use Rattle.context_books.specs.Lists.{EachFrom}
use Rattle.context_books.specs.Books.{IsBook, MayStand, KeepsLimit}
use Rattle.call_places.specs.Quotas.{AreLeft}
use Rattle.call_places.proofs.Stamps.{StampsRise-push}
use Rattle.call_places.proofs.Quotas.{one_left_less}

-- ---- numbers

module _ (P : ℕ → Entry → Type 0) where
  each_push : (n : ℕ) (es : List Entry) (e : Entry) → EachFrom P n es → P (last_number n es) e → EachFrom P n (es ++ e ∷ [])
  each_push n [] e all here = (here, tt)
  each_push n (x ∷ es) e all here = (all.0, each_push (number_after n x.step) es e all.1 here)

  AtNumbers-push : (es : List Entry) (e : Entry) → AtNumbers P es → P (seq_of es) e → AtNumbers P (es ++ e ∷ [])
  AtNumbers-push es e all here =
      let last : seq_of es ≡ last_number 0 es = let a = last_is 0 es in omega arith in
      from_each P (es ++ e ∷ []) (each_push 0 es e (to_each P es all) (subst (λ n. P n e) last here))

after_most : (limit n : ℕ) (s : Step) → n ≤ limit → MayStand limit n s → number_after n s ≤ limit
after_most limit n Sealed le may = omega arith
after_most limit n SealLimit le may = le
after_most limit n Opened le may = omega arith
after_most limit n Failed le may = le
after_most limit n OpenLimit le may = le
after_most limit n (Note name act live) le may = absurd may

-- ---- the book

pub grows : (limit seq : ℕ) (quotas left : List ℕ) (entries after : List Entry) (capacity capacity' v seq' : ℕ) (e : Entry)
    → IsBook limit seq quotas left entries capacity
    → e.place.lane < length quotas → length (own e.place.lane entries) < slice_index quotas e.place.lane
    → v ≡ slice_index_or left e.place.lane v → StampsBelow e.stamp entries
    → MayStand limit (seq_of entries) e.step → seq' ≡ number_after seq e.step
    → after ≡ entries ++ e ∷ [] → capacity' ≡ capacity
    → IsBook limit seq' quotas (set left e.place.lane (v - 1)) after capacity'
grows limit seq quotas left entries after capacity capacity' v seq' e b lane room at stamp may next adds same =
    let l = e.place.lane in
    let lanes = b.places.lanes in
    let here : v ≡ slice_index left l = at ∙ get_or_default left l v 0 (omega arith) in
    let seq_at = next ∙ ap (λ n. number_after n e.step) b.seq_is in
    let due = b.seq_is in
    let due_most = b.most in record {
      seq_is = seq_at ∙ sym (seq_of-push entries e) ∙ ap seq_of (sym adds);
      most = let a = after_most limit (seq_of entries) e.step (omega arith) may in omega arith;
      limits = subst (KeepsLimit limit) (sym adds) (AtNumbers-push (λ n x. MayStand limit n x.step) entries e b.limits may);
      places = subst (AreLeft quotas (set left l (v - 1))) (sym adds) (one_left_less quotas left entries e v b.places lane room here);
      few = b.few;
      room = let a = b.room in omega arith;
      rise = subst StampsRise (sym adds) (StampsRise-push entries e b.rise stamp);
    }
