-- The reply of a place in a journal.
use Rattle.std.proofs.Common.{◌≡◌, ◌≢◌, ℕ, cond, List, [], ◌∷◌, ◌++◌, sym, refl, ap, ◌∙◌, subst, Some, None, inl, inr}
use Rattle.std.specs.List.{AllPairs}
use Rattle.call_places.specs.declared.entries.Place.{Place}
use Rattle.hpke_context.specs.Answers.{Cipher, Item, Answer, answer, run, due, next}
use Rattle.context_books.specs.Batches.{Batch, item_of, items_of, item_or_none, IsServed}
use Rattle.context_books.specs.Legal.{Legal, reply_in, reply_of, replies, due_after, before, number_of}
use Rattle.context_books.proofs.Members.{In-left, contains_in, in_contains, split_at}
use Rattle.context_books.specs.Lists.{In}
use Rattle.context_books.proofs.Places.{same, not_same, not_in_front, before_split}

-- the places in front have no reply for this one
behind : (batch : Batch) (context : ℕ) (c : Cipher) (n : ℕ) (qs ps : List Place) (p : Place)
    → ((q : Place) → In q qs → IsServed batch context q) → (In p qs → ⊥)
    → reply_in (qs ++ ps) (run c n (items_of batch (qs ++ ps))) p ≡ reply_in ps (run c (due c n (items_of batch qs)) (items_of batch ps)) p
behind batch context c n [] ps p served none = refl
behind batch context c n (q ∷ qs) ps p served none =
    let here = served q (inl refl) in
    let x : Item = here.0 in
    ap (λ o. reply_in (q ∷ (qs ++ ps)) (run c n (item_or_none o (items_of batch (qs ++ ps)))) p) here.1
    ∙ ap (λ b. cond b (Some (answer c n x)) (reply_in (qs ++ ps) (run c (next n (answer c n x)) (items_of batch (qs ++ ps))) p)) (not_same q p (λ e. none (inl e)))
    ∙ behind batch context c (next n (answer c n x)) qs ps p (λ r i. served r (inr i)) (λ i. none (inr i))
    ∙ ap (λ o. reply_in ps (run c (due c n (item_or_none o (items_of batch qs))) (items_of batch ps)) p) (sym here.1)

pub reply_at : (batch : Batch) (context : ℕ) (c : Cipher) (front after : List Place) (p : Place) (x : Item)
    → ((q : Place) → In q front → IsServed batch context q) → (In p front → ⊥) → item_of batch p ≡ Some (context, x)
    → reply_of batch c (front ++ (p ∷ after)) p ≡ Some (answer c (due_after batch c front) x)
reply_at batch context c front after p x served none item =
    let n = due_after batch c front in
    behind batch context c 0 front (p ∷ after) p served none
    ∙ ap (λ o. reply_in (p ∷ after) (run c n (item_or_none o (items_of batch after))) p) item
    ∙ ap (λ b. cond b (Some (answer c n x)) (reply_in after (run c (next n (answer c n x)) (items_of batch after)) p)) (same p)

-- each served place of a legal journal is answered at its number
pub served_reply : (batch : Batch) (context : ℕ) (c : Cipher) (journal : List Place) (p : Place) (x : Item) → Legal batch context journal
    → item_of batch p ≡ Some (context, x) → reply_of batch c journal p ≡ Some (answer c (number_of batch c journal p) x)
served_reply batch context c journal p x t item =
    let s = split_at p journal (in_contains journal p ((t.served p).1 (x, item))) in
    let none = not_in_front s.0 s.1 p (subst (AllPairs (λ (a b : Place). a ≢ b)) s.2 t.once) in
    let front : before p journal ≡ s.0 = ap (before p) s.2 ∙ before_split s.0 s.1 p none in
    ap (λ ps. reply_of batch c ps p) s.2
    ∙ reply_at batch context c s.0 s.1 p x (λ q i. (t.served q).0 (contains_in journal q (subst (In q) (sym s.2) (In-left q s.0 (p ∷ s.1) i)))) none item
    ∙ ap (λ ps. Some (answer c (due_after batch c ps) x)) (sym front)

no_reply : (ps : List Place) (answers : List Answer) (p : Place) → (In p ps → ⊥) → reply_in ps answers p ≡ None
no_reply [] answers p none = refl
no_reply (q ∷ ps) [] p none = refl
no_reply (q ∷ ps) (a ∷ answers) p none =
    ap (λ b. cond b (Some a) (reply_in ps answers p)) (not_same q p (λ e. none (inl e))) ∙ no_reply ps answers p (λ i. none (inr i))

-- and no other place has a reply
pub unserved_reply : (batch : Batch) (context : ℕ) (c : Cipher) (journal : List Place) (p : Place) → Legal batch context journal → (IsServed batch context p → ⊥) → reply_of batch c journal p ≡ None
unserved_reply batch context c journal p t none = no_reply journal (replies batch c journal) p (λ i. none ((t.served p).0 (contains_in journal p i)))
