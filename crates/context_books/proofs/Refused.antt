-- Journals that are not legal.
use Rattle.std.proofs.Common.{◌≡◌, ◌≢◌, ℕ, zero, suc, ◌+◌, ◌<◌, List, [], ◌∷◌, ◌++◌, sym, refl, ap, ◌∙◌, subst, arith, append_assoc, inl, inr}
use Rattle.std.specs.Prelude.{Contains}
use Rattle.std.specs.List.{AllPairs}
use Rattle.call_places.specs.declared.entries.Place.{Place}
use Rattle.call_places.specs.Orders.{IsBefore}
use Rattle.context_books.specs.Batches.{Batch, place, block, IsServed}
use Rattle.context_books.specs.Legal.{IsInLaneOrder, OpensOn, StandTogether, Legal}
use Rattle.context_books.proofs.Members.{In-right, rises_pairs, pairs_back}
use Rattle.context_books.specs.Lists.{In}
use Rattle.context_books.proofs.Places.{not_both, not_in_front}
use Rattle.context_books.proofs.Legals.{in_block, block_in}

abbrev Apart : Place → Place → Type 0
Apart a b = a ≢ b

pub left_out : (batch : Batch) (context : ℕ) (journal : List Place) (p : Place) → IsServed batch context p → (Contains journal p → ⊥) → Legal batch context journal → ⊥
left_out batch context journal p served none t = none ((t.served p).1 served)

pub not_asked : (batch : Batch) (context : ℕ) (journal : List Place) (p : Place) → Contains journal p → (IsServed batch context p → ⊥) → Legal batch context journal → ⊥
not_asked batch context journal p has none t = none ((t.served p).0 has)

pub twice : (batch : Batch) (context : ℕ) (journal front between after : List Place) (p : Place) → journal ≡ front ++ (p ∷ (between ++ (p ∷ after))) → Legal batch context journal → ⊥
twice batch context journal front between after p e t =
    not_in_front (p ∷ between) after p (pairs_back Apart front (p ∷ (between ++ (p ∷ after))) (subst (AllPairs Apart) e t.once)) (inl refl)

pub out_of_order : (batch : Batch) (context : ℕ) (journal front between after : List Place) (p q : Place) → p.lane ≡ q.lane → IsBefore p q
    → journal ≡ front ++ (q ∷ (between ++ (p ∷ after))) → Legal batch context journal → ⊥
out_of_order batch context journal front between after p q lane before e t =
    let rest = pairs_back IsInLaneOrder front (q ∷ (between ++ (p ∷ after))) (subst (AllPairs IsInLaneOrder) e t.in_order) in
    not_both p q before ((rises_pairs IsInLaneOrder (q ∷ (between ++ (p ∷ after))) rest).0 p (In-right p between (p ∷ after) (inl refl)) (sym lane))

-- ---- an opening that another place parts

-- the next place in a block
next_in : (l call i n : ℕ) (p : Place) (after : List Place) → In p (block l call i n) → p.item + 1 < i + n
    → (front rest : List Place) × (block l call i n ++ after ≡ front ++ (p ∷ place p.lane p.call (p.item + 1) ∷ rest))
next_in l call i zero p after has few = absurd has
next_in l call i (suc zero) p after has few = absurd (let b = (in_block p l call i (suc zero) has) in let low = b.2 in omega arith)
next_in l call i (suc (suc n)) p after has few = elim has [
  | inl is ↦ ([], block l call (i + 1 + 1) n ++ after, (λ j. is j ∷ second is j ∷ (block l call (i + 1 + 1) n ++ after)))
  | inr later ↦ (let t = next_in l call (i + 1) (suc n) p after later (omega arith) in (place l call i ∷ t.0, t.1, ap (λ ps. place l call i ∷ ps) t.2))
]
  where
    second : place l call i ≡ p → place l call (i + 1) ≡ place p.lane p.call (p.item + 1)
    second is = ap (λ (q : Place). place q.lane q.call (q.item + 1)) is

same_tail : (xs ys rest more : List Place) (p : Place) → (In p xs → ⊥) → (In p ys → ⊥) → xs ++ (p ∷ rest) ≡ ys ++ (p ∷ more) → rest ≡ more
same_tail [] [] rest more p f g e = (let h : p ∷ rest ≡ p ∷ more = e in cc)
same_tail [] (y ∷ ys) rest more p f g e = absurd (g (inl (let h : p ∷ rest ≡ y ∷ (ys ++ (p ∷ more)) = e in let k : y ≡ p = cc in k)))
same_tail (x ∷ xs) [] rest more p f g e = absurd (f (inl (let h : x ∷ (xs ++ (p ∷ rest)) ≡ p ∷ more = e in let k : x ≡ p = cc in k)))
same_tail (x ∷ xs) (y ∷ ys) rest more p f g e =
    same_tail xs ys rest more p (λ i. f (inr i)) (λ i. g (inr i)) (let h : x ∷ (xs ++ (p ∷ rest)) ≡ y ∷ (ys ++ (p ∷ more)) = e in let k : xs ++ (p ∷ rest) ≡ ys ++ (p ∷ more) = cc in k)

-- where a block goes on after a place, its next item stands next
pub next_stands : (journal : List Place) → AllPairs (λ (a b : Place). a ≢ b) journal → (xs rest : List Place) (p : Place) (n : ℕ) → journal ≡ xs ++ (p ∷ rest)
    → StandTogether journal (block p.lane p.call 0 n) → p.item + 1 < n → (more : List Place) × (rest ≡ place p.lane p.call (p.item + 1) ∷ more)
next_stands journal once xs rest p n e s few =
    let next = next_in p.lane p.call 0 n p s.1 (block_in p.lane p.call 0 n p.item (omega arith) (omega arith)) (omega arith) in
    let there : journal ≡ (s.0 ++ next.0) ++ (p ∷ place p.lane p.call (p.item + 1) ∷ next.1) =
    s.2 ∙ ap (λ ps. s.0 ++ ps) next.2 ∙ sym (append_assoc s.0 next.0 (p ∷ place p.lane p.call (p.item + 1) ∷ next.1)) in
    let once_at = λ (ys more : List Place) (is : journal ≡ ys ++ (p ∷ more)). not_in_front ys more p (subst (AllPairs Apart) is once) in
    (next.1, same_tail xs (s.0 ++ next.0) rest (place p.lane p.call (p.item + 1) ∷ next.1) p (once_at xs rest e) (once_at (s.0 ++ next.0) (place p.lane p.call (p.item + 1) ∷ next.1) there) (sym e ∙ there))

pub torn : (batch : Batch) (context : ℕ) (journal front after : List Place) (lane call n item : ℕ) (p : Place) → OpensOn batch context lane call n → item + 1 < n
    → journal ≡ front ++ (place lane call item ∷ p ∷ after) → p ≢ place lane call (item + 1) → Legal batch context journal → ⊥
torn batch context journal front after lane call n item p opens few e other t =
    let next = next_stands journal t.once front (p ∷ after) (place lane call item) n e (t.together lane call n opens) few in
    let same : p ∷ after ≡ place lane call (item + 1) ∷ next.0 = next.1 in
    other (let is : p ≡ place lane call (item + 1) = cc in is)
