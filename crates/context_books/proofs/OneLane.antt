-- One lane that is served in its order.
use Rattle.std.proofs.Common.{◌≡◌, ℕ, zero, suc, ◌+◌, ◌<◌, ◌≤◌, cond, List, [], ◌∷◌, ◌++◌, length, take, drop, sym, refl, ap, ◌∙◌, subst, arith, Option, Some, None, inl, inr}
use Rattle.std.specs.Prelude.{slice_get, map, ◌↔◌}
use Rattle.std.proofs.lemmas.List.{length-map}
use Rattle.call_places.specs.declared.entries.Place.{Place}
use Rattle.hpke_context.specs.Answers.{Cipher, Item, Seal, Unseal, answer, due, next}
use Rattle.hpke_context.proofs.Runs.{due-append}
use Rattle.context_books.specs.Batches.{Ask, ToSeal, ToOpen, ToOpenAll, unseal, block, place, asked, on, own_places, lane_of, item_of, items_of, item_in_call, item_or_none}
use Rattle.context_books.specs.Merging.{all_asked, lane_places}
use Rattle.context_books.specs.Legal.{OpensOn, StandTogether, Legal, reply_of, due_after}
use Rattle.context_books.proofs.Lists.{on-append, on-spots_same, own_places-on, own_spots-all_asked, own_spots-all_asked_other, all_asked-append, append-nil}
use Rattle.context_books.proofs.Members.{In-left, contains_in, none_in}
use Rattle.context_books.specs.Lists.{In}
use Rattle.context_books.proofs.Places.{in_own}
use Rattle.context_books.proofs.Legals.{all_asked_item, legal, lane_is}
use Rattle.context_books.proofs.Replies.{reply_at}
use Rattle.context_books.proofs.Runs.{items_of-append}

-- ---- a call parts its lane

pub parted : {X : Type 0} (xs : List X) (k : ℕ) (x : X) → slice_get xs k ≡ Some x → xs ≡ take k xs ++ (x ∷ drop (k + 1) xs)
parted [] k x e = absurd (let f : None ≡ Some x = e in cc)
parted (y ∷ xs) zero x e = ap (λ z. z ∷ xs) (let f : Some y ≡ Some x = e in cc)
parted (y ∷ xs) (suc k) x e = ap (λ m. y ∷ m) (parted xs k x e) ∙ ap (λ n. y ∷ (take k xs ++ (x ∷ drop n (y ∷ xs)))) (let f : suc (k + 1) ≡ suc k + 1 = omega arith in f)

pub few_taken : {X : Type 0} (xs : List X) (k : ℕ) (x : X) → slice_get xs k ≡ Some x → length (take k xs) ≡ k
few_taken [] k x e = absurd (let f : None ≡ Some x = e in cc)
few_taken (y ∷ xs) zero x e = refl
few_taken (y ∷ xs) (suc k) x e = ap suc (few_taken xs k x e)

-- the places of a lane before a call, of the call, and after it
pub parted_places : (c : ℕ) (asks : List Ask) (k : ℕ) (a : Ask) → slice_get asks k ≡ Some a
    → lane_places c 0 asks ≡ lane_places c 0 (take k asks) ++ (on c (asked 0 k a) ++ on c (all_asked 0 (k + 1) (drop (k + 1) asks)))
parted_places c asks k a e =
    let front = take k asks in
    let back = drop (k + 1) asks in
    let count : length front ≡ k = few_taken asks k a e in
    let at : 0 + length front ≡ k = omega arith in
    ap (λ xs. on c (all_asked 0 0 xs)) (parted asks k a e)
    ∙ ap (on c) (all_asked-append 0 0 front (a ∷ back))
    ∙ on-append c (all_asked 0 0 front) (all_asked 0 (0 + length front) (a ∷ back))
    ∙ ap (λ n. lane_places c 0 front ++ on c (all_asked 0 n (a ∷ back))) at
    ∙ ap (λ m. lane_places c 0 front ++ m) (on-append c (asked 0 k a) (all_asked 0 (k + 1) back))

-- ---- its journal is legal

pub no_ask : (a : Ask) → None ≡ Some a → ⊥
no_ask a e = cc

one_lane : (asks : List Ask) (c : ℕ) (l : ℕ) → own_places l (lane_places c 0 asks) ≡ on c (all_asked l 0 (lane_of (asks ∷ []) l))
one_lane asks c zero = own_places-on 0 c (all_asked 0 0 asks) ∙ ap (on c) (own_spots-all_asked 0 0 asks)
one_lane asks c (suc l) = own_places-on (suc l) c (all_asked 0 0 asks) ∙ ap (on c) (own_spots-all_asked_other (suc l) 0 0 asks (λ e. absurd (let f : 0 ≡ suc l = e in omega arith)))

one_block : (asks : List Ask) (c l call n : ℕ) → OpensOn (asks ∷ []) c l call n → StandTogether (lane_places c 0 asks) (block l call 0 n)
one_block asks c zero call n o =
    let places : on c (asked 0 call (ToOpenAll c o.0)) ≡ block 0 call 0 n =
    on-spots_same c (block 0 call 0 (length (map unseal o.0))) ∙ ap (block 0 call 0) (length-map o.0 unseal ∙ o.2) in (
      lane_places c 0 (take call asks),
      on c (all_asked 0 (call + 1) (drop (call + 1) asks)),
      parted_places c asks call (ToOpenAll c o.0) o.1 ∙ ap (λ m. lane_places c 0 (take call asks) ++ (m ++ on c (all_asked 0 (call + 1) (drop (call + 1) asks)))) places,
    )
one_block asks c (suc l) call n o = absurd (no_ask (ToOpenAll c o.0) o.1)

pub one_lane_legal : (asks : List Ask) (c : ℕ) → Legal (asks ∷ []) c (lane_places c 0 asks)
one_lane_legal asks c = legal (asks ∷ []) c (lane_places c 0 asks) (record { lanes = one_lane asks c; together = one_block asks c })

pub no_lane_legal : (c : ℕ) → Legal [] c []
no_lane_legal c =
    legal [] c [] (record { lanes = λ l. refl; together = λ l call n o. absurd (no_ask (ToOpenAll c o.0) o.1) })

-- ---- and no other journal is

own_all : (ps : List Place) → ((p : Place) → In p ps → p.lane ≡ 0) → own_places 0 ps ≡ ps
own_all [] f = refl
own_all (p ∷ ps) f = ap (λ b. cond b (p ∷ own_places 0 ps) (own_places 0 ps)) (Rattle.std.proofs.Common.eq-eqb p.lane 0 (f p (inl refl))) ∙ ap (λ m. p ∷ m) (own_all ps (λ q i. f q (inr i)))

lane_0 : (asks : List Ask) (c : ℕ) (journal : List Place) → Legal (asks ∷ []) c journal → (p : Place) → In p journal → (l : ℕ) → p.lane ≡ l → l ≡ 0
lane_0 asks c journal t p i zero e = refl
lane_0 asks c journal t p i (suc l) e = absurd (subst (In p) (lane_is (asks ∷ []) c journal t (suc l)) (subst (λ k. In p (own_places k journal)) e (in_own p journal i)))

pub one_lane_only : (asks : List Ask) (c : ℕ) (journal : List Place) → Legal (asks ∷ []) c journal ↔ (journal ≡ lane_places c 0 asks)
one_lane_only asks c journal = (
  λ t. sym (own_all journal (λ p i. lane_0 asks c journal t p i p.lane refl)) ∙ lane_is (asks ∷ []) c journal t 0,
  λ e. subst (Legal (asks ∷ []) c) (sym e) (one_lane_legal asks c),
)

pub no_lane_only : (c : ℕ) (journal : List Place) → Legal [] c journal ↔ (journal ≡ [])
no_lane_only c journal = (
  λ t. none_in journal (λ p i. let x = (t.served p).0 (contains_in journal p i) in absurd (no_item (c, x.0) x.1)),
  λ e. subst (Legal [] c) (sym e) (no_lane_legal c),
)
  where
    no_item : (x : ℕ × Item) → None ≡ Some x → ⊥
    no_item x e = cc

-- ---- the replies of its calls

-- the places of earlier calls have earlier calls
earlier : (asks : List Ask) (c k : ℕ) (q : Place) → In q (lane_places c 0 (take k asks)) → q.call < k
earlier asks c k q i =
    let t = all_asked_item c 0 0 (take k asks) q i in
    let n : ℕ = t.1 in
    let at : q.call ≡ 0 + n = t.2 in
    let few : n < length (take k asks) = there (take k asks) n q.item t.3.0 t.3.1 in
    let most : length (take k asks) ≤ k = taken asks k in
    omega arith
  where
    there : (xs : List Ask) (n item : ℕ) (x : Item) → item_in_call (slice_get xs n) item ≡ Some (c, x) → n < length xs
    there [] n item x e = absurd (let f : None ≡ Some (c, x) = e in cc)
    there (y ∷ xs) zero item x e = omega arith
    there (y ∷ xs) (suc n) item x e = let r = there xs n item x e in omega arith

    taken : (xs : List Ask) (k : ℕ) → length (take k xs) ≤ k
    taken xs zero = omega arith
    taken [] (suc k) = omega arith
    taken (x ∷ xs) (suc k) = let r = taken xs k in omega arith

-- the reply of a call's one item
pub answered : (asks : List Ask) (context : ℕ) (c : Cipher) (k : ℕ) (a : Ask) (x : Item) → slice_get asks k ≡ Some a
    → on context (asked 0 k a) ≡ place 0 k 0 ∷ [] → item_of (asks ∷ []) (place 0 k 0) ≡ Some (context, x)
    → reply_of (asks ∷ []) c (lane_places context 0 asks) (place 0 k 0) ≡ Some (answer c (due_after (asks ∷ []) c (lane_places context 0 (take k asks))) x)
answered asks context c k a x e one item =
    let p = place 0 k 0 in
    let front = lane_places context 0 (take k asks) in
    let back = on context (all_asked 0 (k + 1) (drop (k + 1) asks)) in
    let parts : lane_places context 0 asks ≡ front ++ (p ∷ back) = parted_places context asks k a e ∙ ap (λ m. front ++ (m ++ back)) one in
    ap (λ ps. reply_of (asks ∷ []) c ps p) parts
    ∙ reply_at (asks ∷ []) context c front back p x
    (λ q i. ((one_lane_legal asks context).served q).0 (contains_in (lane_places context 0 asks) q (subst (In q) (sym parts) (In-left q front (p ∷ back) i))))
    (λ i. let low = earlier asks context k p i in absurd (omega arith)) item

pub sealed : (asks : List Ask) (context : ℕ) (c : Cipher) (k : ℕ) (aad text : List ℕ) → slice_get asks k ≡ Some (ToSeal context aad text)
    → reply_of (asks ∷ []) c (lane_places context 0 asks) (place 0 k 0) ≡ Some (answer c (due_after (asks ∷ []) c (lane_places context 0 (take k asks))) (Seal aad text))
sealed asks context c k aad text e =
    answered asks context c k (ToSeal context aad text) (Seal aad text) e (on-spots_same context (block 0 k 0 1)) (ap (λ (o : Option Ask). item_in_call o 0) e)

pub opened : (asks : List Ask) (context : ℕ) (c : Cipher) (k : ℕ) (aad ct : List ℕ) → slice_get asks k ≡ Some (ToOpen context aad ct)
    → reply_of (asks ∷ []) c (lane_places context 0 asks) (place 0 k 0) ≡ Some (answer c (due_after (asks ∷ []) c (lane_places context 0 (take k asks))) (Unseal aad ct))
opened asks context c k aad ct e =
    answered asks context c k (ToOpen context aad ct) (Unseal aad ct) e (on-spots_same context (block 0 k 0 1)) (ap (λ (o : Option Ask). item_in_call o 0) e)

-- ---- one call more

pub taken_more : {X : Type 0} (xs : List X) (k : ℕ) (x : X) → slice_get xs k ≡ Some x → take (k + 1) xs ≡ take k xs ++ (x ∷ [])
taken_more [] k x e = absurd (let f : None ≡ Some x = e in cc)
taken_more (y ∷ xs) zero x e = ap (λ z. z ∷ []) (let f : Some y ≡ Some x = e in cc)
taken_more (y ∷ xs) (suc k) x e = ap (λ n. take n (y ∷ xs)) (let f : suc k + 1 ≡ suc (k + 1) = omega arith in f) ∙ ap (λ m. y ∷ m) (taken_more xs k x e)

pub places_more : (c : ℕ) (asks : List Ask) (k : ℕ) (a : Ask) → slice_get asks k ≡ Some a
    → lane_places c 0 (take (k + 1) asks) ≡ lane_places c 0 (take k asks) ++ on c (asked 0 k a)
places_more c asks k a e =
    let front = take k asks in
    let count : length front ≡ k = few_taken asks k a e in
    let at : 0 + length front ≡ k = omega arith in
    ap (λ xs. on c (all_asked 0 0 xs)) (taken_more asks k a e)
    ∙ ap (on c) (all_asked-append 0 0 front (a ∷ []))
    ∙ on-append c (all_asked 0 0 front) (all_asked 0 (0 + length front) (a ∷ []))
    ∙ ap (λ n. lane_places c 0 front ++ on c (all_asked 0 n (a ∷ []))) at
    ∙ ap (λ m. lane_places c 0 front ++ on c m) (append-nil (asked 0 k a))

-- a call that asks nothing of this context leaves its journal and the number that is due
pub places_same : (c : ℕ) (asks : List Ask) (k : ℕ) (a : Ask) → slice_get asks k ≡ Some a → on c (asked 0 k a) ≡ []
    → lane_places c 0 (take (k + 1) asks) ≡ lane_places c 0 (take k asks)
places_same c asks k a e none =
    places_more c asks k a e ∙ ap (λ m. lane_places c 0 (take k asks) ++ m) none ∙ append-nil (lane_places c 0 (take k asks))

-- a call of one item on this context is answered at the number that is due
pub due_more : (asks : List Ask) (context : ℕ) (c : Cipher) (k : ℕ) (a : Ask) (x : Item) → slice_get asks k ≡ Some a
    → on context (asked 0 k a) ≡ place 0 k 0 ∷ [] → item_of (asks ∷ []) (place 0 k 0) ≡ Some (context, x)
    → due_after (asks ∷ []) c (lane_places context 0 (take (k + 1) asks))
    ≡ next (due_after (asks ∷ []) c (lane_places context 0 (take k asks))) (answer c (due_after (asks ∷ []) c (lane_places context 0 (take k asks))) x)
due_more asks context c k a x e one item =
    let batch = asks ∷ [] in
    let front = lane_places context 0 (take k asks) in
    ap (λ ps. due c 0 (items_of batch ps)) (places_more context asks k a e ∙ ap (λ m. front ++ m) one)
    ∙ ap (due c 0) (items_of-append batch front (place 0 k 0 ∷ []))
    ∙ due-append c 0 (items_of batch front) (items_of batch (place 0 k 0 ∷ []))
    ∙ ap (λ o. due c (due_after batch c front) (item_or_none o [])) item
