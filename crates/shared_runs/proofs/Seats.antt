-- The shares of a counter and its seats, one after another.
use Rattle.std.proofs.Common.{◌≡◌, ℕ, ◌+◌, ◌<◌, ◌≤◌, List, [], ◌∷◌, ◌++◌, length, map, take, drop, get_or, Option, Some, None, IsSome, IsNone, refl, sym, ap, ◌∙◌, arith}
use Rattle.std.specs.Prelude.{sum}
use Rattle.std.proofs.lemmas.List.{drop_more, get_or-map, map_more, length-map}
use Rattle.std.proofs.lemmas.List.Sums.{sum-map, sum_by-cons, get_or-le-sum_by}
use Rattle.stamp_counter.specs.Seats.{SeatView, fresh_seat, fresh_seats}
use Rattle.shared_runs.specs.Sharing.{shares}

-- the entries of one context are no more than those of all
pub one_of_all : (all : List (List ℕ)) (k most : ℕ) → k < length all → sum (map sum all) ≤ most
    → sum (get_or all k []) ≤ most
one_of_all all k most low few =
    let one = get_or-le-sum_by sum all k [] low in
    omega (arith, sum-map sum all, one)

pub one_share_more : (all : List (List ℕ)) (others k : ℕ) → k < length all
    → shares (take k all) others ++ sum (get_or all k []) ∷ [] ≡ shares (take (k + 1) all) others
one_share_more all others k low = ap (λ l. 0 ∷ others ∷ l) (sym (map_more sum all k [] low))

pub sum_shares : (all : List (List ℕ)) (others : ℕ)
    → sum (shares all others) ≡ sum (map sum all) + others
sum_shares all others =
    omega (
      arith,
      sum_by-cons (λ (n : ℕ). n) 0 (others ∷ map sum all),
      sum_by-cons (λ (n : ℕ). n) others (map sum all),
    )

pub both_parts : (x y : SeatView) (xs ys : List SeatView) → x ∷ xs ≡ y ∷ ys → (x ≡ y) × (xs ≡ ys)
both_parts x y xs ys e = (cc, cc)

-- the first seat of all is that of the share 0, and the next that of other lists
pub first_seats : (counter given : List ℕ) (all : List (List ℕ)) (others : ℕ)
    (seats left rest : List SeatView) (seat other : SeatView) → seats ≡ fresh_seats counter given
    → given ≡ shares all others → seats ≡ seat ∷ left → left ≡ other ∷ rest
    → (seat ≡ fresh_seat counter 0) × (other ≡ fresh_seat counter others)
    × (rest ≡ fresh_seats counter (map sum all))
first_seats counter given all others seats left rest seat other is shares_are taken then =
    let first = both_parts seat (fresh_seat counter 0) left _
    (sym taken ∙ is ∙ ap (fresh_seats counter) shares_are) in
    let next = both_parts other (fresh_seat counter others) rest _ (sym then ∙ first.1) in
    (first.0, next.0, next.1)

no_cons : (x : SeatView) (xs : List SeatView) → [] ≡ x ∷ xs → ⊥
no_cons x xs e = cc

-- where seats are left one is taken
pub some_taken : (taken : Option SeatView) (seats left : List SeatView) (seat : SeatView)
    → (IsNone taken → seats ≡ []) → seats ≡ seat ∷ left → IsSome taken
some_taken None seats left seat none is = absurd (no_cons seat left (sym (none refl) ∙ is))
some_taken (Some s) seats left seat none is = refl

-- the first seat that is left is that of the next share
pub next_seat : (counter : List ℕ) (all : List (List ℕ)) (k : ℕ) → k < length all
    → (seats left : List SeatView) (seat : SeatView)
    → seats ≡ fresh_seats counter (drop k (map sum all)) → seats ≡ seat ∷ left
    → (seat ≡ fresh_seat counter (sum (get_or all k [])))
    × (left ≡ fresh_seats counter (drop (k + 1) (map sum all)))
next_seat counter all k low seats left seat is taken =
    let size = length-map all sum in
    let share : get_or (map sum all) k 0 ≡ sum (get_or all k []) = get_or-map sum all k [] 0 low in
    let next = drop_more (map sum all) k 0 (omega arith) in
    let seats_are : seat ∷ left ≡ fresh_seat counter (sum (get_or all k []))
    ∷ fresh_seats counter (drop (k + 1) (map sum all)) =
    sym taken ∙ is ∙ ap (fresh_seats counter) next
    ∙ ap (λ n. fresh_seats counter (n ∷ drop (k + 1) (map sum all))) share in
    both_parts seat (fresh_seat counter (sum (get_or all k []))) left _ seats_are

-- there is one
pub some_seat : (counter : List ℕ) (all : List (List ℕ)) (k : ℕ) → k < length all
    → (seats : List SeatView) → seats ≡ fresh_seats counter (drop k (map sum all)) → seats ≡ [] → ⊥
some_seat counter all k low seats is none =
    let size = length-map all sum in
    let next = drop_more (map sum all) k 0 (omega arith) in
    let e : [] ≡ fresh_seat counter (get_or (map sum all) k 0)
    ∷ fresh_seats counter (drop (k + 1) (map sum all)) =
    sym none ∙ is ∙ ap (fresh_seats counter) next in
    no_cons (fresh_seat counter (get_or (map sum all) k 0)) _ e
