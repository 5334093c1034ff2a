-- What a lane tells, when no call is to come.
use Rattle.std.proofs.Common.{◌≡◌, ℕ, zero, suc, ◌+◌, List, [], ◌∷◌, length, drop, ap, ◌∙◌, arith}
use Rattle.std.specs.Prelude.{slice_index_or}
use Rattle.std.proofs.lemmas.Option.{get_or_from_slice_get}
use Rattle.call_places.specs.declared.entries.Place.{Place}
use Rattle.hpke_context.specs.Answers.{Answer, At_limit}
use Rattle.context_books.specs.Batches.{block}
use Rattle.lane_workers.specs.OnTheWay.{AllReplied}
use Rattle.lane_workers.specs.Served.{Told}
use Rattle.lane_workers.specs.Lanes.{Tells}

-- the answer to an item, by its call and its number there
abbrev answer_at : List (List Answer) → Place → Answer
answer_at given p = slice_index_or (slice_index_or given p.call []) p.item At_limit

abbrev pub told_now : List (List Answer) → List ℕ → List ℕ → Told
told_now given guesses misses =
    record { replies = answer_at given; guesses = guesses; misses = misses }

drop_one : (all : List Answer) (i : ℕ) (x : Answer) (xs : List Answer) → drop i all ≡ x ∷ xs
    → (slice_index_or all i At_limit ≡ x) × (drop (i + 1) all ≡ xs)
drop_one [] zero x xs e = absurd (let f : [] ≡ x ∷ xs = e in cc)
drop_one [] (suc i) x xs e = absurd (let f : [] ≡ x ∷ xs = e in cc)
drop_one (y ∷ all) zero x xs e =
    let f : y ∷ all ≡ x ∷ xs = e in
    let first : y ≡ x = cc in
    let rest : all ≡ xs = cc in
    (first, rest)
drop_one (y ∷ all) (suc i) x xs e =
    let r = drop_one all i x xs e in
    (r.0, ap (λ j. drop j (y ∷ all)) (let z : suc i + 1 ≡ suc (i + 1) = omega arith in z) ∙ r.1)

replied_from : (lane call i : ℕ) (given : List (List Answer)) (xs : List Answer)
    → drop i (slice_index_or given call []) ≡ xs
    → AllReplied (answer_at given) (block lane call i (length xs)) xs
replied_from lane call i given [] e = tt
replied_from lane call i given (x ∷ xs) e =
    let r = drop_one (slice_index_or given call []) i x xs e in
    (r.0, replied_from lane call (i + 1) given xs r.1)

pub tells_now : (lane : ℕ) (given : List (List Answer)) (guesses misses : List ℕ)
    → Tells lane given guesses misses (told_now given guesses misses)
tells_now lane given guesses misses = record {
  replies = λ call xs e. replied_from lane call 0 given xs (get_or_from_slice_get given call xs [] e);
  guesses = λ i g e. get_or_from_slice_get guesses i g 0 e;
  misses = λ i m e. get_or_from_slice_get misses i m 0 e;
}
