-- Parts of the texts, as loops make them.
use Rattle.std.proofs.Common.{◌≡◌, ℕ, ◌+◌, ◌*◌, ◌-◌, ◌%◌, ◌<◌, ◌==◌, min, Bool, true, false, cond, List, [], ◌∷◌, ◌++◌, length, take, drop, refl, sym, ap, ◌∙◌, append_assoc, append-nil, add-one, inl, inr, arith, if◌then◌else◌}
use Rattle.std.specs.List.{flat_map, range_with_len, filter}
use Rattle.std.specs.Fork.{slice_chunk}
use Rattle.std.proofs.lemmas.List.{take_all, length-drop}
use Rattle.std.proofs.lemmas.Grind.{flat_map-append}
use Rattle.std.proofs.lemmas.Bool.{cases_lt}
use Rattle.request_frames.proofs.AddedContexts.{range_more}
use Rattle.demo_runs.specs.Texts.{seal_line, share_of, sealing_lane, sealing_lanes, opening_line, opening_lines, opening_size}

-- one number more
pub numbers_more : (n : ℕ) → range_with_len 0 (n + 1) ≡ range_with_len 0 n ++ n ∷ []
numbers_more n = rw add-one (range_more 0 n ∙ ap (λ (k : ℕ). range_with_len 0 n ++ k ∷ []) (let e : 0 + n ≡ n = omega arith in e))

filter_last : (test : ℕ → Bool) (xs : List ℕ) (x : ℕ) → filter test (xs ++ x ∷ []) ≡ filter test xs ++ cond (test x) (x ∷ []) []
filter_last test [] x = refl
filter_last test (y ∷ xs) x = go (test y) (filter_last test xs x)
  where
    go : (b : Bool) → filter test (xs ++ x ∷ []) ≡ filter test xs ++ cond (test x) (x ∷ []) []
        → cond b (y ∷ filter test (xs ++ x ∷ [])) (filter test (xs ++ x ∷ []))
        ≡ cond b (y ∷ filter test xs) (filter test xs) ++ cond (test x) (x ∷ []) []
    go true ih = ap (λ (ks : List ℕ). y ∷ ks) ih
    go false ih = ih

seals_last : (b : Bool) (x : ℕ) → flat_map (λ (j : ℕ). seal_line) (cond b (x ∷ []) []) ≡ (if b then seal_line else [])
seals_last true x = refl
seals_last false x = refl

pub share_more : (j lanes lane : ℕ) → flat_map (λ (j : ℕ). seal_line) (share_of (j + 1) lanes lane)
    ≡ flat_map (λ (j : ℕ). seal_line) (share_of j lanes lane) ++ (if j % lanes == lane then seal_line else [])
share_more j lanes lane =
    let test : ℕ → Bool = λ k. k % lanes == lane in
    ap (λ (ks : List ℕ). flat_map (λ (j : ℕ). seal_line) (filter test ks)) (numbers_more j)
    ∙ ap (flat_map (λ (j : ℕ). seal_line)) (filter_last test (range_with_len 0 j) j)
    ∙ flat_map-append (λ (j : ℕ). seal_line) (filter test (range_with_len 0 j)) (cond (test j) (j ∷ []) [])
    ∙ ap (λ (text : List ℕ). flat_map (λ (j : ℕ). seal_line) (filter test (range_with_len 0 j)) ++ text) (seals_last (test j) j)

last_part : {X : Type 0} (f : X → List ℕ) (x : X) → flat_map f (x ∷ []) ≡ f x
last_part f x = append-nil (f x)

pub lanes_more : (messages lanes n : ℕ) → sealing_lanes messages lanes (n + 1)
    ≡ sealing_lanes messages lanes n ++ sealing_lane messages lanes n
lanes_more messages lanes n =
    let f : ℕ → List ℕ = sealing_lane messages lanes in
    ap (flat_map f) (numbers_more n) ∙ flat_map-append f (range_with_len 0 n) (n ∷ [])
    ∙ ap (λ (text : List ℕ). flat_map f (range_with_len 0 n) ++ text) (last_part f n)

pub lines_more : (cts : List (List ℕ)) (n : ℕ) → opening_lines cts (n + 1)
    ≡ opening_lines cts n ++ opening_line (slice_chunk cts opening_size n)
lines_more cts n =
    let f : ℕ → List ℕ = λ n. opening_line (slice_chunk cts opening_size n) in
    ap (flat_map f) (numbers_more n) ∙ flat_map-append f (range_with_len 0 n) (n ∷ [])
    ∙ ap (λ (text : List ℕ). flat_map f (range_with_len 0 n) ++ text) (last_part f n)

-- what stood there, and a part more
pub grows : {now was : List ℕ} (first part more : List ℕ) {whole : List ℕ} → now ≡ was ++ more → was ≡ first ++ part → whole ≡ part ++ more
    → now ≡ first ++ whole
grows {was = was} first part more new old all =
    new ∙ ap (λ (text : List ℕ). text ++ more) old ∙ append_assoc first part more
    ∙ ap (λ (text : List ℕ). first ++ text) (sym all)

-- a part as a slice
pub part_is : (cts : List (List ℕ)) (n end : ℕ) → end ≡ min (length cts) (n * 256 + 256) → n * 256 < length cts
    → take (end - n * 256) (drop (n * 256) cts) ≡ slice_chunk cts opening_size n
part_is cts n end upto some =
    let rest : List (List ℕ) = drop (n * 256) cts in
    let size : length rest ≡ length cts - n * 256 = length-drop (n * 256) cts in
    elim (cases_lt (n * 256 + 256) (length cts)) [
      | inl low ↦ ap (λ (k : ℕ). take k rest) (let e : end - n * 256 ≡ 256 = omega arith in e)
      | inr high ↦ take_all (end - n * 256) rest (omega arith) ∙ sym (take_all 256 rest (omega arith))
    ]
