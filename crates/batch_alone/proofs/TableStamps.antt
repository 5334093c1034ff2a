-- A history in which one context is the table: the stamps of its other places.
use Rattle.std.proofs.Common.{◌≡◌, ℕ, zero, suc, ◌+◌, ◌*◌, ◌==◌, Bool, true, false, cond, List, [], ◌∷◌, ◌++◌, length, map, sym, refl, ap, ◌∙◌, arith, append_assoc, length-append, eqb-true, eq-eqb, get_or}
use Rattle.std.specs.List.{range_with_len}
use Rattle.std.proofs.lemmas.List.{get_or-append-add}
use Rattle.context_books.specs.Batches.{Spot, spots, block, place}
use Rattle.context_books.specs.Histories.{mark, stamped_on}
use Rattle.context_books.specs.LiveChecks.{call_mark}
use Rattle.batch_alone.specs.Tables.{restamped}

-- the stamps of the places on other contexts than this
abbrev pub other_stamps : ℕ → ℕ → List Spot → List ℕ
other_stamps table stamp [] = []
other_stamps table stamp (s ∷ ss) =
    cond (s.context == table) (other_stamps table (stamp + 1) ss)
    (stamp ∷ other_stamps table (stamp + 1) ss)

-- the places on other contexts
abbrev pub others : ℕ → List Spot → List Spot
others table [] = []
others table (s ∷ ss) = cond (s.context == table) (others table ss) (s ∷ others table ss)

pub other_stamps-append : (n s : ℕ) (xs ys : List Spot)
    → other_stamps n s (xs ++ ys) ≡ other_stamps n s xs ++ other_stamps n (s + length xs) ys
other_stamps-append n s [] ys = ap (λ k. other_stamps n k ys) (let e : s ≡ s + 0 = omega arith in e)
other_stamps-append n s (x ∷ xs) ys =
    one (x.context == n) (other_stamps-append n (s + 1) xs ys
    ∙ ap (λ k. other_stamps n (s + 1) xs ++ other_stamps n k ys)
    (let e : s + 1 + length xs ≡ s + suc (length xs) = omega arith in e))
  where
    one : (b : Bool)
        → other_stamps n (s + 1) (xs ++ ys)
        ≡ other_stamps n (s + 1) xs ++ other_stamps n (s + suc (length xs)) ys
        → cond b (other_stamps n (s + 1) (xs ++ ys)) (s ∷ other_stamps n (s + 1) (xs ++ ys))
        ≡ cond b (other_stamps n (s + 1) xs) (s ∷ other_stamps n (s + 1) xs)
        ++ other_stamps n (s + suc (length xs)) ys
    one true e = e
    one false e = ap (λ l. s ∷ l) e

pub others-append : (n : ℕ) (xs ys : List Spot) → others n (xs ++ ys) ≡ others n xs ++ others n ys
others-append n [] ys = refl
others-append n (x ∷ xs) ys = one (x.context == n) (others-append n xs ys)
  where
    one : (b : Bool) → others n (xs ++ ys) ≡ others n xs ++ others n ys
        → cond b (others n (xs ++ ys)) (x ∷ others n (xs ++ ys))
        ≡ cond b (others n xs) (x ∷ others n xs) ++ others n ys
    one true e = e
    one false e = ap (λ l. x ∷ l) e

pub length-other_stamps : (n s : ℕ) (xs : List Spot)
    → length (other_stamps n s xs) ≡ length (others n xs)
length-other_stamps n s [] = refl
length-other_stamps n s (x ∷ xs) = one (x.context == n) (length-other_stamps n (s + 1) xs)
  where
    one : (b : Bool) → length (other_stamps n (s + 1) xs) ≡ length (others n xs)
        → length (cond b (other_stamps n (s + 1) xs) (s ∷ other_stamps n (s + 1) xs))
        ≡ length (cond b (others n xs) (x ∷ others n xs))
    one true e = e
    one false e = ap suc e

pub other_stamps-spots : (n c s l call i m : ℕ) → (c == n) ≡ false
    → other_stamps n s (spots c (block l call i m)) ≡ range_with_len s m
other_stamps-spots n c s l call i zero ne = refl
other_stamps-spots n c s l call i (suc m) ne =
    let rest = other_stamps n (s + 1) (spots c (block l call (i + 1) m)) in
    ap (λ b. cond b rest (s ∷ rest)) ne
    ∙ ap (λ r. s ∷ r) (other_stamps-spots n c (s + 1) l call (i + 1) m ne)

pub others-spots : (n c l call i m : ℕ) → (c == n) ≡ false
    → others n (spots c (block l call i m)) ≡ spots c (block l call i m)
others-spots n c l call i zero ne = refl
others-spots n c l call i (suc m) ne =
    let s : Spot = record { context = c; place = place l call i } in
    let rest = others n (spots c (block l call (i + 1) m)) in
    ap (λ b. cond b rest (s ∷ rest)) ne ∙ ap (λ r. s ∷ r) (others-spots n c l call (i + 1) m ne)

-- ---- a journal of such a history

at_seam : (pre more : List ℕ) (s : ℕ) → get_or (pre ++ s ∷ more) (length pre) 0 ≡ s
at_seam pre more s =
    ap (λ k. get_or (pre ++ s ∷ more) k 0) (let e : length pre ≡ length pre + 0 = omega arith in e)
    ∙ get_or-append-add pre (s ∷ more) 0 0

-- its places have the stamps of the places on other contexts, in order
pub restamps : (n c : ℕ) → (n == c) ≡ false → (pre : List ℕ) (s : ℕ) (xs : List Spot)
    → stamped_on c s xs
    ≡ map (restamped (pre ++ other_stamps n s xs)) (stamped_on c (length pre) (others n xs))
restamps n c ne pre s [] = refl
restamps n c ne pre s (x ∷ xs) =
    one (x.context == n) (x.context == c) refl refl (restamps n c ne pre (s + 1) xs)
    (restamps n c ne (pre ++ s ∷ []) (s + 1) xs
    ∙ (λ i. map (restamped (append_assoc pre (s ∷ []) (other_stamps n (s + 1) xs) i))
    (stamped_on c (length-append pre (s ∷ []) i) (others n xs))))
  where
    behind : List ℕ
    behind = other_stamps n (s + 1) xs

    one : (b d : Bool) → (x.context == n) ≡ b → (x.context == c) ≡ d
        → stamped_on c (s + 1) xs
        ≡ map (restamped (pre ++ behind)) (stamped_on c (length pre) (others n xs))
        → stamped_on c (s + 1) xs
        ≡ map (restamped (pre ++ s ∷ behind)) (stamped_on c (length pre + 1) (others n xs))
        → cond d (mark x.place s ∷ stamped_on c (s + 1) xs) (stamped_on c (s + 1) xs)
        ≡ map (restamped (pre ++ cond b behind (s ∷ behind)))
        (stamped_on c (length pre) (cond b (others n xs) (x ∷ others n xs)))
    one true true e f same later =
        absurd (let both : n ≡ c = sym (eqb-true x.context n e) ∙ eqb-true x.context c f in
        let g : true ≡ false = sym (eq-eqb n c both) ∙ ne in cc)
    one true false e f same later = same
    one false true e f same later =
        (λ i. mark x.place (sym (at_seam pre behind s) i) ∷ later i)
        ∙ ap (λ t. map (restamped (pre ++ s ∷ behind))
        (cond t (mark x.place (length pre) ∷ stamped_on c (length pre + 1) (others n xs))
        (stamped_on c (length pre + 1) (others n xs)))) (sym f)
    one false false e f same later =
        later
        ∙ ap (λ t. map (restamped (pre ++ s ∷ behind))
        (cond t (mark x.place (length pre) ∷ stamped_on c (length pre + 1) (others n xs))
        (stamped_on c (length pre + 1) (others n xs)))) (sym f)

-- ---- the places of calls that are two each

-- the place of the second of the two
abbrev pub call_spot : Spot → Spot
call_spot s =
    record { context = s.context; place = place s.place.lane (2 * s.place.call + 1) s.place.item }

pub called_spots : (c l call i m : ℕ)
    → map call_spot (spots c (block l call i m)) ≡ spots c (block l (2 * call + 1) i m)
called_spots c l call i zero = refl
called_spots c l call i (suc m) =
    ap (λ r. record { context = c; place = place l (2 * call + 1) i } ∷ r)
    (called_spots c l call (i + 1) m)

pub called_stamped : (c s : ℕ) (xs : List Spot)
    → stamped_on c s (map call_spot xs) ≡ map call_mark (stamped_on c s xs)
called_stamped c s [] = refl
called_stamped c s (x ∷ xs) = one (x.context == c) (called_stamped c (s + 1) xs)
  where
    one : (b : Bool)
        → stamped_on c (s + 1) (map call_spot xs) ≡ map call_mark (stamped_on c (s + 1) xs)
        → cond b (mark (call_spot x).place s ∷ stamped_on c (s + 1) (map call_spot xs))
        (stamped_on c (s + 1) (map call_spot xs))
        ≡ map call_mark (cond b (mark x.place s ∷ stamped_on c (s + 1) xs) (stamped_on c (s + 1) xs))
    one true e = ap (λ l. mark (call_spot x).place s ∷ l) e
    one false e = e
