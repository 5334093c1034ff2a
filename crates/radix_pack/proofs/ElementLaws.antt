-- The codings of elements of R/q.
use Rattle.std.proofs.Common.{◌≡◌, ℕ, suc, ◌+◌, ◌-◌, ◌*◌, ◌/◌, ◌%◌, ◌<◌, ◌≤◌, ℤ, pos, List, [], ◌∷◌, ◌++◌, length, map, take, replicate, get_or, arith, ap, sym, ◌∙◌, refl, inl, inr}
use Rattle.std.specs.Prelude.{◌-ℤ◌, unsigned_abs}
use Rattle.std.proofs.lemmas.Bool.{cases_lt}
use Rattle.std.proofs.lemmas.List.{get_or_past, get_or-map, get_or-replicate, length-map, length-replicate, map_more, take_all}
use Rattle.ring_core.specs.Bounds.{IsWithin}
use Rattle.ring_core.specs.Product.{coefficients, centred, IsCentred}
use Rattle.ring_core.specs.Sets.{Set}
use Rattle.radix_pack.specs.declared.levels.Digit.{Digit}
use Rattle.radix_pack.specs.Radix.{encode, encode_in, encoded_length, with_radices, decode, AreDigits, AreRadices, AreBelow}
use Rattle.radix_pack.specs.Codings.{shifted, rq_length, rq_encode, rq_decode, rounded_radix, rounded_length, rounded_encode, rounded_decode, AreMultiplesOf3}
use Rattle.radix_pack.specs.Steps.{step_radix, step_digit, step_back, step_length, step_encode, step_decode, IsStep}
use Rattle.radix_pack.proofs.RoundTrip.{decode-encode, length-encode}
use Rattle.radix_pack.proofs.PartSteps.{AreBelow-decode_in}
use Rattle.radix_pack.proofs.Shifts.{centred_half, centred_digit, shifted_back, thirds_back, triple_thirds, step_radix_some, step_radix_most, step_below, multiple_below}

pub IsCentred-half : (q p : ℕ) (a : List ℤ) → q % 2 ≡ 1 → IsCentred q p a → IsWithin ((q - 1) / 2) a
IsCentred-half q p a odd c k =
    elim (cases_lt k p) [
      | inl l ↦ omega (arith, ap unsigned_abs (c.1 k l), centred_half q (coefficients a k) odd)
      | inr l ↦ omega (arith, ap unsigned_abs (get_or_past a k (pos 0) (omega (arith, c.0))))
    ]

-- ---- one radix for all

pub AreRadices-replicate : (p m : ℕ) → 1 ≤ m → m < 16384 → AreRadices (replicate p m)
AreRadices-replicate p m h l k b =
    let is : get_or (replicate p m) k 0 ≡ m = get_or-replicate p k m 0 (omega (arith, length-replicate p m)) in
    (omega (arith, is), omega (arith, is))

pub AreBelow-map : (f : ℤ → ℕ) (m p : ℕ) (a : List ℤ) → length a ≡ p → ((k : ℕ) → f (coefficients a k) < m) → AreBelow (map f a) (replicate p m)
AreBelow-map f m p a e h = (
  length-map a f ∙ e ∙ sym (length-replicate p m),
  λ k l.
      let short : k < p = omega (arith, length-replicate p m) in
      omega (arith, get_or-map f a k (pos 0) 0 (omega arith), get_or-replicate p k m 0 short, h k),
)

with_radices_map : (f : ℤ → ℕ) (m : ℕ) (a : List ℤ) → with_radices (map f a) (replicate (length a) m) ≡ map (λ c. record { value = f c; radix = m }) a
with_radices_map f m [] = refl
with_radices_map f m (c ∷ a) =
    let d : Digit = record { value = f c; radix = m } in
    ap (λ t. d ∷ t) (with_radices_map f m a)

pub AreDigits-map : (f : ℤ → ℕ) (m : ℕ) (a : List ℤ) → m < 16384 → ((k : ℕ) → k < length a → f (coefficients a k) < m) → AreDigits (map (λ c. record { value = f c; radix = m }) a)
AreDigits-map f m [] l h = tt
AreDigits-map f m (c ∷ a) l h = (h 0 (omega arith), l, AreDigits-map f m a l (λ k b. h (suc k) (omega arith)))

encode_map : (f : ℤ → ℕ) (m p : ℕ) (a : List ℤ) (xs : List Digit) → length a ≡ p → xs ≡ map (λ c. record { value = f c; radix = m }) a → encode_in (length xs) xs ≡ encode (map f a) (replicate p m)
unfolding encode
encode_map f m p a xs e d =
    let digits : List Digit = map (λ c. record { value = f c; radix = m }) a in
    let count : length digits ≡ length (replicate p m) = length-map a (λ c. record { value = f c; radix = m }) ∙ e ∙ sym (length-replicate p m) in
    ap (λ t. encode_in (length t) t) d
    ∙ ap (λ n. encode_in n digits) count
    ∙ ap (λ t. encode_in (length (replicate p m)) t) (sym (with_radices_map f m a) ∙ ap (λ n. with_radices (map f a) (replicate n m)) e)

pub step_encode_is : (step : ℕ) (set : Set) (a : List ℤ) (xs : List Digit) → length a ≡ set.p → xs ≡ map (step_digit step set.q) a → encode_in (length xs) xs ≡ step_encode step set a
unfolding step_encode
step_encode_is step set a xs e d =
    encode_map (λ c. shifted set.q c / step) (step_radix step set.q) set.p a xs e d

length-encode_map : (f : ℤ → ℕ) (m p : ℕ) (a : List ℤ) → length a ≡ p → length (encode (map f a) (replicate p m)) ≡ encoded_length (replicate p m)
length-encode_map f m p a e =
    length-encode (map f a) (replicate p m) (length-map a f ∙ e ∙ sym (length-replicate p m))

pub length-step_encode : (step : ℕ) (set : Set) (a : List ℤ) → length a ≡ set.p → length (step_encode step set a) ≡ step_length step set
unfolding step_encode step_length
length-step_encode step set a e =
    length-encode_map (λ c. shifted set.q c / step) (step_radix step set.q) set.p a e

-- ---- both codings by their steps

by_1 : (n : ℕ) → n / 1 ≡ n
by_1 n = omega arith

times_1 : (n : ℕ) → 1 * n ≡ n
times_1 n = omega arith

radix_1 : (q : ℕ) → step_radix 1 q ≡ q
radix_1 q = omega arith

pub rq_length_is : (set : Set) → step_length 1 set ≡ rq_length set
unfolding step_length rq_length
rq_length_is set = λ i. encoded_length (replicate set.p (radix_1 set.q i))

pub rq_encode_is : (set : Set) (a : List ℤ) → step_encode 1 set a ≡ rq_encode set a
unfolding step_encode rq_encode
rq_encode_is set a = λ i. encode (map (λ c. by_1 (shifted set.q c) i) a) (replicate set.p (radix_1 set.q i))

pub rq_decode_is : (set : Set) (bytes : List ℕ) → step_decode 1 set bytes ≡ rq_decode set bytes
unfolding step_decode rq_decode
rq_decode_is set bytes =
    λ i. map (λ r. pos (times_1 r i) -ℤ pos ((set.q - 1) / 2)) (decode bytes (replicate set.p (radix_1 set.q i)))

pub rounded_length_is : (set : Set) → step_length 3 set ≡ rounded_length set
unfolding step_length rounded_length
rounded_length_is set = refl

pub rounded_encode_is : (set : Set) (a : List ℤ) → step_encode 3 set a ≡ rounded_encode set a
unfolding step_encode rounded_encode
rounded_encode_is set a = refl

pub rounded_decode_is : (set : Set) (bytes : List ℕ) → step_decode 3 set bytes ≡ rounded_decode set bytes
unfolding step_decode rounded_decode
rounded_decode_is set bytes = refl

pub length-rq_encode : (set : Set) (a : List ℤ) → length a ≡ set.p → length (rq_encode set a) ≡ rq_length set
length-rq_encode set a e =
    ap length (sym (rq_encode_is set a)) ∙ length-step_encode 1 set a e ∙ rq_length_is set

pub length-rounded_encode : (set : Set) (a : List ℤ) → length a ≡ set.p → length (rounded_encode set a) ≡ rounded_length set
length-rounded_encode set a e =
    ap length (sym (rounded_encode_is set a)) ∙ length-step_encode 3 set a e ∙ rounded_length_is set

-- ---- what was encoded

map_back : (f : ℤ → ℕ) (g : ℕ → ℤ) (a : List ℤ) → ((k : ℕ) → k < length a → g (f (coefficients a k)) ≡ coefficients a k) → map g (map f a) ≡ a
map_back f g [] h = refl
map_back f g (c ∷ a) h =
    ap (λ t. t ∷ map g (map f a)) (h 0 (omega arith))
    ∙ ap (λ t. c ∷ t) (map_back f g a (λ k l. h (suc k) (omega arith)))

pub AreRadices-step : (step : ℕ) (set : Set) → IsStep step → 1 ≤ set.q → set.q < 16384 → AreRadices (replicate set.p (step_radix step set.q))
AreRadices-step step set s some l =
    AreRadices-replicate set.p (step_radix step set.q) (step_radix_some step set.q s some) (omega (arith, step_radix_most step set.q s))

step_source : (step : ℕ) (set : Set) (a : List ℤ) → IsStep step → set.q % 2 ≡ 1 → set.q < 16384 → IsCentred set.q set.p a → ((k : ℕ) → step * (shifted set.q (coefficients a k) / step) ≡ shifted set.q (coefficients a k))
    → step_decode step set (step_encode step set a) ≡ a
unfolding step_encode step_decode
step_source step set a s odd l c exact =
    let q = set.q in
    let p = set.p in
    let m = step_radix step q in
    let w = IsCentred-half q p a odd c in
    let f = λ (z : ℤ). shifted q z / step in
    ap (λ rs. map (step_back step ((q - 1) / 2)) rs) (decode-encode (map f a) (replicate p m) (AreRadices-step step set s (omega arith) l) (AreBelow-map f m p a c.0 (λ k. step_below step q (coefficients a k) s odd (w k))))
    ∙ map_back f (step_back step ((q - 1) / 2)) a (λ k _. ap (λ n. pos n -ℤ pos ((q - 1) / 2)) (exact k) ∙ shifted_back q (coefficients a k) (w k))

pub rq_source : (set : Set) (a : List ℤ) → set.q % 2 ≡ 1 → set.q < 16384 → IsCentred set.q set.p a → rq_decode set (rq_encode set a) ≡ a
rq_source set a odd l c =
    ap (λ bytes. rq_decode set bytes) (sym (rq_encode_is set a))
    ∙ sym (rq_decode_is set (step_encode 1 set a))
    ∙ step_source 1 set a (inl refl) odd l c (λ k. times_1 _ ∙ by_1 _)

pub rounded_source : (set : Set) (a : List ℤ) → set.q % 2 ≡ 1 → set.q < 16384 → (set.q - 1) / 2 % 3 ≡ 0 → IsCentred set.q set.p a → AreMultiplesOf3 a → rounded_decode set (rounded_encode set a) ≡ a
rounded_source set a odd l half c m =
    ap (λ bytes. rounded_decode set bytes) (sym (rounded_encode_is set a))
    ∙ sym (rounded_decode_is set (step_encode 3 set a))
    ∙ step_source 3 set a (inr refl) odd l c
    (λ k. thirds_back set.q (coefficients a k) half (m k) (IsCentred-half set.q set.p a odd c k))

-- ---- what is decoded

map_same : (f g : ℕ → ℤ) (xs : List ℕ) → ((k : ℕ) → k < length xs → f (get_or xs k 0) ≡ g (get_or xs k 0)) → map f xs ≡ map g xs
map_same f g [] h = refl
map_same f g (x ∷ xs) h =
    ap (λ t. t ∷ map f xs) (h 0 (omega arith)) ∙ ap (λ t. g x ∷ t) (map_same f g xs (λ k l. h (suc k) (omega arith)))

map_map : (f : ℕ → ℤ) (g : ℤ → ℤ) (xs : List ℕ) → map g (map f xs) ≡ map (λ x. g (f x)) xs
map_map f g [] = refl
map_map f g (x ∷ xs) = ap (λ t. g (f x) ∷ t) (map_map f g xs)

pub AreBelow-decode : (bytes radices : List ℕ) → AreRadices radices → AreBelow (decode bytes radices) radices
unfolding decode
AreBelow-decode bytes radices a = AreBelow-decode_in (length radices) radices bytes (omega arith) a

-- the digits are below their radix, so no coefficient is changed by reduction
pub step_decode_is : (step : ℕ) (set : Set) (bytes : List ℕ) → IsStep step → 1 ≤ set.q → set.q < 16384
    → map (λ z. centred set.q z) (map (step_back step ((set.q - 1) / 2)) (decode bytes (replicate set.p (step_radix step set.q)))) ≡ step_decode step set bytes
unfolding step_decode
step_decode_is step set bytes s some l =
    let q = set.q in
    let m = step_radix step q in
    let radices = replicate set.p m in
    let digits = decode bytes radices in
    let below = AreBelow-decode bytes radices (AreRadices-step step set s some l) in
    map_map (step_back step ((q - 1) / 2)) (λ z. centred q z) digits
    ∙ map_same (λ r. centred q (step_back step ((q - 1) / 2) r)) (step_back step ((q - 1) / 2)) digits (λ k l.
    let short : k < length radices = omega (arith, below.0) in
    let is : get_or radices k 0 ≡ m = get_or-replicate set.p k m 0 (omega (arith, length-replicate set.p m)) in
    let digit : get_or digits k 0 < m = omega (arith, below.1 k short, is) in
    centred_digit q (step * get_or digits k 0) (multiple_below step q (get_or digits k 0) s digit)
    )

pub AreMultiplesOf3-decode : (set : Set) (bytes : List ℕ) → (set.q - 1) / 2 % 3 ≡ 0 → AreMultiplesOf3 (rounded_decode set bytes)
unfolding rounded_decode
AreMultiplesOf3-decode set bytes half k =
    let q = set.q in
    let p = set.p in
    let digits = decode bytes (replicate p (rounded_radix q)) in
    let g = λ (r : ℕ). pos (3 * r) -ℤ pos ((q - 1) / 2) in
    elim (cases_lt k (length digits)) [
      | inl l ↦ ap (λ z. unsigned_abs z % 3) (get_or-map g digits k 0 (pos 0) l) ∙ triple_thirds (get_or digits k 0) ((q - 1) / 2) half
      | inr l ↦ ap (λ z. unsigned_abs z % 3) (get_or_past (map g digits) k (pos 0) (omega (arith, length-map digits g)))
    ]

-- ---- the digits of the code

-- one more digit
pub more_digits : (f : ℤ → Digit) (xs : List Digit) (a : List ℤ) (i : ℕ) (x : Digit) → i < length a → x ≡ f (coefficients a i) → xs ≡ map f (take i a) → xs ++ x ∷ [] ≡ map f (take (i + 1) a)
more_digits f xs a i x l e h =
    ap (λ ys. ys ++ x ∷ []) h
    ∙ ap (λ y. map f (take i a) ++ y ∷ []) e
    ∙ sym (map_more f a i (pos 0) l)

pub all_digits : (f : ℤ → Digit) (xs : List Digit) (a : List ℤ) (i : ℕ) → length a ≤ i → xs ≡ map f (take i a) → xs ≡ map f a
all_digits f xs a i l h = h ∙ ap (λ t. map f t) (take_all i a l)

pub AreDigits-step : (step q p : ℕ) (a : List ℤ) → IsStep step → q % 2 ≡ 1 → q < 16384 → IsCentred q p a → AreDigits (map (step_digit step q) a)
AreDigits-step step q p a s odd l c =
    AreDigits-map (λ z. shifted q z / step) (step_radix step q) a (omega (arith, step_radix_most step q s)) (λ k _. step_below step q (coefficients a k) s odd (IsCentred-half q p a odd c k))
