-- How large the sums are.
use Rattle.std.proofs.Common.{◌≡◌, ℕ, zero, suc, ◌+◌, ◌-◌, ◌*◌, ◌/◌, ◌^◌, ◌<◌, ◌≤◌, ℤ, pos, List, length, take, drop, arith, ap, ◌∙◌, inl, inr}
use Rattle.std.specs.Prelude.{◌*ℤ◌, unsigned_abs}
use Rattle.std.proofs.lemmas.Int.{ints, unsigned_abs-mul}
use Rattle.std.proofs.lemmas.Bool.{cases_lt}
use Rattle.std.proofs.lemmas.Nat.{mul-le}
use Rattle.std.proofs.Math.Nat.{mul_assoc}
use Rattle.std.proofs.lemmas.List.{get_or_past, get_or-drop, get_or-take, length-drop, length-take-le}
use Rattle.ring_core.specs.Product.{Series, coefficients, conv, IsCentred}
use Rattle.ring_core.specs.Bounds.{IsWithin}
use Rattle.ring_core.proofs.ElementLaws.{IsCentred-small, IsCentred-within, length_same, length_most}
use Rattle.ring_core.proofs.QuotientLaws.{below, below_low, below_high, shifted, conv_zero, zero_left, EndsAt, EndsAt-below}
use Rattle.ring_karatsuba.specs.Sums.{term, Fits, Adds, AreParts, IsConvolution, IsFolded}

conv_bound : (m : ℕ) (f g : Series) (c n : ℕ) → EndsAt m f → ((i j : ℕ) → unsigned_abs (f i *ℤ g j) ≤ c) → unsigned_abs (conv f g n) ≤ m * c
conv_bound zero f g c n e h =
    omega (arith, ap unsigned_abs (conv_zero f g n (λ i j s. zero_left (f i) (g j) (e.after i (omega arith)))))
conv_bound (suc m) f g c zero e h = omega (arith, h 0 0)
conv_bound (suc m) f g c (suc n) e h =
    omega (
      arith,
      ints,
      h 0 (suc n),
      conv_bound m (λ i. f (suc i)) g c n (record { after = λ k l. e.after (suc k) (omega arith) }) (λ i j. h (suc i) j),
    )

shifted_bound : (k : ℕ) (s : Series) (c n : ℕ) → ((i : ℕ) → unsigned_abs (s i) ≤ c) → unsigned_abs (shifted k s n) ≤ c
shifted_bound zero s c n h = h n
shifted_bound (suc k) s c zero h = omega arith
shifted_bound (suc k) s c (suc n) h = shifted_bound k s c n h

product_bound : (x y : ℤ) (a b : ℕ) → unsigned_abs x ≤ a → unsigned_abs y ≤ b → unsigned_abs (x *ℤ y) ≤ a * b
product_bound x y a b hx hy =
    omega (arith, unsigned_abs-mul x y, mul-le (unsigned_abs x) (unsigned_abs y) a b hx hy)

term_bound : (k : ℕ) (factor : ℤ) (list : List ℤ) (c n : ℕ) → unsigned_abs factor ≤ 1 → IsWithin c list → unsigned_abs (term k factor list n) ≤ c
term_bound k factor list c n one w =
    shifted_bound k (λ i. factor *ℤ coefficients list i) c n (λ i. omega (arith, product_bound factor (coefficients list i) 1 c one (w i)))

pub Fits-small : (sums list : List ℤ) (k : ℕ) (factor : ℤ) (d c : ℕ) → unsigned_abs factor ≤ 1 → IsWithin d sums → IsWithin c list → d + c < 2 ^ 31 → Fits sums k factor list
Fits-small sums list k factor d c one ws wl fit n =
    omega (arith, ws n, term_bound k factor list c n one wl)

pub IsWithin-adds : (old new list : List ℤ) (k : ℕ) (factor : ℤ) (d c : ℕ) → unsigned_abs factor ≤ 1 → IsWithin d old → IsWithin c list → Adds old new k factor list → IsWithin (d + c) new
IsWithin-adds old new list k factor d c one wo wl added n =
    omega (arith, ints, added n, wo n, term_bound k factor list c n one wl)

parts_product : (small long : List ℤ) (p : AreParts small long) (i j : ℕ) → unsigned_abs (coefficients small i *ℤ coefficients long j) ≤ p.parts * (4096 * p.parts)
parts_product small long p i j =
    product_bound (coefficients small i) (coefficients long j) p.parts (4096 * p.parts) (p.small_bound i) (p.long_bound j)

list_ends : (xs : List ℤ) (m : ℕ) → length xs ≡ m → EndsAt m (coefficients xs)
list_ends xs m e = record { after = λ n l. get_or_past xs n (pos 0) (omega arith) }

-- the sums of a convolution of parts
pub IsWithin-parts : (small long sums : List ℤ) → length small ≡ length long → AreParts small long → IsConvolution sums small long → IsWithin (17 * 2 ^ 24) sums
IsWithin-parts small long sums e p is n =
    let l : ℕ = length long in
    omega (
      arith,
      ap unsigned_abs (is n),
      conv_bound l (coefficients small) (coefficients long) (p.parts * (4096 * p.parts)) n (list_ends small l e) (parts_product small long p),
      mul_assoc l p.parts (4096 * p.parts),
      p.count,
      p.most,
      mul-le (l * p.parts) (4096 * p.parts) 1086 (4096 * 64) (omega (arith, p.count, p.most)) (omega (arith, p.most)),
    )

below_product : (small long : List ℤ) (p : AreParts small long) (i j k : ℕ) → unsigned_abs (below i (coefficients small) j *ℤ coefficients long k) ≤ p.parts * (4096 * p.parts)
below_product small long p i j k =
    elim (cases_lt j i) [
      | inl l ↦ omega (arith, ap (λ t. unsigned_abs (t *ℤ coefficients long k)) (below_low i (coefficients small) j l), parts_product small long p j k)
      | inr l ↦ omega (arith, ap unsigned_abs (zero_left (below i (coefficients small) j) (coefficients long k) (below_high i (coefficients small) j l)))
    ]

-- a row of short lists fits
pub row_fits : (small long sums : List ℤ) (i : ℕ) → AreParts small long → i < 32 → ((n : ℕ) → coefficients sums n ≡ conv (below i (coefficients small)) (coefficients long) n) → Fits sums i (coefficients small i) long
row_fits small long sums i p few is n =
    let c : ℕ = p.parts * (4096 * p.parts) in
    let most : c ≤ 64 * (4096 * 64) = mul-le p.parts (4096 * p.parts) 64 (4096 * 64) p.most (omega (arith, p.most)) in
    omega (
      arith,
      ap unsigned_abs (is n),
      conv_bound i (below i (coefficients small)) (coefficients long) c n (EndsAt-below i (coefficients small)) (below_product small long p i),
      shifted_bound i (λ j. coefficients small i *ℤ coefficients long j) c n (parts_product small long p i),
      mul-le (i + 1) c 32 (64 * (4096 * 64)) (omega arith) most,
    )

IsWithin-take : (bound h : ℕ) (xs : List ℤ) → h ≤ length xs → IsWithin bound xs → IsWithin bound (take h xs)
IsWithin-take bound h xs fit w n =
    elim (cases_lt n h) [
      | inl l ↦ omega (arith, ap unsigned_abs (get_or-take h xs n (pos 0) l), w n)
      | inr l ↦ omega (arith, ap unsigned_abs (get_or_past (take h xs) n (pos 0) (omega (arith, length-take-le h xs fit))))
    ]

IsWithin-drop : (bound h : ℕ) (xs : List ℤ) → IsWithin bound xs → IsWithin bound (drop h xs)
IsWithin-drop bound h xs w n = omega (arith, ap unsigned_abs (get_or-drop h xs n (pos 0)), w (h + n))

IsWithin-folded : (bound : ℕ) (folded low high : List ℤ) → IsWithin bound low → IsWithin bound high → IsFolded folded low high → IsWithin (2 * bound) folded
IsWithin-folded bound folded low high wl wh is n = omega (arith, ints, is n, wl n, wh n)

-- where a list is split
abbrev pub half : List ℤ → ℕ
half xs = length xs - length xs / 2

-- a list and its halves
pub record Halves (xs low high : List ℤ) (h : ℕ) : Type 0 where
  pub front : low ≡ take h xs
  pub back : high ≡ drop h xs
  pub fit : h ≤ length xs

-- a list as long as `long`
pub halves : (xs long low high : List ℤ) → length xs ≡ length long → low ≡ take (half long) xs → high ≡ drop (half long) xs → Halves xs low high (half long)
halves xs long low high e front back = record { front = front; back = back; fit = omega (arith, e) }

IsWithin-low : (bound h : ℕ) (xs low high : List ℤ) → Halves xs low high h → IsWithin bound xs → IsWithin bound low
IsWithin-low bound h xs low high e w = rw e.front (IsWithin-take bound h xs e.fit w)

IsWithin-high : (bound h : ℕ) (xs low high : List ℤ) → Halves xs low high h → IsWithin bound xs → IsWithin bound high
IsWithin-high bound h xs low high e w = rw e.back (IsWithin-drop bound h xs w)

-- the first halves, the second ones, and the sums of both
pub AreParts-low : (small long s0 s1 l0 l1 : List ℤ) → Halves small s0 s1 (half long) → Halves long l0 l1 (half long) → AreParts small long → AreParts s0 l0
AreParts-low small long s0 s1 l0 l1 es el p =
    let fit : length l0 ≤ length long = omega (arith, ap length el.front, length-take-le (half long) long el.fit) in
    record {
      parts = p.parts;
      most = p.most;
      count = omega (arith, p.count, mul-le (length l0) p.parts (length long) p.parts fit (omega arith));
      small_bound = IsWithin-low p.parts (half long) small s0 s1 es p.small_bound;
      long_bound = IsWithin-low (4096 * p.parts) (half long) long l0 l1 el p.long_bound;
    }

pub AreParts-high : (small long s0 s1 l0 l1 : List ℤ) → Halves small s0 s1 (half long) → Halves long l0 l1 (half long) → AreParts small long → AreParts s1 l1
AreParts-high small long s0 s1 l0 l1 es el p =
    let fit : length l1 ≤ length long = omega (arith, ap length el.back, length-drop (half long) long) in
    record {
      parts = p.parts;
      most = p.most;
      count = omega (arith, p.count, mul-le (length l1) p.parts (length long) p.parts fit (omega arith));
      small_bound = IsWithin-high p.parts (half long) small s0 s1 es p.small_bound;
      long_bound = IsWithin-high (4096 * p.parts) (half long) long l0 l1 el p.long_bound;
    }

pub AreParts-folded : (small long s0 s1 l0 l1 s l : List ℤ) → Halves small s0 s1 (half long) → Halves long l0 l1 (half long) → 32 < length long → length l ≡ half long → AreParts small long → IsFolded s s0 s1 → IsFolded l l0 l1 → AreParts s l
AreParts-folded small long s0 s1 l0 l1 s l es el many count p fs fl =
    let h : ℕ = half long in
    let few : 33 * p.parts ≤ length long * p.parts = mul-le 33 p.parts (length long) p.parts (omega arith) (omega arith) in
    let twice : 2 * h * p.parts ≤ (length long + 1) * p.parts = mul-le (2 * h) p.parts (length long + 1) p.parts (omega arith) (omega arith) in
    let size : length l * (2 * p.parts) ≡ 2 * h * p.parts = ap (λ t. t * (2 * p.parts)) count ∙ (let same : h * (2 * p.parts) ≡ 2 * h * p.parts = omega arith in same) in
    record {
      parts = 2 * p.parts;
      most = omega (arith, p.count, few);
      count = omega (arith, p.count, twice, size);
      small_bound =
          IsWithin-folded p.parts s s0 s1 (IsWithin-low p.parts h small s0 s1 es p.small_bound) (IsWithin-high p.parts h small s0 s1 es p.small_bound) fs;
      long_bound =
          λ n. omega (arith, IsWithin-folded (4096 * p.parts) l l0 l1 (IsWithin-low (4096 * p.parts) h long l0 l1 el p.long_bound) (IsWithin-high (4096 * p.parts) h long l0 l1 el p.long_bound) fl n);
    }

-- an element of R/q and a small one, as they are
AreParts-one : (small long : List ℤ) → length long ≤ 1023 → IsWithin 1 small → IsWithin 4096 long → AreParts small long
AreParts-one small long few ws wl = record {
  parts = 1;
  most = omega arith;
  count = omega arith;
  small_bound = ws;
  long_bound = wl;
}

IsWithin-whole : (small long sums : List ℤ) → length small ≡ length long → length long ≤ 1023 → IsWithin 1 small → IsWithin 4096 long → IsConvolution sums small long → IsWithin (2 ^ 22) sums
IsWithin-whole small long sums e few ws wl is n =
    omega (
      arith,
      ap unsigned_abs (is n),
      conv_bound (length long) (coefficients small) (coefficients long) 4096 n (list_ends small (length long) e) (λ i j. product_bound (coefficients small i) (coefficients long j) 1 4096 (ws i) (wl j)),
    )

-- the same, for lists that stand for two elements
pub AreParts-elements : (m p : ℕ) (a b long small : List ℤ) → 0 < m → m < 8192 → p ≤ 1023 → IsCentred m p a → IsCentred 3 p b → long ≡ a → small ≡ b → AreParts small long
AreParts-elements m p a b long small least most few ca cb e f =
    AreParts-one small long (length_most 1023 p long a e ca.0 few) (rw f (IsCentred-small p b cb)) (rw e (IsCentred-within m p a least most ca))

-- the sums of their convolution, as they were read again
pub IsWithin-elements : (m p : ℕ) (a b long small sums given : List ℤ) → 0 < m → m < 8192 → p ≤ 1023 → IsCentred m p a → IsCentred 3 p b → long ≡ a → small ≡ b → given ≡ sums → IsConvolution sums small long → IsWithin (2 ^ 22) given
IsWithin-elements m p a b long small sums given least most few ca cb e f same is =
    rw same (IsWithin-whole small long sums (length_same p small long b a f e cb.0 ca.0) (length_most 1023 p long a e ca.0 few) (rw f (IsCentred-small p b cb)) (rw e (IsCentred-within m p a least most ca)) is)
