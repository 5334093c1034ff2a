-- The loop that takes low bytes away while the radix is at least the limit.
use Rattle.std.proofs.Common.{◌≡◌, ℕ, zero, suc, ◌+◌, ◌*◌, ◌/◌, ◌%◌, ◌^◌, ◌<◌, ◌≤◌, min, length, List, [], ◌∷◌, ◌++◌, arith, ap, sym, ◌∙◌, refl, append_assoc, zero-add, inl, inr}
use Rattle.std.proofs.lemmas.Bool.{cases_lt, lt-ltb, le-ltb}
use Rattle.std.proofs.Math.Nat.{pow-suc}
use Rattle.std.proofs.lemmas.Nat.{mul-lt}
use Rattle.radix_pack.specs.Radix.{bytes_in, radix_in, low_bytes, above_bytes, number, pair_bytes, pair_radix, last_bytes}

pub div_ceil_is : (m : ℕ) → m / 256 + min 1 (m % 256) ≡ (m + 255) / 256
div_ceil_is m = omega arith

bytes_more : (turns limit m : ℕ) → limit ≤ m → bytes_in (suc turns) limit m ≡ suc (bytes_in turns limit ((m + 255) / 256))
bytes_more turns limit m h = simp (le-ltb m limit h)

radix_more : (turns limit m : ℕ) → limit ≤ m → radix_in (suc turns) limit m ≡ radix_in turns limit ((m + 255) / 256)
radix_more turns limit m h = simp (le-ltb m limit h)

bytes_done : (turns limit m : ℕ) → m < limit → bytes_in turns limit m ≡ 0
bytes_done zero limit m h = refl
bytes_done (suc turns) limit m h = simp (lt-ltb m limit h)

radix_done : (turns limit m : ℕ) → m < limit → radix_in turns limit m ≡ m
radix_done zero limit m h = refl
radix_done (suc turns) limit m h = simp (lt-ltb m limit h)

-- ---- counting the bytes

-- `count` turns are done of those that lead to `total` and `last`, and `left` is left
pub record Counting (limit total last left count : ℕ) : Type 0 where
  pub turns : ℕ
  pub total_is : count + bytes_in turns limit left ≡ total
  pub last_is : radix_in turns limit left ≡ last

pub Counting-none : (limit m : ℕ) → Counting limit (bytes_in 2 limit m) (radix_in 2 limit m) m 0
Counting-none limit m = record { turns = 2; total_is = zero-add (bytes_in 2 limit m); last_is = refl }

counting_more : (turns limit total last left count : ℕ) → last < limit → limit ≤ left → count + bytes_in turns limit left ≡ total → radix_in turns limit left ≡ last → Counting limit total last ((left + 255) / 256) (count + 1)
counting_more zero limit total last left count e h t l = absurd (omega arith)
counting_more (suc turns) limit total last left count e h t l = record {
  turns = turns;
  total_is = omega (arith, bytes_more turns limit left h, t);
  last_is = sym (radix_more turns limit left h) ∙ l;
}

pub Counting-more : (limit total last left count : ℕ) → last < limit → limit ≤ left → Counting limit total last left count → Counting limit total last ((left + 255) / 256) (count + 1)
Counting-more limit total last left count e h s = counting_more s.turns limit total last left count e h s.total_is s.last_is

pub Counting-all : (limit total last left count : ℕ) → left < limit → Counting limit total last left count → (count ≡ total) × (left ≡ last)
Counting-all limit total last left count h s = (
  omega (arith, bytes_done s.turns limit left h, s.total_is),
  sym (radix_done s.turns limit left h) ∙ s.last_is,
)

bytes_most : (turns limit m : ℕ) → bytes_in turns limit m ≤ turns
bytes_most zero limit m = omega arith
bytes_most (suc turns) limit m =
    elim (cases_lt m limit) [
      | inl l ↦ omega (arith, bytes_done (suc turns) limit m l)
      | inr l ↦ omega (arith, bytes_more turns limit m l, bytes_most turns limit ((m + 255) / 256))
    ]

pub two_bytes_most : (limit m : ℕ) → bytes_in 2 limit m ≤ 2
two_bytes_most limit m = bytes_most 2 limit m

pub Counting-most : (limit last left m count : ℕ) → Counting limit (bytes_in 2 limit m) last left count → count ≤ 2
Counting-most limit last left m count s = omega (arith, s.total_is, two_bytes_most limit m)

-- ---- writing the bytes

-- `out` holds the bytes of some turns, and `value` and `radix` are left
pub record Writing (limit : ℕ) (bytes : List ℕ) (last_value last_radix value radix : ℕ) (out : List ℕ) : Type 0 where
  pub turns : ℕ
  pub bytes_are : out ++ low_bytes (bytes_in turns limit radix) value ≡ bytes
  pub value_is : above_bytes (bytes_in turns limit radix) value ≡ last_value
  pub radix_is : radix_in turns limit radix ≡ last_radix

pub Writing-none : (limit value radix : ℕ) (out : List ℕ) → Writing limit (out ++ low_bytes (bytes_in 2 limit radix) value) (above_bytes (bytes_in 2 limit radix) value) (radix_in 2 limit radix) value radix out
Writing-none limit value radix out = record { turns = 2; bytes_are = refl; value_is = refl; radix_is = refl }

writing_more : (turns limit : ℕ) (bytes : List ℕ) (last_value last_radix value radix : ℕ) (out : List ℕ) → last_radix < limit → limit ≤ radix → out ++ low_bytes (bytes_in turns limit radix) value ≡ bytes → above_bytes (bytes_in turns limit radix) value ≡ last_value → radix_in turns limit radix ≡ last_radix → Writing limit bytes last_value last_radix (value / 256) ((radix + 255) / 256) (out ++ value % 256 ∷ [])
writing_more zero limit bytes last_value last_radix value radix out e h b v r = absurd (omega arith)
writing_more (suc turns) limit bytes last_value last_radix value radix out e h b v r = record {
  turns = turns;
  bytes_are = append_assoc out (value % 256 ∷ []) (low_bytes (bytes_in turns limit ((radix + 255) / 256)) (value / 256)) ∙ ap (λ n. out ++ low_bytes n value) (sym (bytes_more turns limit radix h)) ∙ b;
  value_is = ap (λ n. above_bytes n value) (sym (bytes_more turns limit radix h)) ∙ v;
  radix_is = sym (radix_more turns limit radix h) ∙ r;
}

pub Writing-more : (limit : ℕ) (bytes : List ℕ) (last_value last_radix value radix : ℕ) (out : List ℕ) → last_radix < limit → limit ≤ radix → Writing limit bytes last_value last_radix value radix out → Writing limit bytes last_value last_radix (value / 256) ((radix + 255) / 256) (out ++ value % 256 ∷ [])
Writing-more limit bytes last_value last_radix value radix out e h s =
    writing_more s.turns limit bytes last_value last_radix value radix out e h s.bytes_are s.value_is s.radix_is

-- ---- what the two turns give

pub length-low_bytes : (count r : ℕ) → length (low_bytes count r) ≡ count
length-low_bytes zero r = refl
length-low_bytes (suc count) r = ap suc (length-low_bytes count (r / 256))

pub number-low_bytes : (count r : ℕ) → number (low_bytes count r) + 256 ^ count * above_bytes count r ≡ r
number-low_bytes zero r = omega arith
number-low_bytes (suc count) r =
    omega (
      arith,
      ap (λ t. t * above_bytes count (r / 256)) (pow-suc 256 count),
      ap (λ t. 256 * t) (number-low_bytes count (r / 256)),
    )

above_below : (turns limit m r : ℕ) → r < m → above_bytes (bytes_in turns limit m) r < radix_in turns limit m
above_below zero limit m r h = h
above_below (suc turns) limit m r h =
    elim (cases_lt m limit) [
      | inl l ↦ simp (lt-ltb m limit l) h
      | inr l ↦ simp (le-ltb m limit l) (above_below turns limit ((m + 255) / 256) (r / 256) (omega arith))
    ]

-- two bytes are enough
below_in_two : (limit m : ℕ) → (((m + 255) / 256 + 255) / 256) < limit → radix_in 2 limit m < limit
below_in_two limit m h =
    elim (cases_lt m limit) [
      | inl l ↦ simp (lt-ltb m limit l) l
      | inr l ↦ elim (cases_lt ((m + 255) / 256) limit) [
        | inl k ↦ simp (le-ltb m limit l, lt-ltb ((m + 255) / 256) limit k) k
        | inr k ↦ simp (le-ltb m limit l, le-ltb ((m + 255) / 256) limit k) h
      ]
    ]

pub product_in_two : (m n : ℕ) → m < 16384 → n < 16384 → radix_in 2 16384 (m * n) < 16384
product_in_two m n h k = below_in_two 16384 (m * n) (omega (arith, mul-lt m n 16384 16384 h k))

pub last_in_two : (m : ℕ) → m < 16384 → radix_in 2 2 m < 2
last_in_two m h = below_in_two 2 m (omega arith)

pub pair_radix_below : (m n : ℕ) → m < 16384 → n < 16384 → pair_radix m n < 16384
unfolding pair_radix
pair_radix_below m n h k = product_in_two m n h k

radix_least : (turns limit m : ℕ) → 1 ≤ m → 1 ≤ radix_in turns limit m
radix_least zero limit m h = h
radix_least (suc turns) limit m h =
    elim (cases_lt m limit) [
      | inl l ↦ simp (lt-ltb m limit l) h
      | inr l ↦ simp (le-ltb m limit l) (radix_least turns limit ((m + 255) / 256) (omega arith))
    ]

one_product : (m n : ℕ) → 1 ≤ m → 1 ≤ n → 1 ≤ m * n
one_product m n h k = grind arith

pub pair_radix_least : (m n : ℕ) → 1 ≤ m → 1 ≤ n → 1 ≤ pair_radix m n
unfolding pair_radix
pair_radix_least m n h k = radix_least 2 16384 (m * n) (one_product m n h k)

pub pair_above_below : (m n r : ℕ) → r < m * n → above_bytes (pair_bytes m n) r < pair_radix m n
unfolding pair_radix pair_bytes
pair_above_below m n r h = above_below 2 16384 (m * n) r h

pub last_bytes_most : (m : ℕ) → last_bytes m ≤ 2
unfolding last_bytes
last_bytes_most m = two_bytes_most 2 m

pub last_number : (m r : ℕ) → m < 16384 → r < m → number (low_bytes (last_bytes m) r) ≡ r
unfolding last_bytes
last_number m r h l =
    let none : above_bytes (bytes_in 2 2 m) r ≡ 0 = omega (arith, above_below 2 2 m r l, last_in_two m h) in
    omega (arith, number-low_bytes (bytes_in 2 2 m) r, ap (λ t. 256 ^ bytes_in 2 2 m * t) none)

pub joined_below : (a m b n : ℕ) → a < m → b < n → a + b * m < m * n
joined_below a m b n h k = grind arith
