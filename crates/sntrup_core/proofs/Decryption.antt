-- Decryption gives back each short polynomial that was encrypted.
use Rattle.std.proofs.Common.{◌≡◌, ◌≢◌, ℕ, ◌+◌, ◌-◌, ◌*◌, ◌/◌, ◌%◌, ◌<◌, ◌≤◌, Bool, cond, ℤ, pos, List, length, map, arith, ap, sym, subst, ◌∙◌, refl, inl, inr}
use Rattle.std.specs.Prelude.{◌+ℤ◌, ◌-ℤ◌, ◌*ℤ◌, unsigned_abs}
use Rattle.std.proofs.lemmas.Int.{ints}
use Rattle.std.proofs.lemmas.Bool.{cases_eq, eq-eqb, ne_eqb}
use Rattle.std.proofs.lemmas.List.{get_or-map, length-map}
use Rattle.std.proofs.lemmas.List.FromFn.{fill_by_all, length-map-range_with_len}
use Rattle.ring_core.specs.Product.{Series, coefficients, conv, wrapped, centred, product, one, weight, IsCentred}
use Rattle.ring_core.specs.Sets.{Set}
use Rattle.ring_core.proofs.QuotientLaws.{same_series}
use Rattle.ring_core.proofs.SeriesLaws.{conv_add}
use Rattle.ring_core.proofs.ResidueLaws.{SameModulo, modulo_same, modulo_trans, modulo_add, modulo_refl, centred_same}
use Rattle.ring_core.proofs.Reduce.{centred_three}
use Rattle.ring_core.proofs.ElementLaws.{IsCentred-from_small, map_at}
use Rattle.ring_core.proofs.ProductLaws.{made_at, wrapped_add, product_comm, product_assoc, product_one}
use Rattle.ring_inverse.specs.Reciprocals.{triple, IsInverse}
use Rattle.ring_inverse.proofs.CongruenceLaws.{modulo_from_centred}
use Rattle.rand_words.specs.Words.{words_from}
use Rattle.rand_words.proofs.MarkLaws.{weight-short}
use Rattle.rand_words.proofs.SampleLaws.{IsCentred-small_words, IsCentred-short_words, length-words_from}
use Rattle.sntrup_core.specs.Keys.{drawn_g, drawn_f}
use Rattle.sntrup_core.specs.Encryption.{rounded, encrypted, e_of, shortened, decrypted, ones}
use Rattle.sntrup_core.specs.Laws.{IsSmall, IsShort, whole_sum, DecryptsExactly}
use Rattle.ring_inverse.proofs.TripleLaws.{times_comm, triple_times}
use Rattle.sntrup_core.proofs.Residues.{centred_own}
use Rattle.sntrup_core.proofs.Bound.{sums_bounded}

-- what rounding adds
abbrev pub rounding : ℤ → ℤ
rounding z = pos 0 -ℤ centred 3 z

IsSmall-rounding : (set : Set) (xs : List ℤ) → length xs ≡ set.p → IsSmall set (map rounding xs)
IsSmall-rounding set xs e =
    IsCentred-from_small set.p (map rounding xs) (length-map xs rounding ∙ e)
    (λ k. omega (arith, ints, ap unsigned_abs (map_at rounding xs refl k), centred_three (coefficients xs k)))

-- what the lemmas below take for granted of a key and a short polynomial
pub record Encrypts (set : Set) (f g h ginv r : List ℤ) : Type 0 where
  pub degree : 2 ≤ set.p
  pub least : 2 < set.q
  pub odd : set.q % 2 ≡ 1
  pub bound : 8 * set.w ≤ (set.q - 1) / 2
  pub f_short : IsShort set f
  pub g_small : IsSmall set g
  pub h_long : length h ≡ set.p
  pub ginv_small : IsSmall set ginv
  pub r_short : IsShort set r
  pub h_is : product set.q set.p (triple f) h ≡ g
  pub ginv_is : IsInverse 3 set.p g ginv

-- what masks r in the ciphertext
abbrev pub mask : Set → List ℤ → List ℤ → List ℤ
mask set h r = map rounding (product set.q set.p h r)

length-product : (m p : ℕ) (a b : List ℤ) → length (product m p a b) ≡ p
length-product m p a b = length-map-range_with_len (λ k. centred m (wrapped p (conv (coefficients a) (coefficients b)) k)) 0 p

-- 3 f (h r) is g r modulo q
first_part : (set : Set) (f g h ginv r : List ℤ) → Encrypts set f g h ginv r → (k : ℕ) → k < set.p → SameModulo set.q (wrapped set.p (conv (coefficients (triple f)) (coefficients (product set.q set.p h r))) k) (wrapped set.p (conv (coefficients g) (coefficients r)) k)
first_part set f g h ginv r e k l =
    let hr : List ℤ = product set.q set.p h r in
    let positive : 0 < set.q = omega (arith, e.least) in
    let tf : List ℤ = triple f in
    let same : product set.q set.p tf hr ≡ product set.q set.p g r =
    sym (product_assoc set.q set.p tf h r positive e.degree (length-map f (λ z. pos 3 *ℤ z) ∙ e.f_short.0.0) e.h_long e.r_short.0.0)
    ∙ ap (λ (t : List ℤ). product set.q set.p t r) e.h_is
    in
    modulo_from_centred set.q (wrapped set.p (conv (coefficients tf) (coefficients hr)) k) (wrapped set.p (conv (coefficients g) (coefficients r)) k) positive
    (sym (made_at set.p (λ i. centred set.q (wrapped set.p (conv (coefficients tf) (coefficients hr)) i)) k l)
    ∙ ap (λ (t : List ℤ). coefficients t k) same
    ∙ made_at set.p (λ i. centred set.q (wrapped set.p (conv (coefficients g) (coefficients r)) i)) k l)

rounded_is : (z : ℤ) → rounded z ≡ z +ℤ rounding z
rounded_is z = omega (arith, ints)

-- 3 f c over the whole numbers: 3 f (h r), and 3 f m
parted : (set : Set) (f h r : List ℤ) (k : ℕ) → wrapped set.p (conv (coefficients (triple f)) (coefficients (encrypted set r h))) k ≡ wrapped set.p (conv (coefficients (triple f)) (coefficients (product set.q set.p h r))) k +ℤ (pos 3 *ℤ wrapped set.p (conv (coefficients f) (coefficients (mask set h r))) k)
parted set f h r k =
    let tf : Series = coefficients (triple f) in
    let c : Series = coefficients (encrypted set r h) in
    let x : Series = coefficients (product set.q set.p h r) in
    let m : Series = coefficients (mask set h r) in
    let sum : (i : ℕ) → c i ≡ x i +ℤ m i =
    λ i. map_at rounded (product set.q set.p h r) refl i
    ∙ rounded_is (x i)
    ∙ ap (λ t. x i +ℤ t) (sym (map_at rounding (product set.q set.p h r) refl i))
    in
    times_comm set.p tf c k
    ∙ ap (λ (u : Series). wrapped set.p (conv u tf) k) (same_series c (λ i. x i +ℤ m i) sum)
    ∙ ap (λ (u : Series). wrapped set.p u k) (same_series (conv (λ i. x i +ℤ m i) tf) (λ n. conv x tf n +ℤ conv m tf n) (conv_add x m tf))
    ∙ wrapped_add set.p (conv x tf) (conv m tf) k
    ∙ ap (λ t. t +ℤ wrapped set.p (conv m tf) k) (times_comm set.p x tf k)
    ∙ ap (λ t. wrapped set.p (conv tf x) k +ℤ t) (times_comm set.p m tf k ∙ triple_times set.p f m k)

-- 3 f c in R/q is the sum itself
unreduced : (set : Set) (f g h ginv r : List ℤ) → Encrypts set f g h ginv r → (k : ℕ) → k < set.p → coefficients (product set.q set.p (triple f) (encrypted set r h)) k ≡ whole_sum set g r f (mask set h r) k
unreduced set f g h ginv r e k l =
    let positive : 0 < set.q = omega (arith, e.least) in
    let tf : Series = coefficients (triple f) in
    let c : Series = coefficients (encrypted set r h) in
    let x : Series = coefficients (product set.q set.p h r) in
    let m : List ℤ = mask set h r in
    let more : ℤ = pos 3 *ℤ wrapped set.p (conv (coefficients f) (coefficients m)) k in
    let gr : ℤ = wrapped set.p (conv (coefficients g) (coefficients r)) k in
    let same : SameModulo set.q (wrapped set.p (conv tf c) k) (gr +ℤ more) =
    modulo_trans set.q (wrapped set.p (conv tf c) k) (wrapped set.p (conv tf x) k +ℤ more) (gr +ℤ more)
    (modulo_same set.q (wrapped set.p (conv tf c) k) (wrapped set.p (conv tf x) k +ℤ more) (parted set f h r k))
    (modulo_add set.q (wrapped set.p (conv tf x) k) gr more more (first_part set f g h ginv r e k l) (modulo_refl set.q more))
    in
    let small : unsigned_abs (gr +ℤ more) ≤ 8 * set.w =
    sums_bounded set g r f m e.g_small e.r_short e.f_short (IsSmall-rounding set (product set.q set.p h r) (length-product set.q set.p h r)) k l
    in
    made_at set.p (λ i. centred set.q (wrapped set.p (conv tf c) i)) k l
    ∙ centred_same set.q (wrapped set.p (conv tf c) k) (gr +ℤ more) positive same
    ∙ centred_own set.q (gr +ℤ more) positive e.odd (omega (arith, small, e.bound))

three_more : (x y : ℤ) → centred 3 (x +ℤ (pos 3 *ℤ y)) ≡ centred 3 x
three_more x y =
    centred_same 3 (x +ℤ (pos 3 *ℤ y)) x (omega arith) (record { by = y; is = omega (arith, ints) })

-- modulo 3 it is g r
e_is : (set : Set) (f g h ginv r : List ℤ) → Encrypts set f g h ginv r → e_of set (encrypted set r h) f ≡ product 3 set.p g r
e_is set f g h ginv r e =
    let c : List ℤ = encrypted set r h in
    let m : List ℤ = mask set h r in
    let big : List ℤ = product set.q set.p (triple f) c in
    let count : length big ≡ set.p = length-product set.q set.p (triple f) c in
    let gr : Series = λ i. wrapped set.p (conv (coefficients g) (coefficients r)) i in
    fill_by_all (λ k. centred 3 (gr k)) (map (λ z. centred 3 z) big) set.p (pos 0)
    (length-map big (λ z. centred 3 z) ∙ count)
    (λ k l.
    get_or-map (λ z. centred 3 z) big k (pos 0) (pos 0) (omega arith)
    ∙ ap (λ t. centred 3 t) (unreduced set f g h ginv r e k l)
    ∙ three_more (gr k) (wrapped set.p (conv (coefficients f) (coefficients m)) k))

-- g r, times 1 / g
divided : (p : ℕ) (g r ginv : List ℤ) → 2 ≤ p → length g ≡ p → IsCentred 3 p r → length ginv ≡ p → IsInverse 3 p g ginv → product 3 p (product 3 p g r) ginv ≡ r
divided p g r ginv two eg cr ei inverse =
    ap (λ (t : List ℤ). product 3 p t ginv) (product_comm 3 p g r)
    ∙ product_assoc 3 p r g ginv (omega arith) two cr.0 eg ei
    ∙ ap (λ (t : List ℤ). product 3 p r t) (product_comm 3 p g ginv ∙ inverse)
    ∙ product_comm 3 p r (one p)
    ∙ product_one 3 p r (omega arith) cr

pub shortened_short : (set : Set) (a r : List ℤ) → a ≡ r → weight r ≡ set.w → shortened set a ≡ r
shortened_short set a r e h =
    ap (λ t. shortened set t) e ∙ ap (λ (b : Bool). cond b r (ones set)) (eq-eqb (weight r) set.w h)

-- what was chosen by the weight
pub shortened_by : (set : Set) (r list : List ℤ) → (weight r ≡ set.w → list ≡ r) → (weight r ≢ set.w → list ≡ ones set) → list ≡ shortened set r
shortened_by set r list short other =
    elim (cases_eq (weight r) set.w) [
      | inl same ↦ short same ∙ sym (shortened_short set r r refl same)
      | inr differs ↦
          other differs ∙ sym (ap (λ (b : Bool). cond b r (ones set)) (ne_eqb (weight r) set.w differs))
    ]

pub decrypted_is : (set : Set) (f g h ginv r : List ℤ) → Encrypts set f g h ginv r → decrypted set (encrypted set r h) f ginv ≡ r
decrypted_is set f g h ginv r e =
    shortened_short set (product 3 set.p (e_of set (encrypted set r h) f) ginv) r
    (ap (λ (t : List ℤ). product 3 set.p t ginv) (e_is set f g h ginv r e)
    ∙ divided set.p g r ginv e.degree e.g_small.0 e.r_short.0 e.ginv_small.0 e.ginv_is)
    e.r_short.1

pub IsShort-drawn : (set : Set) (word : ℕ → ℕ) (place : ℕ) (f : List ℤ) (j : ℕ) → set.w ≤ set.p → f ≡ drawn_f set word place j → IsShort set f
IsShort-drawn set word place f j h e =
    let words : List ℕ = words_from word (place + (j + 1) * set.p) set.p in
    let count : length words ≡ set.p = length-words_from word (place + (j + 1) * set.p) set.p in
    let P : List ℤ → Type 0 = λ a. IsShort set a in
    subst P (sym e) (IsCentred-short_words set words count, weight-short set words (omega arith))

pub decrypts : (set : Set) → 2 ≤ set.p → 2 < set.q → set.q % 2 ≡ 1 → set.w ≤ set.p → 8 * set.w ≤ (set.q - 1) / 2 → DecryptsExactly set
decrypts set degree least odd most bound word place j h f ginv r key ch ci sr =
    decrypted_is set f (drawn_g set word place j) h ginv r (record {
      degree = degree;
      least = least;
      odd = odd;
      bound = bound;
      f_short = IsShort-drawn set word place f j most key.f_is;
      g_small = IsCentred-small_words set (words_from word (place + j * set.p) set.p) (length-words_from word (place + j * set.p) set.p);
      h_long = ch.0;
      ginv_small = ci;
      r_short = sr;
      h_is = key.h_is;
      ginv_is = key.ginv_is;
    })
