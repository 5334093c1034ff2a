-- KeyGen gives one pair of keys.
use Rattle.std.proofs.Common.{◌≡◌, ◌<◌, ◌≤◌, ◌+◌, ◌*◌, ℕ, ℤ, pos, negsuc, List, [], ◌∷◌, length, refl, sym, ap, subst, ◌∙◌, inl, inr, ◌⊎◌, arith}
use Rattle.std.specs.Prelude.{◌*ℤ◌}
use Rattle.std.proofs.lemmas.Bool.{cases_order}
use Rattle.std.proofs.lemmas.List.{length-map}
use Rattle.ring_core.specs.Product.{product, IsCentred}
use Rattle.ring_core.specs.Sets.{Set}
use Rattle.ring_core.proofs.ProductLaws.{product_comm, product_assoc, product_one}
use Rattle.ring_inverse.specs.Reciprocals.{triple, IsInverse}
use Rattle.radix_pack.specs.Codings.{rq_encode}
use Rattle.rand_words.specs.Words.{words_from}
use Rattle.rand_words.proofs.SampleLaws.{IsCentred-small_words, IsCentred-short_words, length-words_from}
use Rattle.sntrup_core.specs.Keys.{drawn_g, drawn_f, FindsG, FindsNoInverse, IsKey}
use Rattle.sntrup_core.proofs.Draws.{finds_once}
use Rattle.sntrup_kem.specs.Kem.{drawn_rho, secret_key, IsGenerated}

-- what is divided by an element with an inverse is one
pub one_quotient : (m p : ℕ) (a v x y : List ℤ) → 0 < m → 2 ≤ p → length a ≡ p → length v ≡ p
    → IsCentred m p x → IsCentred m p y → IsInverse m p a v → product m p a x ≡ product m p a y
    → x ≡ y
one_quotient m p a v x y l two ea ev cx cy inverse e =
    let back : (z : List ℤ) → IsCentred m p z → product m p v (product m p a z) ≡ z = λ z cz.
    sym (product_assoc m p v a z l two ev ea cz.0)
    ∙ ap (λ t. product m p t z) inverse
    ∙ product_one m p z (omega arith) cz in
    sym (back x cx) ∙ ap (product m p v) e ∙ back y cy

-- 1/g is one
pub one_inverse : (m p : ℕ) (a x y : List ℤ) → 0 < m → 2 ≤ p → length a ≡ p
    → IsCentred m p x → IsCentred m p y → IsInverse m p a x → IsInverse m p a y → x ≡ y
one_inverse m p a x y l two ea cx cy ix iy =
    one_quotient m p a x x y l two ea cx.0 cx cy ix
    (product_comm m p a x ∙ ix ∙ sym iy ∙ product_comm m p y a)

-- whole numbers are equal or not, and so are lists of them
same_numbers : (m n : ℕ) → (m ≡ n) ⊎ (m ≡ n → ⊥)
same_numbers m n = elim (cases_order m n) [
  | inl same ↦ inl same
  | inr (inl low) ↦ inr (λ e. omega arith)
  | inr (inr high) ↦ inr (λ e. omega arith)
]

same_integers : (x y : ℤ) → (x ≡ y) ⊎ (x ≡ y → ⊥)
same_integers (pos m) (pos n) = elim (same_numbers m n) [
  | inl same ↦ inl (ap pos same)
  | inr other ↦ inr (λ e. other (let k : m ≡ n = cc in k))
]
same_integers (pos m) (negsuc n) = inr (λ e. cc)
same_integers (negsuc m) (pos n) = inr (λ e. cc)
same_integers (negsuc m) (negsuc n) = elim (same_numbers m n) [
  | inl same ↦ inl (ap negsuc same)
  | inr other ↦ inr (λ e. other (let k : m ≡ n = cc in k))
]

same_or_not : (xs ys : List ℤ) → (xs ≡ ys) ⊎ (xs ≡ ys → ⊥)
same_or_not [] [] = inl refl
same_or_not [] (y ∷ ys) = inr (λ e. cc)
same_or_not (x ∷ xs) [] = inr (λ e. cc)
same_or_not (x ∷ xs) (y ∷ ys) = elim (same_integers x y) [
  | inl same ↦ elim (same_or_not xs ys) [
    | inl rest ↦ inl (ap (λ z. z ∷ xs) same ∙ ap (λ zs. y ∷ zs) rest)
    | inr other ↦ inr (λ e. other (let k : xs ≡ ys = cc in k))
  ]
  | inr other ↦ inr (λ e. other (let k : x ≡ y = cc in k))
]

pub length-drawn_f : (set : Set) (word : ℕ → ℕ) (place j : ℕ)
    → length (drawn_f set word place j) ≡ set.p
length-drawn_f set word place j =
    (IsCentred-short_words set (words_from word (place + (j + 1) * set.p) set.p)
    (length-words_from word (place + (j + 1) * set.p) set.p)).0

pub length-drawn_g : (set : Set) (word : ℕ → ℕ) (place j : ℕ)
    → length (drawn_g set word place j) ≡ set.p
length-drawn_g set word place j =
    (IsCentred-small_words set (words_from word (place + j * set.p) set.p)
    (length-words_from word (place + j * set.p) set.p)).0

-- the parts of a key of KeyGen
one_f : (set : Set) (word : ℕ → ℕ) (place j : ℕ) (h f ginv h' f' ginv' : List ℤ)
    → IsKey set word place j h f ginv → IsKey set word place j h' f' ginv' → f ≡ f'
one_f set word place j h f ginv h' f' ginv' a b = a.f_is ∙ sym b.f_is

one_ginv : (set : Set) (word : ℕ → ℕ) (place j : ℕ) (h f ginv h' f' ginv' : List ℤ) → 2 ≤ set.p
    → IsCentred 3 set.p ginv → IsCentred 3 set.p ginv'
    → IsKey set word place j h f ginv → IsKey set word place j h' f' ginv' → ginv ≡ ginv'
one_ginv set word place j h f ginv h' f' ginv' two c c' a b =
    one_inverse 3 set.p (drawn_g set word place j) ginv ginv' (omega arith) two
    (length-drawn_g set word place j) c c' a.ginv_is b.ginv_is

one_h : (set : Set) (word : ℕ → ℕ) (place j : ℕ) (h f ginv h' f' ginv' : List ℤ) → 2 ≤ set.p
    → 2 < set.q
    → IsCentred set.q set.p h → IsCentred set.q set.p h' → FindsG set word place j
    → ¬ FindsNoInverse set word place
    → IsKey set word place j h f ginv → IsKey set word place j h' f' ginv' → h ≡ h'
unfolding FindsNoInverse
one_h set word place j h f ginv h' f' ginv' two least c c' found some a b =
    let f_drawn : List ℤ = drawn_f set word place j in
    let long : length (triple f_drawn) ≡ set.p = length-map f_drawn (λ z. pos 3 *ℤ z)
    ∙ length-drawn_f set word place j in
    let quotient : product set.q set.p (triple f_drawn) h ≡ product set.q set.p
    (triple f_drawn) h' =
    ap (λ t. product set.q set.p (triple t) h) (sym a.f_is) ∙ a.h_is ∙ sym b.h_is
    ∙ ap (λ t. product set.q set.p (triple t) h') b.f_is in
    let unless : (h ≡ h' → ⊥) → ⊥ = λ n. some (
      j,
      found,
      λ i. n
          (one_quotient set.q set.p (triple f_drawn) i.0 h h'
          (omega arith) two long i.1.0 c c' i.2 quotient),
    ) in
    elim (same_or_not h h') [ inl same ↦ same | inr other ↦ absurd (unless other) ]

-- the bytes of the pair
pub one_pair : (set : Set) (word : ℕ → ℕ) (place i j : ℕ) (pk sk pk' sk' : List ℕ) → 2 ≤ set.p
    → 2 < set.q
    → ¬ FindsNoInverse set word place → FindsG set word place i → FindsG set word place j
    → IsGenerated set word place i pk sk → IsGenerated set word place j pk' sk' → (pk ≡ pk')
    × (sk ≡ sk')
one_pair set word place i j pk sk pk' sk' two least some found found' a was =
    let same : j ≡ i = finds_once set word place j i found' found in
    let P : ℕ → Type 0 = λ n. IsGenerated set word place n pk' sk' in
    let b : IsGenerated set word place i pk' sk' = subst P same was in
    let h_same : a.h ≡ b.h = one_h set word place i a.h a.f a.ginv b.h b.f b.ginv two least
    a.h_centred b.h_centred found some a.key b.key in
    let f_same : a.f ≡ b.f = one_f set word place i a.h a.f a.ginv b.h b.f b.ginv a.key b.key in
    let ginv_same : a.ginv ≡ b.ginv =
    one_ginv set word place i a.h a.f a.ginv b.h b.f b.ginv two a.ginv_small b.ginv_small a.key
    b.key in
    let rho : List ℕ = drawn_rho set word (place + (i + 2) * set.p) in
    let pk_same : pk ≡ pk' = a.public ∙ ap (rq_encode set) h_same ∙ sym b.public in (
      pk_same,
      a.secret
          ∙ ap (λ t. secret_key set t a.ginv pk rho) f_same
          ∙ ap (λ t. secret_key set b.f t pk rho) ginv_same
          ∙ ap (λ t. secret_key set b.f b.ginv t rho) pk_same
          ∙ sym b.secret,
    )
