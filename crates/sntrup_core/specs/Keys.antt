-- Key generation of Streamlined NTRU Prime (NTRU Prime round 3, KeyGen) as a function of random
-- words, for a parameter set. The words are given by a place and by the word at each place; a
-- polynomial is the list of its p coefficients, from x^0 on.
use Rattle.std.specs.Prelude.{◌≡◌, ℕ, ◌+◌, ◌*◌, ◌<◌, ℤ, List}
use Rattle.ring_core.specs.Product.{product, IsCentred}
use Rattle.ring_core.specs.Sets.{Set}
use Rattle.ring_inverse.specs.Reciprocals.{triple, IsInverse, HasInverse}
use Rattle.rand_words.specs.Samples.{small, short}
use Rattle.rand_words.specs.Words.{words_from}

-- How often g is drawn. The standard sets no end; here it is 64 times, and then there is no key.
abbrev pub most_draws : ℕ
most_draws = 64

-- g of draw j, counted from 0: p words are passed for each draw before it
abbrev pub drawn_g : Set → (ℕ → ℕ) → ℕ → ℕ → List ℤ
drawn_g set word place j = small set (words_from word (place + j * set.p) set.p)

-- f, from the p words after those of g
abbrev pub drawn_f : Set → (ℕ → ℕ) → ℕ → ℕ → List ℤ
drawn_f set word place j = short set (words_from word (place + (j + 1) * set.p) set.p)

-- the g of none of the first n draws has an inverse modulo 3
unfoldable pub FindsNone : Set → (ℕ → ℕ) → ℕ → ℕ → Type 0
FindsNone set word place n = (i : ℕ) → i < n → ¬ HasInverse 3 set.p (drawn_g set word place i)

-- draw j is the first whose g has an inverse modulo 3
unfoldable pub FindsG : Set → (ℕ → ℕ) → ℕ → ℕ → Type 0
FindsG set word place j =
    (j < most_draws) × HasInverse 3 set.p (drawn_g set word place j) × FindsNone set word place j

-- no draw gave a g
unfoldable pub IsExhausted : Set → (ℕ → ℕ) → ℕ → Type 0
IsExhausted set word place = FindsNone set word place most_draws

-- there is a g, and 3 f has no inverse modulo q
unfoldable pub FindsNoInverse : Set → (ℕ → ℕ) → ℕ → Type 0
FindsNoInverse set word place =
    (j : ℕ) × FindsG set word place j × ¬ HasInverse set.q set.p (triple (drawn_f set word place j))

-- the key of draw j: the public h is g / (3 f), and the secret key is f and 1 / g
pub record IsKey (set : Set) (word : ℕ → ℕ) (place j : ℕ) (h f ginv : List ℤ) : Type 0 where
  pub f_is : f ≡ drawn_f set word place j
  pub ginv_is : IsInverse 3 set.p (drawn_g set word place j) ginv
  pub h_is : product set.q set.p (triple f) h ≡ drawn_g set word place j

-- ---- for the proofs

-- g is drawn from the place, and has this inverse modulo 3
abbrev pub IsInvertible : Set → (ℕ → ℕ) → ℕ → List ℤ → List ℤ → Type 0
IsInvertible set word place g ginv =
    (g ≡ small set (words_from word place set.p)) × IsCentred 3 set.p ginv × IsInverse 3 set.p g ginv

-- g is that of the first draw with an inverse, after which the words stand at `next`
abbrev pub IsFoundWith : Set → (ℕ → ℕ) → ℕ → ℕ → List ℤ → List ℤ → Type 0
IsFoundWith set word place next g ginv =
    (j : ℕ) × FindsG set word place j × IsInvertible set word (place + j * set.p) g ginv × (next ≡ place + (j + 1) * set.p)
