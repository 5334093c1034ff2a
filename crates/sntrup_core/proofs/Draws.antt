-- The draws of g, one after another.
use Rattle.std.proofs.Common.{◌≡◌, ℕ, ◌+◌, ◌*◌, ◌%◌, ◌^◌, ◌<◌, ◌≤◌, ℤ, List, arith, ap, sym, subst, ◌∙◌, inl, inr, below_more, Ok, Err}
use Rattle.std.specs.Prelude.{◌≢◌, ◌↔◌, ◌⊎◌, Result, IfOk, IfErr}
use Rattle.std.proofs.lemmas.Bool.{cases_order}
use Rattle.std.proofs.lemmas.Nat.{mul-le}
use Rattle.ring_core.specs.Product.{product, IsCentred}
use Rattle.ring_core.specs.Sets.{Set}
use Rattle.ring_inverse.specs.Reciprocals.{triple, IsInverse, HasInverse}
use Rattle.rand_words.specs.Samples.{small, short}
use Rattle.rand_words.specs.Words.{words_from}
use Rattle.rand_words.proofs.SampleLaws.{IsCentred-small_words, IsCentred-short_words, length-words_from}
use Rattle.sntrup_core.specs.declared.keys.KeyFault.{KeyFault}
use Rattle.sntrup_core.specs.declared.keys.KeyFault.TheVariants.{Exhausted, NoInverse, OutOfMemory}
use Rattle.sntrup_core.specs.Keys.{drawn_g, drawn_f, FindsNone, FindsG, IsExhausted, FindsNoInverse, IsKey, IsInvertible, IsFoundWith}
use Rattle.sntrup_core.proofs.Residues.{IsCentred-from_3}
use Rattle.sntrup_core.proofs.Quotient.{quotient_is}

pub room_for_draw : (p place j : ℕ) → j < 64 → place + 64 * p ≤ 2 ^ 32 → place + j * p + p ≤ 2 ^ 32
room_for_draw p place j l h = omega (arith, mul-le (j + 1) p 64 p (omega arith) (omega arith))

-- the draw at the place that was reached
pub drawn_here : (set : Set) (word word' : ℕ → ℕ) (place place' j : ℕ) → word' ≡ word → place' ≡ place + j * set.p → small set (words_from word' place' set.p) ≡ drawn_g set word place j
drawn_here set word word' place place' j e l =
    ap (λ (t : ℕ → ℕ). small set (words_from t place' set.p)) e
    ∙ ap (λ t. small set (words_from word t set.p)) l

pub FindsNone-more : (set : Set) (word word' : ℕ → ℕ) (place place' j : ℕ) → word' ≡ word → place' ≡ place + j * set.p → FindsNone set word place j → ¬ HasInverse 3 set.p (small set (words_from word' place' set.p)) → FindsNone set word place (j + 1)
unfolding FindsNone
FindsNone-more set word word' place place' j e l none here =
    let P : List ℤ → Type 0 = λ a. ¬ HasInverse 3 set.p a in
    below_more (λ i. ¬ HasInverse 3 set.p (drawn_g set word place i)) j none (subst P (drawn_here set word word' place place' j e l) here)

pub found_with : (set : Set) (word word' : ℕ → ℕ) (place place' next j : ℕ) (g ginv : List ℤ) → word' ≡ word → place' ≡ place + j * set.p → j < 64 → FindsNone set word place j → IsInvertible set word' place' g ginv → next ≡ place' + set.p → IsFoundWith set word place next g ginv
unfolding FindsG
found_with set word word' place place' next j g ginv e l low none a n =
    let here : g ≡ drawn_g set word place j = a.0 ∙ drawn_here set word word' place place' j e l in
    let P : List ℤ → Type 0 = λ t. IsInverse 3 set.p t ginv in
    (j, (low, (ginv, a.1, subst P here a.2), none), (here, a.1, a.2), omega arith)

pub finds_once : (set : Set) (word : ℕ → ℕ) (place i j : ℕ) → FindsG set word place i → FindsG set word place j → i ≡ j
unfolding FindsG FindsNone
finds_once set word place i j a b =
    elim (cases_order i j) [
      | inl same ↦ same
      | inr (inl less) ↦ absurd (b.2 i less a.1)
      | inr (inr more) ↦ absurd (a.2 j more b.1)
    ]

pub finds_no_end : (set : Set) (word : ℕ → ℕ) (place j : ℕ) → FindsG set word place j → IsExhausted set word place → ⊥
unfolding IsExhausted FindsNone FindsG
finds_no_end set word place j a none = none j a.0 a.1

pub takes_two_more : (set : Set) (word : ℕ → ℕ) (place next after i j : ℕ) → FindsG set word place j → next ≡ place + (j + 1) * set.p → after ≡ next + set.p → FindsG set word place i → after ≡ place + (i + 2) * set.p
takes_two_more set word place next after i j a n m b =
    let same : i ≡ j = finds_once set word place i j b a in
    omega (arith, n, m, ap {B = ℕ} (λ t. (t + 2) * set.p) same)

-- f from the place that was reached
pub f_here : (set : Set) (word word' : ℕ → ℕ) (place place' j : ℕ) (f : List ℤ) → word' ≡ word → place' ≡ place + (j + 1) * set.p → f ≡ short set (words_from word' place' set.p) → f ≡ drawn_f set word place j
f_here set word word' place place' j f e l h =
    h
    ∙ ap (λ (t : ℕ → ℕ). short set (words_from t place' set.p)) e
    ∙ ap (λ t. short set (words_from word t set.p)) l

-- what was found, and the f that was drawn after it
pub record Drawn (set : Set) (word : ℕ → ℕ) (place j : ℕ) (g ginv f : List ℤ) : Type 0 where
  pub finds : FindsG set word place j
  pub g_is : IsInvertible set word (place + j * set.p) g ginv
  pub f_is : f ≡ drawn_f set word place j

pub no_inverse_from : (set : Set) (word : ℕ → ℕ) (place j : ℕ) (g ginv f : List ℤ) → Drawn set word place j g ginv f → ¬ HasInverse set.q set.p (triple f) → FindsNoInverse set word place
unfolding FindsNoInverse
no_inverse_from set word place j g ginv f d none =
    let P : List ℤ → Type 0 = λ a. ¬ HasInverse set.q set.p (triple a) in
    (j, d.finds, subst P d.f_is none)

pub has_no_fault : (set : Set) (word : ℕ → ℕ) (place j : ℕ) (g ginv f v : List ℤ) → Drawn set word place j g ginv f → IsCentred set.q set.p v → IsInverse set.q set.p (triple f) v → FindsNoInverse set word place → ⊥
unfolding FindsNoInverse
has_no_fault set word place j g ginv f v d cv inverse n =
    let same : j ≡ n.0 = finds_once set word place j n.0 d.finds n.1 in
    let P : List ℤ → Type 0 = λ a. HasInverse set.q set.p (triple a) in
    n.2 (subst P (d.f_is ∙ ap (λ i. drawn_f set word place i) same) (v, cv, inverse))

pub key_from : (set : Set) (word : ℕ → ℕ) (place j : ℕ) (g ginv f v h : List ℤ) → 2 ≤ set.p → 2 < set.q → set.q % 2 ≡ 1 → Drawn set word place j g ginv f → IsCentred set.q set.p v → IsInverse set.q set.p (triple f) v → h ≡ product set.q set.p v g → (i : ℕ) × FindsG set word place i × IsKey set word place i h f ginv
key_from set word place j g ginv f v h two least odd d cv inverse e =
    let G : List ℤ → Type 0 = λ a. IsInverse 3 set.p a ginv in
    let C : List ℤ → Type 0 = λ a. IsCentred 3 set.p a in
    let small_g : IsCentred 3 set.p g = subst C (sym d.g_is.0) (IsCentred-small_words set (words_from word (place + j * set.p) set.p) (length-words_from word (place + j * set.p) set.p)) in
    let small_f : IsCentred 3 set.p f = subst C (sym d.f_is) (IsCentred-short_words set (words_from word (place + (j + 1) * set.p) set.p) (length-words_from word (place + (j + 1) * set.p) set.p)) in (
      j,
      d.finds,
      record {
        f_is = d.f_is;
        ginv_is = subst G d.g_is.0 d.g_is.2;
        h_is =
            quotient_is set.q set.p f g v h (omega arith) two small_f.0 cv.0 (IsCentred-from_3 set.q set.p g least odd small_g) inverse e
            ∙ d.g_is.0;
      },
    )

-- the same, of polynomials that are f and 1 / g
pub key_with : (set : Set) (word : ℕ → ℕ) (place j : ℕ) (g ginv f v h f' ginv' : List ℤ) → 2 ≤ set.p → 2 < set.q → set.q % 2 ≡ 1 → Drawn set word place j g ginv f → f' ≡ f → ginv' ≡ ginv → IsCentred set.q set.p v → IsInverse set.q set.p (triple f) v → h ≡ product set.q set.p v g → (i : ℕ) × FindsG set word place i × IsKey set word place i h f' ginv'
key_with set word place j g ginv f v h f' ginv' two least odd d ef eg cv inverse e =
    let F : List ℤ → Type 0 = λ t. (i : ℕ) × FindsG set word place i × IsKey set word place i h t ginv' in
    let G : List ℤ → Type 0 = λ t. (i : ℕ) × FindsG set word place i × IsKey set word place i h f t in
    subst F (sym ef) (subst G (sym eg) (key_from set word place j g ginv f v h two least odd d cv inverse e))

-- the faults there are once f is drawn
pub never_exhausted : {A : Type 0} (last : Result A KeyFault) (P : Type 0) → IfErr last (λ fault. (fault ≡ OutOfMemory) ⊎ ((fault ≡ NoInverse) × P)) → last ≢ Err Exhausted
never_exhausted (Ok x) P only h = cc
never_exhausted (Err fault) P (inl m) h = cc
never_exhausted (Err fault) P (inr n) h = let is = n.0 in cc

pub no_inverse_exactly : {A : Type 0} (last : Result A KeyFault) (set : Set) (word : ℕ → ℕ) (place j : ℕ) (g ginv f : List ℤ) → Drawn set word place j g ginv f → IfOk last (λ _. HasInverse set.q set.p (triple f)) → IfErr last (λ fault. (fault ≡ OutOfMemory) ⊎ ((fault ≡ NoInverse) × (¬ HasInverse set.q set.p (triple f)))) → last ≢ Err OutOfMemory → ((last ≡ Err NoInverse) ↔ FindsNoInverse set word place)
no_inverse_exactly (Ok x) set word place j g ginv f d has only other =
    (λ h. absurd (cc), λ n. absurd (has_no_fault set word place j g ginv f has.0 d has.1 has.2 n))
no_inverse_exactly (Err fault) set word place j g ginv f d has (inl m) other = absurd (other (ap Err m))
no_inverse_exactly (Err fault) set word place j g ginv f d has (inr n) other =
    (λ _. no_inverse_from set word place j g ginv f d n.1, λ _. ap Err n.0)

pub drawn_from : (set : Set) (word word' : ℕ → ℕ) (place next : ℕ) (g ginv f : List ℤ) (found : IsFoundWith set word place next g ginv) → word' ≡ word → f ≡ short set (words_from word' next set.p) → Drawn set word place found.0 g ginv f
drawn_from set word word' place next g ginv f found e h = record {
  finds = found.1;
  g_is = found.2;
  f_is = f_here set word word' place next found.0 f e found.3 h;
}

pub none_drawn : (set : Set) (words : List ℕ) (g : List ℤ) → g ≡ small set words → ¬ HasInverse 3 set.p g → ¬ HasInverse 3 set.p (small set words)
none_drawn set words g e none =
    let P : List ℤ → Type 0 = λ a. ¬ HasInverse 3 set.p a in
    subst P e none

pub room_for_f : (set : Set) (word : ℕ → ℕ) (place j : ℕ) → FindsG set word place j → place + 65 * set.p ≤ 2 ^ 32 → place + (j + 1) * set.p + set.p ≤ 2 ^ 32
unfolding FindsG
room_for_f set word place j a h =
    let low : j < 64 = a.0 in
    omega (arith, mul-le (j + 2) set.p 65 set.p (omega arith) (omega arith))
