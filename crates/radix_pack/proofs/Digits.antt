-- Whether one of the digits is bad, gathered over all of them.
use Rattle.std.proofs.Common.{◌≡◌, ◌≢◌, ◌↔◌, ℕ, ◌+◌, ◌*◌, ◌/◌, ◌%◌, ◌^◌, ◌<◌, ◌≤◌, Bool, true, false, not, ◌&&◌, ◌||◌, List, length, eqb, leb, arith, ap, sym, ◌∙◌, refl, inl, inr}
use Rattle.std.proofs.lemmas.Bool.{cases_lt, eqb-true, eqb-false, le-leb, leb-true, false≢true, true≢false}
use Rattle.std.proofs.lemmas.List.{get_or_past}
use Rattle.radix_pack.specs.Codings.{bits_at, IsMalformed}
use Rattle.radix_pack.proofs.SmallLaws.{bits_zero}

either_some : (P : Type 0) (found three past none : Bool) → (found ≡ true → P) → (three ≡ true → P) → (past ≡ true → none ≡ false → P) → (found || (three || (past && not none))) ≡ true → P
either_some P true three past none f t p e = f refl
either_some P false true past none f t p e = t refl
either_some P false false true false f t p e = p refl refl
either_some P false false true true f t p e = absurd (false≢true e)
either_some P false false false none f t p e = absurd (false≢true e)

either_none : (found three past none : Bool) → (found || (three || (past && not none))) ≡ false → (found ≡ false) × (three ≡ false) × (past ≡ true → none ≡ true)
either_none true three past none e = absurd (true≢false e)
either_none false true past none e = absurd (true≢false e)
either_none false false true false e = absurd (true≢false e)
either_none false false true true e = (refl, refl, λ p. refl)
either_none false false false none e = (refl, refl, λ p. absurd (false≢true p))

-- no digit below a place is bad
abbrev pub AreGoodBelow : ℕ → ℕ → List ℕ → Type 0
AreGoodBelow n degree bytes = (j : ℕ) → j < n → (bits_at bytes j ≢ 3) × (degree ≤ j → bits_at bytes j ≡ 0)

pub bad_found : (found : Bool) (degree k bits : ℕ) (bytes : List ℕ) → bits ≡ bits_at bytes k → (found ≡ true → IsMalformed degree bytes) → (found || (eqb bits 3 || (leb degree k && not (eqb bits 0)))) ≡ true → IsMalformed degree bytes
bad_found found degree k bits bytes e some h =
    either_some (IsMalformed degree bytes) found (eqb bits 3) (leb degree k) (eqb bits 0) some
    (λ t. (k, inl (sym e ∙ eqb-true bits 3 t)))
    (λ p z. (k, inr (leb-true degree k p, λ n. eqb-false bits 0 z (e ∙ n))))
    h

pub none_found : (found : Bool) (degree k bits : ℕ) (bytes : List ℕ) → bits ≡ bits_at bytes k → (found ≡ false → AreGoodBelow k degree bytes) → (found || (eqb bits 3 || (leb degree k && not (eqb bits 0)))) ≡ false → AreGoodBelow (k + 1) degree bytes
none_found found degree k bits bytes e none h j b =
    let none_of = either_none found (eqb bits 3) (leb degree k) (eqb bits 0) h in
    elim (cases_lt j k) [
      | inl low ↦ none none_of.0 j low
      | inr from ↦
          let same : j ≡ k = omega arith in
          let at : bits_at bytes j ≡ bits = ap (bits_at bytes) same ∙ sym e in (
            λ t. eqb-false bits 3 none_of.1 (sym at ∙ t),
            λ p. at ∙ eqb-true bits 0 (none_of.2 (le-leb degree k (omega arith))),
          )
    ]

bits_behind : (bytes : List ℕ) (k : ℕ) → 4 * length bytes ≤ k → bits_at bytes k ≡ 0
bits_behind bytes k h =
    ap (λ b. b / 4 ^ (k % 4) % 4) (get_or_past bytes (k / 4) 0 (omega arith)) ∙ bits_zero (k % 4) (omega arith)

good_bytes : (degree n : ℕ) (bytes : List ℕ) → 4 * length bytes ≤ n → AreGoodBelow n degree bytes → IsMalformed degree bytes → ⊥
good_bytes degree n bytes l good m =
    elim (cases_lt m.0 n) [
      | inl low ↦ elim m.1 [
        | inl three ↦ (good m.0 low).0 three
        | inr spare ↦ spare.1 ((good m.0 low).1 spare.0)
      ]
      | inr from ↦
          let none : bits_at bytes m.0 ≡ 0 = bits_behind bytes m.0 (omega arith) in
          elim m.1 [
            | inl three ↦ absurd (omega (arith, none, three))
            | inr spare ↦ spare.1 none
          ]
    ]

pub found_is : (found : Bool) (degree n : ℕ) (bytes : List ℕ) → 4 * length bytes ≤ n → (found ≡ true → IsMalformed degree bytes) → (found ≡ false → AreGoodBelow n degree bytes) → (found ≡ true) ↔ IsMalformed degree bytes
found_is true degree n bytes l some none = (some, λ m. refl)
found_is false degree n bytes l some none = (
  λ e. absurd (false≢true e),
  λ m. absurd (good_bytes degree n bytes l (none refl) m),
)
