-- Schedules, read from lane to lane.
use Rattle.std.proofs.Common.{◌≡◌, ◌∙◌, ◌<◌, ◌≤◌, ℕ, zero, suc, Bool, true, false, refl, sym, ap, ap₂, arith, List, [], ◌∷◌, ◌++◌, length, get_or, Option, Some, None, codes}
use Rattle.std.specs.Prelude.{option_map, option_and_then, nat_le, if◌then◌else◌}
use Rattle.std.specs.List.{slice_split}
use Rattle.std.specs.Str.{bytes_eq}
use Rattle.std.proofs.lemmas.Bool.{le-leb, lt-leb}
use Rattle.byte_strings.specs.Decimals.{decimal_from_to}
use Rattle.batch_words.specs.Words.{is_comma, lanes, schedule}

-- a first lane before the others
abbrev pub before : Option ℕ → Option (List ℕ) → Option (List ℕ)
before first others = option_and_then (λ lane. option_map (λ more. lane ∷ more) others) first

pub before_some : (first : Option ℕ) (others : Option (List ℕ)) (read : List ℕ) → before first others ≡ Some read
    → (lane : ℕ) × (more : List ℕ) × (first ≡ Some lane) × (others ≡ Some more) × (read ≡ lane ∷ more)
before_some None others read e = cc
before_some (Some lane) None read e = cc
before_some (Some lane) (Some more) read e = (lane, more, refl, refl, cc)

before_none : (first : Option ℕ) → before first None ≡ None
before_none None = refl
before_none (Some lane) = refl

-- one more lane
pub lanes-more : (texts : List (List ℕ)) (text read : List ℕ) (lane : ℕ) → lanes texts ≡ Some read → decimal_from_to 0 15 text ≡ Some lane
    → lanes (texts ++ text ∷ []) ≡ Some (read ++ lane ∷ [])
lanes-more [] text read lane is_read is_lane =
    let none : [] ≡ read = cc in
    ap (λ o. before o (Some [])) is_lane ∙ ap (λ r. Some (r ++ lane ∷ [])) none
lanes-more (first ∷ texts) text read lane is_read is_lane =
    let parts = before_some (decimal_from_to 0 15 first) (lanes texts) read is_read in
    ap₂ before parts.2 (lanes-more texts text parts.1 lane parts.3 is_lane) ∙ ap (λ r. Some (r ++ lane ∷ [])) (sym parts.4)

-- a text that is no lane
pub lanes-none : (texts : List (List ℕ)) (k : ℕ) (d : List ℕ) → k < length texts → decimal_from_to 0 15 (get_or texts k d) ≡ None → lanes texts ≡ None
lanes-none [] k d within no_lane = absurd (omega arith)
lanes-none (first ∷ texts) zero d within no_lane = ap (λ o. before o (lanes texts)) no_lane
lanes-none (first ∷ texts) (suc k) d within no_lane =
    ap (before (decimal_from_to 0 15 first)) (lanes-none texts k d (omega arith) no_lane) ∙ before_none (decimal_from_to 0 15 first)

abbrev steps : List ℕ → List (List ℕ)
steps text = slice_split is_comma text

module _ (text : List ℕ) (is_not_none : bytes_eq text (codes "-") ≡ false) where
  pub schedule-of : (read : List ℕ) → lanes (steps text) ≡ Some read → length (steps text) ≤ 65536 → Some read ≡ schedule text
  schedule-of read is few =
      let fits : nat_le (length (steps text)) 65536 ≡ true = le-leb _ _ few in
      rw (is_not_none, fits) (sym is)

  pub schedule-too_long : 65536 < length (steps text) → None ≡ schedule text
  schedule-too_long many =
      let exceeds : nat_le (length (steps text)) 65536 ≡ false = lt-leb _ _ many in
      rw (is_not_none, exceeds) refl

  pub schedule-no_lane : lanes (steps text) ≡ None → None ≡ schedule text
  schedule-no_lane none = rw is_not_none (go (nat_le (length (steps text)) 65536))
    where
      go : (b : Bool) → None ≡ (if b then lanes (steps text) else None)
      go true = sym none
      go false = refl
