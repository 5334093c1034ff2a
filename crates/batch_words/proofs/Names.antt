-- Names of options and of operands. In a name 119 is `w` and 109 is `m`.
use Rattle.std.proofs.Common.{◌≡◌, ◌∙◌, ℕ, Bool, true, false, refl, sym, ap, inl, inr, ◌⊎◌, List, [], ◌∷◌, map, codes}
use Rattle.std.specs.Prelude.{◌||◌}
use Rattle.std.specs.List.{list_all}
use Rattle.std.specs.Str.{bytes_eq}
use Rattle.std.proofs.lemmas.Bool.{and_parts, false_from_ne_true, or_left, or_right}
use Rattle.std.proofs.lemmas.Slice.Eq.{bytes_eq-Decides}
use Rattle.clap.proofs.WalkLemmas.{list_any-map}
use Rattle.clap.specs.Walk.{Text}
use Rattle.batch_words.specs.Parses.{dashed, is_known}
use Rattle.batch_words.specs.Words.{is_among}

pub same_text : (t : Text) → bytes_eq t t ≡ true
same_text t = (bytes_eq-Decides t t).1 refl

pub texts_are : (a b : Text) → bytes_eq a b ≡ true → a ≡ b
texts_are a b = (bytes_eq-Decides a b).0

pub other_way : (a b : Text) → bytes_eq a b ≡ false → bytes_eq b a ≡ false
other_way a b other = false_from_ne_true (bytes_eq b a) (λ same.
    let bad : true ≡ false = sym (same_text b) ∙ ap (λ t. bytes_eq t b) (texts_are b a same) ∙ other in cc)

-- ---- among names

pub among_first : (name : Text) (names : List Text) → is_among (name ∷ names) name ≡ true
among_first name names = or_left (bytes_eq name name) (is_among names name) (same_text name)

pub among_more : (one : Text) (names : List Text) (name : Text) → is_among names name ≡ true → is_among (one ∷ names) name ≡ true
among_more one names name among = or_right (bytes_eq one name) (is_among names name) among

-- a name that is not among these is none of them
pub not_among : (names : List Text) (one name : Text) → is_among names one ≡ false → is_among names name ≡ true → bytes_eq one name ≡ false
not_among names one name lacks among = false_from_ne_true (bytes_eq one name) (λ same.
    let bad : true ≡ false = sym among ∙ ap (is_among names) (sym (texts_are one name same)) ∙ lacks in cc)

-- ---- with their hyphens

pub dashed_among : (names : List Text) (name : Text) → is_among names name ≡ true → is_among (map dashed names) (dashed name) ≡ true
dashed_among names name among = sym (list_any-map (λ one. bytes_eq one (dashed name)) dashed names) ∙ among

pub among_dashed : (names : List Text) (word : Text) → is_among (map dashed names) word ≡ true → (name : Text) × (is_among names name ≡ true) × (word ≡ dashed name)
among_dashed [] word among = cc
among_dashed (name ∷ names) word among = go (bytes_eq (dashed name) word) refl among (among_dashed names word)
  where
    go : (b : Bool) → bytes_eq (dashed name) word ≡ b → (b || is_among (map dashed names) word) ≡ true
        → (is_among (map dashed names) word ≡ true → (n : Text) × (is_among names n ≡ true) × (word ≡ dashed n))
        → (n : Text) × (is_among (name ∷ names) n ≡ true) × (word ≡ dashed n)
    go true same among more = (name, among_first name names, sym (texts_are (dashed name) word same))
    go false other among more = let found = more among in (found.0, among_more name names found.0 found.1, found.2)

-- ---- options that can be read

known_name : (name : Text) → is_known name ≡ true → (name ≡ codes "workers") ⊎ (name ≡ codes "mult")
known_name name known = go (bytes_eq name (codes "workers")) refl known
  where
    go : (b : Bool) → bytes_eq name (codes "workers") ≡ b → (b || bytes_eq name (codes "mult")) ≡ true
        → (name ≡ codes "workers") ⊎ (name ≡ codes "mult")
    go true same known = inl (texts_are name (codes "workers") same)
    go false other known = inr (texts_are name (codes "mult") known)

pub each_known : (names : List Text) (name : Text) → list_all is_known names ≡ true → is_among names name ≡ true
    → (name ≡ codes "workers") ⊎ (name ≡ codes "mult")
each_known [] name known among = cc
each_known (one ∷ names) name known among =
    let parts = and_parts (is_known one) (list_all is_known names) known in
    go (bytes_eq one name) refl among parts.0 (each_known names name parts.1)
  where
    go : (b : Bool) → bytes_eq one name ≡ b → (b || is_among names name) ≡ true → is_known one ≡ true
        → (is_among names name ≡ true → (name ≡ codes "workers") ⊎ (name ≡ codes "mult")) → (name ≡ codes "workers") ⊎ (name ≡ codes "mult")
    go true same among known later = known_name name (ap is_known (sym (texts_are one name same)) ∙ known)
    go false other among known later = later among

pub each_begins : (names : List Text) → list_all is_known names ≡ true → (name : Text) → is_among names name ≡ true
    → (c : ℕ) × (cs : Text) × (name ≡ c ∷ cs)
each_begins names known name among = elim (each_known names name known among) [
  | inl is ↦ (119, codes "orkers", is)
  | inr is ↦ (109, codes "ult", is)
]
