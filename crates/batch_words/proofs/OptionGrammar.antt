-- What the grammar makes of the words of options, with some settings before them. In a word 45 is `-`.
use Rattle.std.proofs.Common.{◌≡◌, ◌∙◌, ℕ, Bool, true, false, cond, refl, sym, ap, inl, inr, List, [], ◌∷◌, ◌++◌, map, append_assoc, append-nil, Option, Some, None, codes}
use Rattle.std.specs.Prelude.{◌&&◌, ◌||◌, find, not, option_map, option_and_then, slice_get, if◌then◌else◌}
use Rattle.std.specs.List.{list_all, list_any, before_first, after_first}
use Rattle.std.specs.Str.{bytes_eq}
use Rattle.std.proofs.lemmas.Bool.{and_parts, and_right, not-true, or_parts}
use Rattle.std.proofs.lemmas.List.{map-append}
use Rattle.clap.proofs.WalkLemmas.{list_any-map}
use Rattle.clap.specs.Walk.{Text, first_of, has_row}
use Rattle.batch_words.specs.Parses.{dashed, is_known}
use Rattle.batch_words.specs.Words.{Setting, are_of, is_among, is_equals, joined, mult, options_with, settings_after, stands_in, value_of, workers}
use Rattle.batch_words.specs.declared.options.Options.{Options}
use Rattle.batch_words.proofs.Names.{each_begins, each_known, other_way, same_text, texts_are}
use Rattle.batch_words.proofs.OptionWalk.{Other, row}
use Rattle.batch_words.proofs.OptionWords.{other_alone, other_joined}

-- ---- settings of these names

not_of-unknown : (names : List Text) (before more : List Setting) (name value : Text) → is_among names name ≡ false
    → are_of names (before ++ (name, value) ∷ more) ≡ false
not_of-unknown names [] more name value other = rw other refl
not_of-unknown names ((n, v) ∷ before) more name value other =
    ap (λ b. is_among names n && not (stands_in (before ++ (name, value) ∷ more) n) && b) (not_of-unknown names before more name value other)
    ∙ and_right (is_among names n && not (stands_in (before ++ (name, value) ∷ more) n)) false refl

stands_here : (before more : List Setting) (name value : Text) → stands_in (before ++ (name, value) ∷ more) name ≡ true
stands_here [] more name value = ap (λ b. b || stands_in more name) (same_text name)
stands_here ((n, v) ∷ before) more name value = go (bytes_eq n name) (stands_here before more name value)
  where
    go : (b : Bool) → stands_in (before ++ (name, value) ∷ more) name ≡ true → (b || stands_in (before ++ (name, value) ∷ more) name) ≡ true
    go true later = refl
    go false later = later

twice_is_none : (names : List Text) (n v : Text) (more : List Setting) → stands_in more n ≡ true → are_of names ((n, v) ∷ more) ≡ false
twice_is_none names n v more stands =
    ap (λ b. is_among names n && not b && are_of names more) stands ∙ ap (λ b. b && are_of names more) (and_right (is_among names n) false refl)

not_of-again : (names : List Text) (before more : List Setting) (name value : Text) → stands_in before name ≡ true
    → are_of names (before ++ (name, value) ∷ more) ≡ false
not_of-again names [] more name value stands = cc
not_of-again names ((n, v) ∷ before) more name value stands = go (bytes_eq n name) refl stands (not_of-again names before more name value)
  where
    go : (b : Bool) → bytes_eq n name ≡ b → (b || stands_in before name) ≡ true
        → (stands_in before name ≡ true → are_of names (before ++ (name, value) ∷ more) ≡ false)
        → are_of names ((n, v) ∷ (before ++ (name, value) ∷ more)) ≡ false
    go true same stands later =
        twice_is_none names n v (before ++ (name, value) ∷ more)
        (ap (stands_in (before ++ (name, value) ∷ more)) (texts_are n name same) ∙ stands_here before more name value)
    go false other stands later =
        ap (λ b. is_among names n && not (stands_in (before ++ (name, value) ∷ more) n) && b) (later stands)
        ∙ and_right (is_among names n && not (stands_in (before ++ (name, value) ∷ more) n)) false refl

pub new_at_end : (before : List Setting) (name value n : Text) → stands_in before n ≡ false → bytes_eq name n ≡ false
    → stands_in (before ++ (name, value) ∷ []) n ≡ false
new_at_end [] name value n new other = ap (λ b. b || false) other
new_at_end ((m, v) ∷ before) name value n new other = go (bytes_eq m n) new (new_at_end before name value n)
  where
    go : (b : Bool) → (b || stands_in before n) ≡ false
        → (stands_in before n ≡ false → bytes_eq name n ≡ false → stands_in (before ++ (name, value) ∷ []) n ≡ false)
        → (b || stands_in (before ++ (name, value) ∷ []) n) ≡ false
    go true new later = cc
    go false new later = later new other

pub are_of-more : (names : List Text) (before : List Setting) (name value : Text) → are_of names before ≡ true → is_among names name ≡ true
    → stands_in before name ≡ false → are_of names (before ++ (name, value) ∷ []) ≡ true
are_of-more names [] name value are among new = ap (λ b. b && true && true) among
are_of-more names ((n, v) ∷ before) name value are among new =
    let parts = and_parts (is_among names n && not (stands_in before n)) (are_of names before) are in
    let first = and_parts (is_among names n) (not (stands_in before n)) parts.0 in
    let others = or_parts (bytes_eq n name) (stands_in before name) new in
    let alone = new_at_end before name value n (not-true (stands_in before n) first.1) (other_way n name others.0) in
    let later = are_of-more names before name value parts.1 among others.1 in
    rw (first.0, alone, later) refl

-- the value of an option that stands once
value_here : (names : List Text) (before more : List Setting) (name value : Text) → are_of names (before ++ (name, value) ∷ more) ≡ true
    → value_of name (before ++ (name, value) ∷ more) ≡ Some value
value_here names [] more name value are = let same = same_text name in rw same refl
value_here names ((n, v) ∷ before) more name value are = go (bytes_eq n name) refl (value_here names before more name value)
  where
    go : (b : Bool) → bytes_eq n name ≡ b
        → (are_of names (before ++ (name, value) ∷ more) ≡ true → value_of name (before ++ (name, value) ∷ more) ≡ Some value)
        → option_map (λ s. s.1) (cond b (Some (n, v)) (find (λ s. bytes_eq s.0 name) (before ++ (name, value) ∷ more))) ≡ Some value
    go true same later =
        let twice = twice_is_none names n v (before ++ (name, value) ∷ more)
        (ap (stands_in (before ++ (name, value) ∷ more)) (texts_are n name same) ∙ stands_here before more name value) in
        let bad : true ≡ false = sym are ∙ twice in cc
    go false other later =
        later (and_parts (is_among names n && not (stands_in (before ++ (name, value) ∷ more) n)) (are_of names (before ++ (name, value) ∷ more)) are).1

-- ---- what the settings say

-- settings whose names have no hyphens yet
abbrev pub dash : Setting → Setting
dash given = (dashed given.0, given.1)

-- what settings say as options of these names
abbrev pub said : List Text → List Setting → Option Options
said names given =
    if are_of (map dashed names) given then options_with (value_of (codes "--workers") given) (value_of (codes "--mult") given) else None

said_none : (names : List Text) (given : List Setting) → are_of (map dashed names) given ≡ false → said names given ≡ None
said_none names given not_of = rw not_of refl

pub said_all : (names : List Text) (given : List Setting) → are_of (map dashed names) given ≡ true
    → options_with (value_of (codes "--workers") given) (value_of (codes "--mult") given) ≡ said names given
said_all names given are = rw are refl

-- what begins with a hyphen is no value
no_workers : (t : Text) → workers (Some (45 ∷ t)) ≡ None
no_workers [] = refl
no_workers (x ∷ xs) = refl

no_mult : (w : Option Text) (t : Text) → options_with w (Some (45 ∷ t)) ≡ None
no_mult w t = go (workers w)
  where
    go : (o : Option ℕ)
        → ◌≡◌ {A = Option Options} (option_and_then (λ n. option_map (λ m. record { workers = n; mult = m }) (mult (Some (45 ∷ t)))) o) None
    go None = refl
    go (Some n) = refl

module _ (names : List Text) (known : list_all is_known names ≡ true) (before more : List Setting) (name t : Text) (among : is_among names name ≡ true) where
  at_hyphen : (given : List Setting) → value_of (dashed name) given ≡ Some (45 ∷ t)
      → options_with (value_of (codes "--workers") given) (value_of (codes "--mult") given) ≡ None
  at_hyphen given value = elim (each_known names name known among) [
    | inl is ↦ ap (λ w. options_with w (value_of (codes "--mult") given)) (ap (λ n. value_of (dashed n) given) (sym is) ∙ value)
        ∙ ap (λ o. option_and_then (λ w. option_map (λ m. record { workers = w; mult = m }) (mult (value_of (codes "--mult") given))) o) (no_workers t)
    | inr is ↦ ap (λ m. options_with (value_of (codes "--workers") given) m) (ap (λ n. value_of (dashed n) given) (sym is) ∙ value)
        ∙ no_mult (value_of (codes "--workers") given) t
  ]

  said_hyphen : said names (before ++ (dashed name, 45 ∷ t) ∷ more) ≡ None
  said_hyphen = go (are_of (map dashed names) (before ++ (dashed name, 45 ∷ t) ∷ more)) refl
    where
      go : (b : Bool) → are_of (map dashed names) (before ++ (dashed name, 45 ∷ t) ∷ more) ≡ b
          → (if b then options_with (value_of (codes "--workers") (before ++ (dashed name, 45 ∷ t) ∷ more))
          (value_of (codes "--mult") (before ++ (dashed name, 45 ∷ t) ∷ more)) else None) ≡ None
      go true are =
          at_hyphen (before ++ (dashed name, 45 ∷ t) ∷ more) (value_here (map dashed names) before more (dashed name) (45 ∷ t) are)
      go false not_of = refl

-- ---- what the words say, behind some settings

-- before the words there may stand a name that wants a value
abbrev pub rest_of : List Text → List Setting → Option Text → List Text → Option Options
rest_of names before name words = option_and_then (λ more. said names (map dash before ++ more)) (settings_after name words)

module _ (names : List Text) (before : List Setting) where
  one_setting : (setting : Setting) (o : Option (List Setting))
      → option_and_then (λ more. said names (map dash before ++ more)) (option_map (λ s. dash setting ∷ s) o)
      ≡ option_and_then (λ more. said names (map dash (before ++ setting ∷ []) ++ more)) o
  one_setting setting None = refl
  one_setting setting (Some more) =
      ap (said names) (sym (ap (λ s. s ++ more) (map-append dash before (setting ∷ [])) ∙ append_assoc (map dash before) (dash setting ∷ []) more))

  pub rest_of-end : rest_of names before None [] ≡ said names (map dash before)
  rest_of-end = ap (said names) (append-nil (map dash before))

  pub rest_of-joined : (word name value : Text) (more : List Text) → list_any is_equals word ≡ true → joined word ≡ (dashed name, value)
      → rest_of names before None (word ∷ more) ≡ rest_of names (before ++ (name, value) ∷ []) None more
  rest_of-joined word name value more has is =
      ap (λ b. option_and_then (λ m. said names (map dash before ++ m))
      (if b then option_map (λ s. joined word ∷ s) (settings_after None more) else settings_after (Some word) more)) has
      ∙ ap (λ f. option_and_then (λ m. said names (map dash before ++ m)) (option_map (λ s. f ∷ s) (settings_after None more))) is
      ∙ one_setting (name, value) (settings_after None more)

  pub rest_of-wants : (word name : Text) (more : List Text) → list_any is_equals word ≡ false → word ≡ dashed name
      → rest_of names before None (word ∷ more) ≡ rest_of names before (Some (dashed name)) more
  rest_of-wants word name more lacks is =
      ap (λ b. option_and_then (λ m. said names (map dash before ++ m))
      (if b then option_map (λ s. joined word ∷ s) (settings_after None more) else settings_after (Some word) more)) lacks
      ∙ ap (λ w. rest_of names before (Some w) more) is

  pub rest_of-value : (name value : Text) (more : List Text)
      → rest_of names before (Some (dashed name)) (value ∷ more) ≡ rest_of names (before ++ (name, value) ∷ []) None more
  rest_of-value name value more = one_setting (name, value) (settings_after None more)

-- ---- words that say nothing

module _ (names : List Text) where
  none_of : (given : List Setting → List Setting) → ((more : List Setting) → said names (given more) ≡ None) → (o : Option (List Setting))
      → option_and_then (λ more. said names (given more)) o ≡ None
  none_of given each None = refl
  none_of given each (Some more) = each more

  pub rest_of-again : (before : List Setting) (name value : Text) (words : List Text) → stands_in (map dash before) (dashed name) ≡ true
      → rest_of names (before ++ (name, value) ∷ []) None words ≡ None
  rest_of-again before name value words again = none_of (λ more. map dash (before ++ (name, value) ∷ []) ++ more) (λ more.
      ap (said names) (ap (λ s. s ++ more) (map-append dash before ((name, value) ∷ [])) ∙ append_assoc (map dash before) ((dashed name, value) ∷ []) more)
      ∙ said_none names (map dash before ++ (dashed name, value) ∷ more) (not_of-again (map dashed names) (map dash before) more (dashed name) value again))
      (settings_after None words)

  unknown_setting : (before : List Setting) (name value : Text) → is_among (map dashed names) name ≡ false → (o : Option (List Setting))
      → option_and_then (λ more. said names (map dash before ++ more)) (option_map (λ s. (name, value) ∷ s) o) ≡ None
  unknown_setting before name value other None = refl
  unknown_setting before name value other (Some more) =
      said_none names (map dash before ++ (name, value) ∷ more) (not_of-unknown (map dashed names) (map dash before) more name value other)

  module _ (known : list_all is_known names ≡ true) where
    pub rest_of-hyphen : (before : List Setting) (name t : Text) (words : List Text) → is_among names name ≡ true
        → rest_of names (before ++ (name, 45 ∷ t) ∷ []) None words ≡ None
    rest_of-hyphen before name t words among = none_of (λ more. map dash (before ++ (name, 45 ∷ t) ∷ []) ++ more) (λ more.
        ap (said names) (ap (λ s. s ++ more) (map-append dash before ((name, 45 ∷ t) ∷ [])) ∙ append_assoc (map dash before) ((dashed name, 45 ∷ t) ∷ []) more)
        ∙ said_hyphen names known (map dash before) more name t among) (settings_after None words)

    pub rest_of-other : (before : List Setting) (word : Text) (more : List Text) → Other names word → rest_of names before None (word ∷ more) ≡ None
    rest_of-other before word more other = go (list_any is_equals word) refl
      where
        alone : (more : List Text) → list_any is_equals word ≡ false → rest_of names before (Some word) more ≡ None
        alone [] lacks = refl
        alone (value ∷ more) lacks =
            unknown_setting before word value (other_alone names (each_begins names known) word other lacks) (settings_after None more)

        go : (b : Bool) → list_any is_equals word ≡ b
            → option_and_then (λ m. said names (map dash before ++ m))
            (if b then option_map (λ s. joined word ∷ s) (settings_after None more) else settings_after (Some word) more) ≡ None
        go true has =
            unknown_setting before (before_first is_equals word) (after_first is_equals word)
            (other_joined names (each_begins names known) word other) (settings_after None more)
        go false lacks = alone more lacks

-- ---- rows

pub has_row_is : (name : Text) (given : List Setting) → has_row name (map row given) ≡ stands_in (map dash given) (dashed name)
has_row_is name given =
    sym (list_any-map (λ r. bytes_eq r.id name) row given) ∙ list_any-map (λ s. bytes_eq s.0 (dashed name)) dash given

pub first_is : (name : Text) (given : List Setting) → first_of name (map row given) ≡ value_of (dashed name) (map dash given)
first_is name [] = refl
first_is name (one ∷ given) = go (bytes_eq one.0 name) (first_is name given)
  where
    go : (b : Bool) → first_of name (map row given) ≡ value_of (dashed name) (map dash given)
        → option_and_then (λ r. slice_get r.values 0) (cond b (Some (row one)) (find (λ r. bytes_eq r.id name) (map row given)))
        ≡ option_map (λ s. s.1) (cond b (Some (dash one)) (find (λ s. bytes_eq s.0 (dashed name)) (map dash given)))
    go true same = refl
    go false same = same
