-- How a word's reading by clap and its reading by the grammar go together. In a word 45 is `-` and 61 is `=`.
use Rattle.std.proofs.Common.{◌≡◌, ◌∙◌, ℕ, ◌+◌, suc, Bool, true, false, refl, sym, ap, ap₂, List, [], ◌∷◌, map, Option, Some, None, arith}
use Rattle.std.specs.Prelude.{◌==◌, ◌||◌, option_and_then, unwrap_or, if◌then◌else◌}
use Rattle.std.specs.List.{list_any, before_first, after_first, position_or_len}
use Rattle.std.proofs.lemmas.Bool.{eqb-true, false_from_ne_true}
use Rattle.clap.specs.Lexer.{has_byte, long_of, long_of_rest, name_and_value, short_of, short_of_rest, strip_byte}
use Rattle.clap.specs.Walk.{Text}
use Rattle.batch_words.specs.Parses.{dashed}
use Rattle.batch_words.specs.Words.{is_among, is_equals, joined}
use Rattle.batch_words.proofs.Names.{among_dashed}
use Rattle.batch_words.proofs.OptionWalk.{Other, bundle, plain, unknown}

some_is : {X : Type 0} (x y : X) → Some x ≡ Some y → x ≡ y
some_is x y e = ap (λ o. unwrap_or o x) e

pub bind_some : {X Y : Type 0} (f : X → Option Y) (o : Option X) (y : Y) → option_and_then f o ≡ Some y → (x : X) × (o ≡ Some x) × (f x ≡ Some y)
bind_some f None y e = cc
bind_some f (Some x) y e = (x, refl, e)

pub strip_some : (c : ℕ) (word t : Text) → strip_byte c word ≡ Some t → word ≡ c ∷ t
strip_some c [] t e = cc
strip_some c (x ∷ xs) t e = go (x == c) refl e
  where
    go : (b : Bool) → (x == c) ≡ b → (if b then Some xs else None) ≡ Some t → (x ∷ xs) ≡ (c ∷ t)
    go true h e = ap₂ (λ a s. a ∷ s) (eqb-true x c h) (some_is xs t e)
    go false h e = cc

-- ---- words that begin with hyphens

long_rest : (t n : Text) (v : Option Text) → long_of_rest t ≡ Some (n, v) → name_and_value t ≡ (n, v)
long_rest [] n v e = cc
long_rest (x ∷ xs) n v e = some_is (name_and_value (x ∷ xs)) (n, v) e

pub long_shape : (word n : Text) (v : Option Text) → long_of word ≡ Some (n, v) → (t : Text) × (word ≡ 45 ∷ 45 ∷ t) × (name_and_value t ≡ (n, v))
long_shape word n v e =
    let outer = bind_some long_of_rest (option_and_then (strip_byte 45) (strip_byte 45 word)) (n, v) e in
    let inner = bind_some (strip_byte 45) (strip_byte 45 word) outer.0 outer.1 in
    let first : word ≡ 45 ∷ inner.0 = strip_some 45 word inner.0 inner.1 in
    let second : inner.0 ≡ 45 ∷ outer.0 = strip_some 45 inner.0 outer.0 inner.2 in
    (outer.0, first ∙ ap (λ s. 45 ∷ s) second, long_rest outer.0 n v outer.2)

pub short_shape : (word f : Text) → short_of word ≡ Some f → (t : Text) × (word ≡ 45 ∷ t)
short_shape word f e =
    let outer = bind_some short_of_rest (strip_byte 45 word) f e in
    (outer.0, strip_some 45 word outer.0 outer.1)

-- ---- names before `=`

before_passed : (a : ℕ) (t : Text) → is_equals a ≡ false → before_first is_equals (a ∷ t) ≡ a ∷ before_first is_equals t
before_passed a t e =
    let one : 1 + position_or_len is_equals t ≡ suc (position_or_len is_equals t) = omega arith in
    rw (e, one) refl

before_met : (a : ℕ) (t : Text) → is_equals a ≡ true → before_first is_equals (a ∷ t) ≡ []
before_met a t e = rw e refl

before_head : (word : Text) (c : ℕ) (cs : Text) → before_first is_equals word ≡ c ∷ cs → (t : Text) × (word ≡ c ∷ t) × (before_first is_equals t ≡ cs)
before_head [] c cs e = cc
before_head (a ∷ t) c cs e = go (is_equals a) refl
  where
    go : (b : Bool) → is_equals a ≡ b → (s : Text) × ((a ∷ t) ≡ c ∷ s) × (before_first is_equals s ≡ cs)
    go true h = let none : [] ≡ c ∷ cs = sym (before_met a t h) ∙ e in cc
    go false h =
        let is : a ∷ before_first is_equals t ≡ c ∷ cs = sym (before_passed a t h) ∙ e in
        let head : a ≡ c = cc in
        let tail : before_first is_equals t ≡ cs = cc in
        (t, ap (λ x. x ∷ t) head, tail)

before_all : (t : Text) → list_any is_equals t ≡ false → before_first is_equals t ≡ t
before_all [] e = refl
before_all (a ∷ t) e = go (is_equals a) refl e (λ h. before_all t h)
  where
    go : (b : Bool) → is_equals a ≡ b → (b || list_any is_equals t) ≡ false → (list_any is_equals t ≡ false → before_first is_equals t ≡ t)
        → before_first is_equals (a ∷ t) ≡ a ∷ t
    go true h e more = cc
    go false h e more = before_passed a t h ∙ ap (λ s. a ∷ s) (more e)

after_passed : (a : ℕ) (t : Text) → is_equals a ≡ false → after_first is_equals (a ∷ t) ≡ after_first is_equals t
after_passed a t e =
    let one : 1 + position_or_len is_equals t + 1 ≡ suc (position_or_len is_equals t + 1) = omega arith in
    rw (e, one) refl

named_from : (word t xs : Text) (c : ℕ) (cs : Text) → word ≡ 45 ∷ 45 ∷ t → t ≡ c ∷ xs → before_first is_equals t ≡ c ∷ cs
    → long_of word ≡ Some (c ∷ cs, (name_and_value t).1)
named_from word t xs c cs is begins before =
    let whole : word ≡ 45 ∷ 45 ∷ c ∷ xs = is ∙ ap (λ s. 45 ∷ 45 ∷ s) begins in
    let named : before_first is_equals (c ∷ xs) ≡ c ∷ cs = ap (before_first is_equals) (sym begins) ∙ before in
    ap long_of whole ∙ ap (λ b. Some (b, (name_and_value (c ∷ xs)).1)) named ∙ ap (λ s. Some (c ∷ cs, (name_and_value s).1)) (sym begins)

-- a word whose name begins with two hyphens
pub named_long : (word : Text) (c : ℕ) (cs : Text) → before_first is_equals word ≡ dashed (c ∷ cs) → (v : Option Text) × (long_of word ≡ Some (c ∷ cs, v))
named_long word c cs e =
    let one = before_head word 45 (45 ∷ c ∷ cs) e in
    let two = before_head one.0 45 (c ∷ cs) one.2 in
    let is : word ≡ 45 ∷ 45 ∷ two.0 = one.1 ∙ ap (λ s. 45 ∷ s) two.1 in
    let three = before_head two.0 c cs two.2 in
    ((name_and_value two.0).1, named_from word two.0 three.0 c cs is three.1 two.2)

-- ---- what a word spells, by clap's reading of it

value_is : (b : Bool) (t : Text) (v : Text) → (if b then Some t else None) ≡ Some v → (b ≡ true) × (t ≡ v)
value_is true t v e = (refl, some_is t v e)
value_is false t v e = cc

no_value : (b : Bool) (t : Text) → (if b then Some t else None) ≡ None → b ≡ false
no_value true t e = cc
no_value false t e = refl

pub joined_spells : (word name v : Text) → long_of word ≡ Some (name, Some v) → (list_any is_equals word ≡ true) × (joined word ≡ (dashed name, v))
joined_spells word name v long =
    let at = long_shape word name (Some v) long in
    let before : before_first is_equals at.0 ≡ name = ap (λ p. p.0) at.2 in
    let value = value_is (has_byte 61 at.0) (after_first is_equals at.0) v (ap (λ p. p.1) at.2) in (
      ap (list_any is_equals) at.1 ∙ value.0,
      ap joined at.1 ∙ ap₂ (λ n s. (n, s))
          (before_passed 45 (45 ∷ at.0) refl ∙ ap (λ s. 45 ∷ s) (before_passed 45 at.0 refl) ∙ ap (λ s. 45 ∷ 45 ∷ s) before)
          (after_passed 45 (45 ∷ at.0) refl ∙ after_passed 45 at.0 refl ∙ value.1),
    )

pub wants_spells : (word name : Text) → long_of word ≡ Some (name, None) → (list_any is_equals word ≡ false) × (word ≡ dashed name)
wants_spells word name long =
    let at = long_shape word name None long in
    let none : list_any is_equals at.0 ≡ false = no_value (has_byte 61 at.0) (after_first is_equals at.0) (ap (λ p. p.1) at.2) in (
      ap (list_any is_equals) at.1 ∙ none,
      at.1 ∙ ap (λ s. 45 ∷ 45 ∷ s) (sym (before_all at.0 none) ∙ ap (λ p. p.0) at.2),
    )

-- ---- words of other names

module _ (names : List Text) (begins : (name : Text) → is_among names name ≡ true → (c : ℕ) × (cs : Text) × (name ≡ c ∷ cs)) where
  not_named : (word name : Text) → is_among names name ≡ true → Other names word → (v : Option Text) → long_of word ≡ Some (name, v) → ⊥
  not_named word name among (unknown _ n w long other) v e =
      let same : n ≡ name = ap (λ p. p.0) (some_is (n, w) (name, v) (sym long ∙ e)) in
      let bad : true ≡ false = sym among ∙ ap (is_among names) (sym same) ∙ other in cc
  not_named word name among (bundle _ x xs long short) v e = let bad : ◌≡◌ {A = Option (Text × Option Text)} None (Some (name, v)) = sym long ∙ e in cc
  not_named word name among (plain _ long short) v e = let bad : ◌≡◌ {A = Option (Text × Option Text)} None (Some (name, v)) = sym long ∙ e in cc

  pub other_joined : (word : Text) → Other names word → is_among (map dashed names) (before_first is_equals word) ≡ false
  other_joined word other = false_from_ne_true (is_among (map dashed names) (before_first is_equals word)) (λ h.
      let found = among_dashed names (before_first is_equals word) h in
      let parts = begins found.0 found.1 in
      let named = named_long word parts.0 parts.1 (found.2 ∙ ap dashed parts.2) in
      not_named word found.0 found.1 other named.0 (named.1 ∙ ap (λ n. Some (n, named.0)) (sym parts.2)))

  pub other_alone : (word : Text) → Other names word → list_any is_equals word ≡ false → is_among (map dashed names) word ≡ false
  other_alone word other none = ap (is_among (map dashed names)) (sym (before_all word none)) ∙ other_joined word other

-- ---- every word has one of three readings

pub data Reading (names : List Text) : Text → Type 0 where
  is_joined : (word name v : Text) → is_among names name ≡ true → long_of word ≡ Some (name, Some v) → Reading names word
  is_wants : (word name : Text) → is_among names name ≡ true → long_of word ≡ Some (name, None) → Reading names word
  is_other : (word : Text) → Other names word → Reading names word

pub never_empty : (t : Text) → short_of_rest t ≡ Some [] → ⊥
never_empty [] e = cc
never_empty (x ∷ xs) e = go (x == 45) e
  where
    go : (b : Bool) → (if b then None else Some (x ∷ xs)) ≡ Some [] → ⊥
    go true e = cc
    go false e = cc

module _ (names : List Text) where
  other_of : (word : Text) → long_of word ≡ None → (o : Option Text) → short_of word ≡ o → Other names word
  other_of word long None short = plain word long short
  other_of word long (Some []) short =
      let outer = bind_some short_of_rest (strip_byte 45 word) [] short in
      absurd (never_empty outer.0 outer.2)
  other_of word long (Some (x ∷ xs)) short = bundle word x xs long short

  long_reading : (word n : Text) (v : Option Text) → long_of word ≡ Some (n, v) → (b : Bool) → is_among names n ≡ b → Reading names word
  long_reading word n None long true among = is_wants word n among long
  long_reading word n (Some v) long true among = is_joined word n v among long
  long_reading word n v long false other = is_other word (unknown word n v long other)

  reading_at : (word : Text) (o : Option (Text × Option Text)) → long_of word ≡ o → Reading names word
  reading_at word None long = is_other word (other_of word long (short_of word) refl)
  reading_at word (Some p) long = long_reading word p.0 p.1 long (is_among names p.0) refl

  pub reading_of : (word : Text) → Reading names word
  reading_of word = reading_at word (long_of word) refl
