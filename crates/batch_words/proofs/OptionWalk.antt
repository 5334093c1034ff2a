-- What clap makes of one word, where its arguments are options. In a word 45 is `-` and 61 is `=`.
use Rattle.std.proofs.Common.{◌≡◌, ◌∙◌, ℕ, Bool, true, false, refl, ap, List, [], ◌∷◌, ◌++◌, append-nil, Option, Some, None}
use Rattle.std.specs.Prelude.{◌||◌, slice_get, if◌then◌else◌}
use Rattle.std.specs.Str.{bytes_eq, chars}
use Rattle.clap.specs.Lexer.{long_of, short_of}
use Rattle.clap.specs.Walk.{Held, Row, Text, Walk, at_row, bundle_met, has_row, more_values, option, settled_rows, used, walk_from, walked, without}
use Rattle.clap.specs.Faults.{flags_fault, settle_fault, turn_fault, walk_fault}
use Rattle.clap.specs.Values.{reading_of}
use Rattle.clap.specs.declared.builder.value_parser.ValueParser.TheVariants as parsers
use Rattle.clap.specs.declared.error.kind.ErrorKind.TheVariants as kind
use Rattle.clap.specs.declared.parser.matches.ValueSource.TheVariants.{CommandLine}
use Rattle.batch_words.specs.Words.{is_among}
use Rattle.batch_words.proofs.Names.{same_text}
use Rattle.batch_words.proofs.Rules.{by_id, by_index-none, by_long, by_long-none, by_short-none, no_default_faults, no_defaults, none_required, option_built, options_built}
use Rattle.batch_words.proofs.Walks.{faults_from, rows_from, shape}

-- ---- where the walk stands

abbrev pub Pending : Type 0
Pending = Option (Text × List Text)

abbrev pub idle_held : List Row → Pending → Held
idle_held rows pending = record { rows = rows; pending = pending; skip = 0 }

-- nothing waits for a value
abbrev pub idle_at : List Row → Pending → Walk
idle_at rows pending = walk_from (idle_held rows pending)

-- an option waits for its value
abbrev pub wants_at : List Row → Text → Walk
wants_at rows name = record (idle_at rows (Some (name, []))) { waiting = option name }

abbrev pub row : Text × Text → Row
row given = record {
  id = given.0;
  values = given.1 ∷ [];
  count = None;
  source = Some CommandLine;
  reading = reading_of parsers.String;
}

-- ---- rows

pub at_row_new : (id : Text) (change : Row → List Row) (missing rows : List Row) → has_row id rows ≡ false → at_row id change missing rows ≡ rows ++ missing
at_row_new id change missing [] new = refl
at_row_new id change missing (r ∷ rows) new = go (bytes_eq r.id id) new (at_row_new id change missing rows)
  where
    go : (b : Bool) → (b || has_row id rows) ≡ false → (has_row id rows ≡ false → at_row id change missing rows ≡ rows ++ missing)
        → (if b then change r ++ rows else r ∷ at_row id change missing rows) ≡ r ∷ (rows ++ missing)
    go true new more = cc
    go false new more = ap (λ rs. r ∷ rs) (more new)

pub used_new : (name value : Text) (rows : List Row) → has_row name rows ≡ false → used (option_built name) (value ∷ []) rows ≡ rows ++ row (name, value) ∷ []
used_new name value rows new =
    let none : without name rows ≡ rows = at_row_new name (λ _. []) [] rows new ∙ append-nil rows in
    rw none (at_row_new name (more_values CommandLine (value ∷ [])) (row (name, value) ∷ []) rows new)

-- ---- one word

-- no option of these names
pub data Other (names : List Text) : Text → Type 0 where
  unknown : (word : Text) (n : Text) (v : Option Text) → long_of word ≡ Some (n, v) → is_among names n ≡ false → Other names word
  bundle : (word : Text) (x : ℕ) (xs : Text) → long_of word ≡ None → short_of word ≡ Some (x ∷ xs) → Other names word
  plain : (word : Text) → long_of word ≡ None → short_of word ≡ None → Other names word

abbrev pub IsNotDashes : Text → Type 0
IsNotDashes word = bytes_eq word (45 ∷ 45 ∷ []) ≡ false

module _ (names : List Text) (rows : List Row) (pending : Pending) where
  idle_bundle : (word : Text) (x : ℕ) (xs : Text) (o : Option ℕ) → IsNotDashes word → long_of word ≡ None → short_of word ≡ Some (x ∷ xs)
      → slice_get (chars (x ∷ xs)) 0 ≡ o → turn_fault (shape (options_built names)) [] (idle_at rows pending) word ≡ kind.UnknownArgument ∷ []
  unfolding bundle_met flags_fault
  idle_bundle word x xs None dashes long short first =
      let none = by_index-none names 1 in
      rw (dashes, long, short, first, none) (refl {a = kind.UnknownArgument ∷ []})
  idle_bundle word x xs (Some c) dashes long short first =
      let none = by_short-none names c in
      rw (dashes, long, short, first, none) (refl {a = kind.UnknownArgument ∷ []})

  pub idle_other : (word : Text) → IsNotDashes word → Other names word
      → turn_fault (shape (options_built names)) [] (idle_at rows pending) word ≡ kind.UnknownArgument ∷ []
  idle_other word dashes (unknown _ n v long other) = let none = by_long-none names n other in rw (dashes, long, none) refl
  idle_other word dashes (bundle _ x xs long short) = idle_bundle word x xs (slice_get (chars (x ∷ xs)) 0) dashes long short refl
  idle_other word dashes (plain _ long short) = let none = by_index-none names 1 in rw (dashes, long, short, none) refl

-- an option of these names, where what is pending comes to these rows
module _ (names : List Text) (rows : List Row) (pending : Pending) (now : List Row)
    (passes : settle_fault (options_built names) false (idle_held rows pending) ≡ [])
    (settles : settled_rows (options_built names) pending rows ≡ now)
    (word name : Text) (dashes : IsNotDashes word) (among : is_among names name ≡ true) where
  module _ (value : Text) (long : long_of word ≡ Some (name, Some value)) where
    pub joined_again : has_row name now ≡ true → turn_fault (shape (options_built names)) [] (idle_at rows pending) word ≡ kind.ArgumentConflict ∷ []
    joined_again again = let found = by_long names name among in rw (dashes, long, found, passes, settles, again) refl

    pub joined_new : has_row name now ≡ false → turn_fault (shape (options_built names)) [] (idle_at rows pending) word ≡ []
    joined_new new = let found = by_long names name among in rw (dashes, long, found, passes, settles, new) refl

    pub joined_walk : has_row name now ≡ false → walked (options_built names) [] (idle_at rows pending) word ≡ idle_at (now ++ row (name, value) ∷ []) None
    unfolding walked
    joined_walk new =
        let found = by_long names name among in
        rw (dashes, long, found, settles) (ap (λ rs. idle_at rs None) (used_new name value now new))

  module _ (long : long_of word ≡ Some (name, None)) where
    pub wants_passes : turn_fault (shape (options_built names)) [] (idle_at rows pending) word ≡ []
    wants_passes = let found = by_long names name among in rw (dashes, long, found, passes) refl

    pub wants_walk : walked (options_built names) [] (idle_at rows pending) word ≡ wants_at now name
    unfolding walked
    wants_walk = let found = by_long names name among in rw (dashes, long, found, settles) refl

-- ---- a value is pending

module _ (names : List Text) (rows : List Row) (name value : Text) (among : is_among names name ≡ true) where
  pub settle_new : has_row name rows ≡ false → settle_fault (options_built names) false (idle_held rows (Some (name, value ∷ []))) ≡ []
  settle_new new = let found = by_id names name among in rw (found, new) refl

  pub settle_again : has_row name rows ≡ true → settle_fault (options_built names) false (idle_held rows (Some (name, value ∷ []))) ≡ kind.ArgumentConflict ∷ []
  settle_again again = let found = by_id names name among in rw (found, again) refl

  pub settles_new : has_row name rows ≡ false → settled_rows (options_built names) (Some (name, value ∷ [])) rows ≡ rows ++ row (name, value) ∷ []
  settles_new new = let found = by_id names name among in rw found (used_new name value rows new)

-- what is pending stands twice: each word fails
module _ (names : List Text) (rows : List Row) (pending : Pending)
    (fails : settle_fault (options_built names) false (idle_held rows pending) ≡ kind.ArgumentConflict ∷ [])
    (word name : Text) (dashes : IsNotDashes word) (among : is_among names name ≡ true) where
  pub twice_named : (o : Option Text) → long_of word ≡ Some (name, o) → turn_fault (shape (options_built names)) [] (idle_at rows pending) word ≡ kind.ArgumentConflict ∷ []
  twice_named None long = let found = by_long names name among in rw (dashes, long, found, fails) refl
  twice_named (Some value) long = let found = by_long names name among in rw (dashes, long, found, fails) refl

-- ---- an option waits for its value

module _ (names : List Text) (rows : List Row) (name : Text) (among : is_among names name ≡ true) where
  pub wants_named : (word n : Text) (o : Option Text) → IsNotDashes word → is_among names n ≡ true → long_of word ≡ Some (n, o)
      → turn_fault (shape (options_built names)) [] (wants_at rows name) word ≡ kind.InvalidValue ∷ []
  wants_named word n None dashes known long =
      let found = by_long names n known in
      let own = by_id names name among in
      rw (dashes, long, found, own) refl
  wants_named word n (Some x) dashes known long =
      let found = by_long names n known in
      let own = by_id names name among in
      rw (dashes, long, found, own) refl

  pub wants_unknown : (word n : Text) (v : Option Text) → IsNotDashes word → long_of word ≡ Some (n, v) → is_among names n ≡ false
      → turn_fault (shape (options_built names)) [] (wants_at rows name) word ≡ kind.UnknownArgument ∷ []
  wants_unknown word n v dashes long other = let none = by_long-none names n other in rw (dashes, long, none) refl

  pub wants_flags : (word : Text) (x : ℕ) (xs : Text) (c : ℕ) → IsNotDashes word → long_of word ≡ None → short_of word ≡ Some (x ∷ xs)
      → slice_get (chars (x ∷ xs)) 0 ≡ Some c → turn_fault (shape (options_built names)) [] (wants_at rows name) word ≡ kind.UnknownArgument ∷ []
  unfolding bundle_met flags_fault
  wants_flags word x xs c dashes long short first =
      let none = by_short-none names c in
      rw (dashes, long, short, first, none) (refl {a = kind.UnknownArgument ∷ []})

  pub wants_no_flag : (word : Text) (x : ℕ) (xs : Text) → IsNotDashes word → long_of word ≡ None → short_of word ≡ Some (x ∷ xs)
      → slice_get (chars (x ∷ xs)) 0 ≡ None → turn_fault (shape (options_built names)) [] (wants_at rows name) word ≡ []
  unfolding bundle_met flags_fault
  wants_no_flag word x xs dashes long short first = rw (dashes, long, short, first) refl

  pub wants_no_flag_walk : (word : Text) (x : ℕ) (xs : Text) → IsNotDashes word → long_of word ≡ None → short_of word ≡ Some (x ∷ xs)
      → slice_get (chars (x ∷ xs)) 0 ≡ None → walked (options_built names) [] (wants_at rows name) word ≡ idle_at rows (Some (name, word ∷ []))
  unfolding walked bundle_met
  wants_no_flag_walk word x xs dashes long short first =
      let own = by_id names name among in
      let same = same_text name in
      rw (dashes, long, short, first, own, same) refl

  pub wants_plain : (word : Text) → IsNotDashes word → long_of word ≡ None → short_of word ≡ None → turn_fault (shape (options_built names)) [] (wants_at rows name) word ≡ []
  wants_plain word dashes long short = rw (dashes, long, short) refl

  pub wants_plain_walk : (word : Text) → IsNotDashes word → long_of word ≡ None → short_of word ≡ None
      → walked (options_built names) [] (wants_at rows name) word ≡ idle_at rows (Some (name, word ∷ []))
  unfolding walked
  wants_plain_walk word dashes long short =
      let own = by_id names name among in
      let same = same_text name in
      rw (dashes, long, short, own, same) refl

  pub wants_end : faults_from (options_built names) (wants_at rows name) [] ≡ kind.InvalidValue ∷ []
  unfolding walk_fault
  wants_end = let own = by_id names name among in rw own refl

-- ---- no word is left

module _ (names : List Text) (rows : List Row) (pending : Pending) where
  pub idle_end : (now : List Row) → settle_fault (options_built names) false (idle_held rows pending) ≡ []
      → settled_rows (options_built names) pending rows ≡ now → faults_from (options_built names) (idle_at rows pending) [] ≡ []
  unfolding walk_fault
  idle_end now passes settles =
      let faults = no_default_faults now names in
      let rest = no_defaults now names in
      let required = none_required now names in
      rw (passes, settles, faults, rest, required) refl

  pub idle_rows : (now : List Row) → settled_rows (options_built names) pending rows ≡ now → rows_from (options_built names) (idle_at rows pending) [] ≡ now
  idle_rows now settles = rw settles (no_defaults now names)

  pub twice_end : settle_fault (options_built names) false (idle_held rows pending) ≡ kind.ArgumentConflict ∷ []
      → faults_from (options_built names) (idle_at rows pending) [] ≡ kind.ArgumentConflict ∷ []
  unfolding walk_fault
  twice_end fails = rw fails refl
