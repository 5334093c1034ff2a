-- The words of options: clap's reading of them is the grammar's.
use Rattle.std.proofs.Common.{◌≡◌, ◌∙◌, ℕ, Bool, true, false, refl, sym, ap, subst, List, [], ◌∷◌, ◌++◌, map, Option, Some, None}
use Rattle.std.specs.Prelude.{slice_get}
use Rattle.std.specs.List.{list_all}
use Rattle.std.specs.Str.{chars}
use Rattle.std.proofs.lemmas.List.{map-append}
use Rattle.clap.specs.Faults.{settle_fault, turn_fault}
use Rattle.clap.specs.Lexer.{long_of, short_of}
use Rattle.clap.specs.Walk.{Row, Text, Walk, has_row, settled_rows, walked}
use Rattle.clap.specs.declared.error.kind.ErrorKind.{ErrorKind}
use Rattle.clap.specs.declared.error.kind.ErrorKind.TheVariants as kind
use Rattle.batch_words.specs.Parses.{dashed, is_known}
use Rattle.batch_words.specs.Words.{Setting, are_of, is_among, stands_in}
use Rattle.batch_words.specs.declared.options.Options.{Options}
use Rattle.batch_words.proofs.Rules.{options_built}
use Rattle.batch_words.proofs.Walks.{Reads, ends, ends_badly, go_on, shape, stop}
use Rattle.batch_words.proofs.Names.{dashed_among}
use Rattle.batch_words.proofs.OptionWalk.{IsNotDashes, Pending, bundle, idle_at, idle_end, idle_held, idle_other, idle_rows, joined_again, joined_new, joined_walk, plain, row, settle_again, settle_new, settles_new, twice_end, twice_named, unknown}
use Rattle.batch_words.proofs.OptionWalk.{wants_at, wants_end, wants_flags, wants_named, wants_no_flag, wants_no_flag_walk, wants_passes, wants_plain, wants_plain_walk, wants_unknown, wants_walk}
use Rattle.batch_words.proofs.OptionWords.{Reading, is_joined, is_other, is_wants, joined_spells, long_shape, reading_of, short_shape, wants_spells}
use Rattle.batch_words.proofs.OptionGrammar.{are_of-more, dash, has_row_is, rest_of, rest_of-again, rest_of-end, rest_of-hyphen, rest_of-joined, rest_of-other, rest_of-value, rest_of-wants, said}

-- the rows are those of settings that say this
abbrev pub Good : List Text → Option Options → List Row → Type 0
Good names o rows =
    (given : List Setting) × (rows ≡ map row given) × (are_of (map dashed names) (map dash given) ≡ true) × (said names (map dash given) ≡ o)

-- no word is `--`
abbrev pub NoDashes : List Text → Type 0
NoDashes [] = Unit {0}
NoDashes (word ∷ more) = IsNotDashes word × NoDashes more

-- from here on clap reads what the grammar says
abbrev Says : List Text → Option Options → List Text → Walk → Type 0
Says names o words w = Reads (options_built names) (Good names o) (None ≡ o) w words

abbrev IdleReads : List Text → List Text → Type 0
IdleReads names words =
    (rows : List Row) (pending : Pending) (before : List Setting) → settle_fault (options_built names) false (idle_held rows pending) ≡ []
    → settled_rows (options_built names) pending rows ≡ map row before → are_of (map dashed names) (map dash before) ≡ true → NoDashes words
    → Says names (rest_of names before None words) words (idle_at rows pending)

abbrev WantsReads : List Text → List Text → Type 0
WantsReads names words =
    (before : List Setting) (name : Text) → is_among names name ≡ true → are_of (map dashed names) (map dash before) ≡ true → NoDashes words
    → Says names (rest_of names before (Some (dashed name)) words) words (wants_at (map row before) name)

module _ (names : List Text) (known : list_all is_known names ≡ true) where
  as_said : (o now : Option Options) (words : List Text) (w : Walk) → now ≡ o → Says names now words w → Says names o words w
  as_said o now words w is h = subst (λ x. Says names x words w) is h

  -- what is pending stands twice
  twice_reads : (rows : List Row) (pending : Pending) → settle_fault (options_built names) false (idle_held rows pending) ≡ kind.ArgumentConflict ∷ []
      → (words : List Text) → NoDashes words → (o : Option Options) → None ≡ o → Says names o words (idle_at rows pending)
  twice_reads rows pending fails [] clean o none =
      ends_badly (options_built names) (Good names o) (None ≡ o) (idle_at rows pending) _ (twice_end names rows pending fails) none
  twice_reads rows pending fails (word ∷ more) clean o none = go (reading_of names word)
    where
      go : Reading names word → Says names o (word ∷ more) (idle_at rows pending)
      go (is_joined _ name v among long) =
          stop (options_built names) (Good names o) (None ≡ o) _ word more _ (twice_named names rows pending fails word name clean.0 among (Some v) long) none
      go (is_wants _ name among long) =
          stop (options_built names) (Good names o) (None ≡ o) _ word more _ (twice_named names rows pending fails word name clean.0 among None long) none
      go (is_other _ other) =
          stop (options_built names) (Good names o) (None ≡ o) _ word more _ (idle_other names rows pending word clean.0 other) none

  more_rows : (before : List Setting) (setting : Setting) → map row before ++ row setting ∷ [] ≡ map row (before ++ setting ∷ [])
  more_rows before setting = sym (map-append row before (setting ∷ []))

  more_are : (before : List Setting) (name value : Text) → are_of (map dashed names) (map dash before) ≡ true → is_among names name ≡ true
      → stands_in (map dash before) (dashed name) ≡ false → are_of (map dashed names) (map dash (before ++ (name, value) ∷ [])) ≡ true
  more_are before name value are among new =
      ap (are_of (map dashed names)) (map-append dash before ((name, value) ∷ []))
      ∙ are_of-more (map dashed names) (map dash before) (dashed name) value are (dashed_among names name among) new

  step : (o : Option Options) (w next : Walk) (word : Text) (more : List Text) → turn_fault (shape (options_built names)) [] w word ≡ []
      → walked (options_built names) [] w word ≡ next → Says names o more next → Says names o (word ∷ more) w
  step o = go_on (options_built names) (Good names o) (None ≡ o)

  halt : (o : Option Options) (w : Walk) (word : Text) (more : List Text) (k : ErrorKind) → turn_fault (shape (options_built names)) [] w word ≡ k ∷ []
      → None ≡ o → Says names o (word ∷ more) w
  halt o = stop (options_built names) (Good names o) (None ≡ o)

  -- ---- nothing waits for a value

  idle_done : IdleReads names []
  idle_done rows pending before passes settles are clean =
      ends (options_built names) (Good names (rest_of names before None [])) (None ≡ rest_of names before None []) (idle_at rows pending) (map row before)
      (idle_end names rows pending (map row before) passes settles) (idle_rows names rows pending (map row before) settles)
      (before, refl, are, sym (rest_of-end names before))

  module _ (word : Text) (more : List Text) (rows : List Row) (pending : Pending) (before : List Setting)
      (passes : settle_fault (options_built names) false (idle_held rows pending) ≡ [])
      (settles : settled_rows (options_built names) pending rows ≡ map row before)
      (are : are_of (map dashed names) (map dash before) ≡ true) (clean : NoDashes (word ∷ more)) where
    idle_joined : (name v : Text) → is_among names name ≡ true → long_of word ≡ Some (name, Some v) → IdleReads names more
        → (b : Bool) → has_row name (map row before) ≡ b → Says names (rest_of names before None (word ∷ more)) (word ∷ more) (idle_at rows pending)
    idle_joined name v among long later true again =
        let spells = joined_spells word name v long in
        halt _ _ word more _ (joined_again names rows pending (map row before) passes settles word name clean.0 among v long again)
        (sym (rest_of-joined names before word name v more spells.0 spells.1
        ∙ rest_of-again names before name v more (sym (has_row_is name before) ∙ again)))
    idle_joined name v among long later false new =
        let spells = joined_spells word name v long in
        step _ _ _ word more (joined_new names rows pending (map row before) passes settles word name clean.0 among v long new)
        (joined_walk names rows pending (map row before) passes settles word name clean.0 among v long new)
        (as_said _ _ more _ (sym (rest_of-joined names before word name v more spells.0 spells.1))
        (later (map row before ++ row (name, v) ∷ []) None (before ++ (name, v) ∷ []) refl (more_rows before (name, v))
        (more_are before name v are among (sym (has_row_is name before) ∙ new)) clean.1))

    idle_step : IdleReads names more → WantsReads names more → Reading names word
        → Says names (rest_of names before None (word ∷ more)) (word ∷ more) (idle_at rows pending)
    idle_step later wants_later (is_joined _ name v among long) = idle_joined name v among long later (has_row name (map row before)) refl
    idle_step later wants_later (is_wants _ name among long) =
        let spells = wants_spells word name long in
        step _ _ _ word more (wants_passes names rows pending (map row before) passes settles word name clean.0 among long)
        (wants_walk names rows pending (map row before) passes settles word name clean.0 among long)
        (as_said _ _ more _ (sym (rest_of-wants names before word name more spells.0 spells.1)) (wants_later before name among are clean.1))
    idle_step later wants_later (is_other _ other) =
        halt _ _ word more _ (idle_other names rows pending word clean.0 other) (sym (rest_of-other names known before word more other))

  idle_more : (word : Text) (more : List Text) → IdleReads names more → WantsReads names more → IdleReads names (word ∷ more)
  idle_more word more later wants_later rows pending before passes settles are clean =
      idle_step word more rows pending before passes settles are clean later wants_later (reading_of names word)

  -- ---- an option waits for its value

  wants_done : WantsReads names []
  wants_done before name among are clean =
      ends_badly (options_built names) (Good names None) (None ≡ None) (wants_at (map row before) name) _ (wants_end names (map row before) name among) refl

  module _ (word : Text) (more : List Text) (before : List Setting) (name : Text) (among : is_among names name ≡ true)
      (are : are_of (map dashed names) (map dash before) ≡ true) (clean : NoDashes (word ∷ more)) where
    -- what begins with a hyphen is no value
    hyphen : (t : Text) → word ≡ 45 ∷ t → None ≡ rest_of names before (Some (dashed name)) (word ∷ more)
    hyphen t is =
        sym (ap (λ w. rest_of names before (Some (dashed name)) (w ∷ more)) is ∙ rest_of-value names before name (45 ∷ t) more
        ∙ rest_of-hyphen names known before name t more among)

    long_hyphen : (n : Text) (v : Option Text) → long_of word ≡ Some (n, v) → None ≡ rest_of names before (Some (dashed name)) (word ∷ more)
    long_hyphen n v long = let at = long_shape word n v long in hyphen (45 ∷ at.0) at.1

    short_hyphen : (f : Text) → short_of word ≡ Some f → None ≡ rest_of names before (Some (dashed name)) (word ∷ more)
    short_hyphen f short = let at = short_shape word f short in hyphen at.0 at.1

    -- the word is the value
    valued : IdleReads names more → (b : Bool) → has_row name (map row before) ≡ b
        → Says names (rest_of names before (Some (dashed name)) (word ∷ more)) more (idle_at (map row before) (Some (name, word ∷ [])))
    valued later true again =
        twice_reads (map row before) (Some (name, word ∷ [])) (settle_again names (map row before) name word among again) more clean.1 _
        (sym (rest_of-value names before name word more ∙ rest_of-again names before name word more (sym (has_row_is name before) ∙ again)))
    valued later false new =
        as_said _ _ more _ (sym (rest_of-value names before name word more))
        (later (map row before) (Some (name, word ∷ [])) (before ++ (name, word) ∷ []) (settle_new names (map row before) name word among new)
        (settles_new names (map row before) name word among new ∙ more_rows before (name, word))
        (more_are before name word are among (sym (has_row_is name before) ∙ new)) clean.1)

    wants_bundle : IdleReads names more → (x : ℕ) (xs : Text) → long_of word ≡ None → short_of word ≡ Some (x ∷ xs) → (o : Option ℕ)
        → slice_get (chars (x ∷ xs)) 0 ≡ o → Says names (rest_of names before (Some (dashed name)) (word ∷ more)) (word ∷ more) (wants_at (map row before) name)
    wants_bundle later x xs long short None first =
        step _ _ _ word more (wants_no_flag names (map row before) name among word x xs clean.0 long short first)
        (wants_no_flag_walk names (map row before) name among word x xs clean.0 long short first)
        (valued later (has_row name (map row before)) refl)
    wants_bundle later x xs long short (Some c) first =
        halt _ _ word more _ (wants_flags names (map row before) name among word x xs c clean.0 long short first) (short_hyphen (x ∷ xs) short)

    wants_step : IdleReads names more → Reading names word
        → Says names (rest_of names before (Some (dashed name)) (word ∷ more)) (word ∷ more) (wants_at (map row before) name)
    wants_step later (is_joined _ n v known long) =
        halt _ _ word more _ (wants_named names (map row before) name among word n (Some v) clean.0 known long) (long_hyphen n (Some v) long)
    wants_step later (is_wants _ n known long) =
        halt _ _ word more _ (wants_named names (map row before) name among word n None clean.0 known long) (long_hyphen n None long)
    wants_step later (is_other _ (unknown _ n v long other)) =
        halt _ _ word more _ (wants_unknown names (map row before) name among word n v clean.0 long other) (long_hyphen n v long)
    wants_step later (is_other _ (bundle _ x xs long short)) = wants_bundle later x xs long short (slice_get (chars (x ∷ xs)) 0) refl
    wants_step later (is_other _ (plain _ long short)) =
        step _ _ _ word more (wants_plain names (map row before) name among word clean.0 long short)
        (wants_plain_walk names (map row before) name among word clean.0 long short)
        (valued later (has_row name (map row before)) refl)

  wants_more : (word : Text) (more : List Text) → IdleReads names more → WantsReads names (word ∷ more)
  wants_more word more later before name among are clean = wants_step word more before name among are clean later (reading_of names word)

  -- ---- all the words

  pub all_read : (words : List Text) → IdleReads names words × WantsReads names words
  all_read [] = (idle_done, wants_done)
  all_read (word ∷ more) = let later = all_read more in (idle_more word more later.0 later.1, wants_more word more later.0)
