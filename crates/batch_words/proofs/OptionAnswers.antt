-- What an answer of clap tells of the options that the words spell.
use Rattle.std.proofs.Common.{◌≡◌, ◌∙◌, Bool, true, false, refl, sym, ap, ap₂, subst, List, [], ◌∷◌, ◌++◌, map, Option, Some, None, codes}
use Rattle.std.specs.Prelude.{◌&&◌, ◌||◌, not}
use Rattle.std.specs.List.{list_all}
use Rattle.std.specs.Str.{bytes_eq}
use Rattle.std.proofs.lemmas.Bool.{and_parts, false_from_ne_true, not-true, or_parts}
use Rattle.clap.proofs.WalkLemmas.{first_value-rows}
use Rattle.clap.specs.Faults.{fault_of}
use Rattle.clap.specs.Kinds.{Kinds}
use Rattle.clap.specs.Lexer.{long_of}
use Rattle.clap.specs.Matches.{first_value, found_of}
use Rattle.clap.specs.Simple.{matches_of}
use Rattle.clap.specs.Walk.{Row, Text, first_of, nothing_held, walk_from}
use Rattle.clap.specs.declared.parser.matches.ArgMatches.{ArgMatches}
use Rattle.batch_words.specs.Parses.{IsParse, dashed, has_dashes, has_none, is_known, option_app}
use Rattle.batch_words.specs.Words.{Setting, is_among, options, options_with, value_of}
use Rattle.batch_words.proofs.Rules.{options_filled}
use Rattle.batch_words.proofs.Walks.{Agrees, faults_from, rows_from}
use Rattle.batch_words.proofs.Names.{texts_are}
use Rattle.batch_words.proofs.OptionWords.{Reading, is_joined, is_other, is_wants, joined_spells, reading_of, wants_spells}
use Rattle.batch_words.proofs.OptionGrammar.{dash, first_is, rest_of, rest_of-hyphen, rest_of-joined, rest_of-other, rest_of-value, rest_of-wants, said_all}
use Rattle.batch_words.proofs.OptionReads.{Good, NoDashes, all_read}

-- ---- a word `--`

one_of_both : (a b : Bool) → a ≡ false → (a || b) ≡ true → b ≡ true
one_of_both true b e h = cc
one_of_both false b e h = h

pub clean_words : (words : List Text) → has_dashes words ≡ false → NoDashes words
clean_words [] e = tt
clean_words (word ∷ more) e =
    let parts = or_parts (bytes_eq word (codes "--")) (has_dashes more) e in
    (parts.0, clean_words more parts.1)

long_is_clean : (word n : Text) (v : Option Text) → long_of word ≡ Some (n, v) → bytes_eq word (codes "--") ≡ false
long_is_clean word n v long = false_from_ne_true (bytes_eq word (codes "--")) (λ h.
    let none : long_of word ≡ None = ap long_of (texts_are word (codes "--") h) in
    let bad : ◌≡◌ {A = Option (Text × Option Text)} None (Some (n, v)) = sym none ∙ long in cc)

module _ (names : List Text) (known : list_all is_known names ≡ true) where
  -- with a word `--` the words say nothing, also where an option waits for its value
  abbrev SayNothing : List Text → Type 0
  SayNothing words =
      ((before : List Setting) → has_dashes words ≡ true → rest_of names before None words ≡ None)
      × ((before : List Setting) (name : Text) → is_among names name ≡ true → has_dashes words ≡ true → rest_of names before (Some (dashed name)) words ≡ None)

  module _ (word : Text) (more : List Text) (later : SayNothing more) (has : has_dashes (word ∷ more) ≡ true) where
    behind : (n : Text) (v : Option Text) → long_of word ≡ Some (n, v) → has_dashes more ≡ true
    behind n v long = one_of_both (bytes_eq word (codes "--")) (has_dashes more) (long_is_clean word n v long) has

    dashes_step : (before : List Setting) → Reading names word → rest_of names before None (word ∷ more) ≡ None
    dashes_step before (is_joined _ name v among long) =
        let spells = joined_spells word name v long in
        rest_of-joined names before word name v more spells.0 spells.1 ∙ later.0 (before ++ (name, v) ∷ []) (behind name (Some v) long)
    dashes_step before (is_wants _ name among long) =
        let spells = wants_spells word name long in
        rest_of-wants names before word name more spells.0 spells.1 ∙ later.1 before name among (behind name None long)
    dashes_step before (is_other _ other) = rest_of-other names known before word more other

    dashes_value : (before : List Setting) (name : Text) → is_among names name ≡ true → (b : Bool) → bytes_eq word (codes "--") ≡ b
        → rest_of names before (Some (dashed name)) (word ∷ more) ≡ None
    dashes_value before name among true is =
        ap (λ w. rest_of names before (Some (dashed name)) (w ∷ more)) (texts_are word (codes "--") is)
        ∙ rest_of-value names before name (codes "--") more ∙ rest_of-hyphen names known before name (codes "-") more among
    dashes_value before name among false clean =
        rest_of-value names before name word more
        ∙ later.0 (before ++ (name, word) ∷ []) (one_of_both (bytes_eq word (codes "--")) (has_dashes more) clean has)

  say_nothing : (words : List Text) → SayNothing words
  say_nothing [] = (λ before has. cc, λ before name among has. refl)
  say_nothing (word ∷ more) =
      let later = say_nothing more in (
        λ before has. dashes_step word more later has before (reading_of names word),
        λ before name among has. dashes_value word more later has before name among (bytes_eq word (codes "--")) refl,
      )

  -- ---- all the words

  agree : (words : List Text) → has_dashes words ≡ false
      → Agrees (Good names (options (map dashed names) words)) (None ≡ options (map dashed names) words)
      (fault_of (option_app names) words) (matches_of (option_app names) words)
  agree words clean =
      let o = options (map dashed names) words in
      let read = (all_read names known words).0 [] None [] refl refl refl (clean_words words clean) in
      subst (λ rs. Agrees (Good names o) (None ≡ o) (faults_from rs (walk_from nothing_held) words) (rows_from rs (walk_from nothing_held) words))
      (sym (options_filled 1 names)) read

  none_said : (words : List Text) (kinds : Kinds) (rows : List Row) → has_none kinds ≡ false
      → Agrees (Good names (options (map dashed names) words)) (None ≡ options (map dashed names) words) kinds rows → None ≡ options (map dashed names) words
  none_said words [] rows some h = cc
  none_said words (k ∷ ks) rows some h = h

  all_said : (words : List Text) (kinds : Kinds) (rows : List Row) → has_none kinds ≡ true
      → Agrees (Good names (options (map dashed names) words)) (None ≡ options (map dashed names) words) kinds rows → Good names (options (map dashed names) words) rows
  all_said words [] rows none h = h
  all_said words (k ∷ ks) rows none h = cc

  pub options-refused : (words : List Text) → IsParse (option_app names) words None → None ≡ options (map dashed names) words
  options-refused words refused = go (has_dashes words) refl refused
    where
      go : (b : Bool) → has_dashes words ≡ b → (not b && has_none (fault_of (option_app names) words)) ≡ false → None ≡ options (map dashed names) words
      go true has refused = sym ((say_nothing words).0 [] has)
      go false clean refused = none_said words (fault_of (option_app names) words) (matches_of (option_app names) words) refused (agree words clean)

  pub options-parsed : (words : List Text) (m : ArgMatches) → IsParse (option_app names) words (Some m)
      → options_with (first_value (found_of m) (codes "workers")) (first_value (found_of m) (codes "mult")) ≡ options (map dashed names) words
  options-parsed words m parse =
      let taken = and_parts (not (has_dashes words)) (has_none (fault_of (option_app names) words)) parse.0 in
      let good = all_said words (fault_of (option_app names) words) (matches_of (option_app names) words) taken.1 (agree words (not-true (has_dashes words) taken.0)) in
      let value : (id : Text) → first_value (found_of m) id ≡ value_of (dashed id) (map dash good.0) =
      λ id. first_value-rows (found_of m) id ∙ ap (first_of id) (parse.1 ∙ good.1) ∙ first_is id good.0 in
      ap₂ options_with (value (codes "workers")) (value (codes "mult")) ∙ said_all names (map dash good.0) good.2 ∙ good.3
