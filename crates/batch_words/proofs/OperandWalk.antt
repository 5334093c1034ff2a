-- What clap makes of one word, where its arguments are words that have to stand.
use Rattle.std.proofs.Common.{◌≡◌, ◌∙◌, ◌<◌, ◌≤◌, ◌+◌, ℕ, Bool, true, false, cond, refl, ap, ap₂, arith, List, [], ◌∷◌, ◌++◌, map, min, Option, Some, None, append_assoc, append-nil, subst, ◌^◌}
use Rattle.std.specs.Prelude.{◌&&◌, ◌||◌, ◌==◌, find, not, slice_get}
use Rattle.std.specs.List.{list_any}
use Rattle.std.specs.Str.{bytes_eq, chars}
use Rattle.std.proofs.lemmas.Bool.{and_parts, and_right, eq-eqb, ne_eqb, not-true, or_right}
use Rattle.clap.specs.Lexer.{long_of, short_of, usize_max}
use Rattle.std.specs.Option.{option_map_or}
use Rattle.clap.specs.Facts.{explicit_source}
use Rattle.clap.specs.Takes.{is_given}
use Rattle.clap.specs.Walk.{Row, Rule, Text, Walk, arg_by_id, arg_by_index, bundle_met, has_row, is_pending, more_values, settled_rows, used, walked, without}
use Rattle.clap.specs.Faults.{flags_fault, settle_fault, turn_fault, walk_fault}
use Rattle.clap.proofs.WalkLemmas.{list_any-map}
use Rattle.clap.specs.declared.parser.matches.ValueSource.TheVariants.{CommandLine}
use Rattle.clap.specs.declared.error.kind.ErrorKind.TheVariants as kind
use Rattle.batch_words.specs.Parses.{is_distinct}
use Rattle.batch_words.specs.Words.{Setting, is_among, stands_in}
use Rattle.batch_words.proofs.Rules.{operand_built, operand_by_long-none, operand_by_short-none, operand_no_default_faults, operand_no_defaults, operands_built}
use Rattle.batch_words.proofs.Walks.{faults_from, rows_from, shape}
use Rattle.batch_words.proofs.Names.{among_first, among_more, not_among, same_text}
use Rattle.batch_words.proofs.OptionWalk.{IsNotDashes, Pending, at_row_new, idle_at, idle_held, row}

-- ---- the rules that are left

-- these names are next, from this place on
abbrev pub AreNext : List Rule → ℕ → List Text → Type 0
AreNext rules p [] = arg_by_index rules p ≡ None
AreNext rules p (name ∷ names) =
    (arg_by_index rules p ≡ Some (operand_built p name)) × (arg_by_id rules name ≡ Some (operand_built p name)) × AreNext rules (p + 1) names

find_behind : (test : Rule → Bool) (before more : List Rule) → find test before ≡ None → find test (before ++ more) ≡ find test more
find_behind test [] more none = refl
find_behind test (r ∷ before) more none = go (test r) none (find_behind test before more)
  where
    go : (b : Bool) → cond b (Some r) (find test before) ≡ None → (find test before ≡ None → find test (before ++ more) ≡ find test more)
        → cond b (Some r) (find test (before ++ more)) ≡ find test more
    go true none later = cc
    go false none later = later none

place_taken : (p q : ℕ) (name : Text) → (p == q) ≡ false → arg_by_index (operand_built p name ∷ []) q ≡ None
place_taken p q name other = rw other refl

name_taken : (p : ℕ) (name n : Text) → bytes_eq name n ≡ false → arg_by_id (operand_built p name ∷ []) n ≡ None
name_taken p name n other = rw other refl

are_next : (before : List Rule) (p : ℕ) (names : List Text) → ((q : ℕ) → p ≤ q → arg_by_index before q ≡ None)
    → ((name : Text) → is_among names name ≡ true → arg_by_id before name ≡ None) → is_distinct names ≡ true
    → AreNext (before ++ operands_built p names) p names
are_next before p [] no_place no_name distinct = ap (λ rs. arg_by_index rs p) (append-nil before) ∙ no_place p (omega arith)
are_next before p (name ∷ names) no_place no_name distinct =
    let parts = and_parts (not (is_among names name)) (is_distinct names) distinct in
    let here : (p == p) ≡ true = eq-eqb p p refl in
    let same : bytes_eq name name ≡ true = same_text name in
    let first : arg_by_index (operands_built p (name ∷ names)) p ≡ Some (operand_built p name) = rw here refl in
    let named : arg_by_id (operands_built p (name ∷ names)) name ≡ Some (operand_built p name) = rw same refl in (
      find_behind _ before (operands_built p (name ∷ names)) (no_place p (omega arith)) ∙ first,
      find_behind _ before (operands_built p (name ∷ names)) (no_name name (among_first name names)) ∙ named,
      subst (λ rs. AreNext rs (p + 1) names) (append_assoc before (operand_built p name ∷ []) (operands_built (p + 1) names))
          (are_next (before ++ operand_built p name ∷ []) (p + 1) names
          (λ q later. find_behind _ before (operand_built p name ∷ []) (no_place q (omega arith)) ∙ place_taken p q name (ne_eqb p q (λ e. omega arith)))
          (λ n among. find_behind _ before (operand_built p name ∷ []) (no_name n (among_more name names n among))
          ∙ name_taken p name n (not_among names name n (not-true (is_among names name) parts.0) among))
          parts.1),
    )

pub all_next : (names : List Text) → is_distinct names ≡ true → AreNext (operands_built 1 names) 1 names
all_next names distinct = are_next [] 1 names (λ q later. refl) (λ name among. refl) distinct

-- ---- where the walk stands

-- at this place
abbrev pub at_place : ℕ → List Row → Pending → Walk
at_place p rows pending = record (idle_at rows pending) { position = p }

pub operand_used : (p : ℕ) (name value : Text) (rows : List Row) → has_row name rows ≡ false
    → used (operand_built p name) (value ∷ []) rows ≡ rows ++ row (name, value) ∷ []
operand_used p name value rows new =
    let none : without name rows ≡ rows = at_row_new name (λ _. []) [] rows new ∙ append-nil rows in
    rw none (at_row_new name (more_values CommandLine (value ∷ [])) (row (name, value) ∷ []) rows new)

-- ---- one word

-- no option
pub data Plain : Text → Type 0 where
  bundle : (word : Text) (x : ℕ) (xs : Text) → long_of word ≡ None → short_of word ≡ Some (x ∷ xs) → slice_get (chars (x ∷ xs)) 0 ≡ None → Plain word
  plain : (word : Text) → long_of word ≡ None → short_of word ≡ None → Plain word

-- an option, of which there is none
pub data Flag : Text → Type 0 where
  long : (word n : Text) (v : Option Text) → long_of word ≡ Some (n, v) → Flag word
  short : (word : Text) (x : ℕ) (xs : Text) (c : ℕ) → long_of word ≡ None → short_of word ≡ Some (x ∷ xs) → slice_get (chars (x ∷ xs)) 0 ≡ Some c → Flag word

module _ (names : List Text) (p : ℕ) (rows : List Row) (pending : Pending) (word : Text) (dashes : IsNotDashes word) where
  pub flag_stops : Flag word → turn_fault (shape (operands_built 1 names)) [] (at_place p rows pending) word ≡ kind.UnknownArgument ∷ []
  unfolding bundle_met flags_fault
  flag_stops (long _ n v is_long) = let none = operand_by_long-none 1 names n in rw (dashes, is_long, none) refl
  flag_stops (short _ x xs c is_long is_short first) =
      let none = operand_by_short-none 1 names c in
      rw (dashes, is_long, is_short, first, none) (refl {a = kind.UnknownArgument ∷ []})

  -- no name is left
  pub further_stops : arg_by_index (operands_built 1 names) p ≡ None → Plain word
      → turn_fault (shape (operands_built 1 names)) [] (at_place p rows pending) word ≡ kind.UnknownArgument ∷ []
  unfolding bundle_met flags_fault
  further_stops none (bundle _ x xs is_long is_short first) = rw (dashes, is_long, is_short, first, none) (refl {a = kind.UnknownArgument ∷ []})
  further_stops none (plain _ is_long is_short) = rw (dashes, is_long, is_short, none) refl

  module _ (name : Text) (next : arg_by_index (operands_built 1 names) p ≡ Some (operand_built p name)) where
    several : (is_pending (operand_built p name) pending && false) ≡ false
    several = and_right (is_pending (operand_built p name) pending) false refl

    pub place_passes : settle_fault (operands_built 1 names) false (idle_held rows pending) ≡ [] → Plain word
        → turn_fault (shape (operands_built 1 names)) [] (at_place p rows pending) word ≡ []
    unfolding bundle_met flags_fault
    place_passes passes (bundle _ x xs is_long is_short first) = let alone = several in rw (dashes, is_long, is_short, first, next, alone, passes) refl
    place_passes passes (plain _ is_long is_short) = let alone = several in rw (dashes, is_long, is_short, next, alone, passes) refl

    pub place_walk : (now : List Row) → settled_rows (operands_built 1 names) pending rows ≡ now → p < 2 ^ 33 → Plain word
        → walked (operands_built 1 names) [] (at_place p rows pending) word ≡ at_place (p + 1) now (Some (name, word ∷ []))
    unfolding walked bundle_met
    place_walk now settles few (bundle _ x xs is_long is_short first) =
        let alone = several in
        let more : min (p + 1) usize_max ≡ p + 1 = omega arith in
        rw (dashes, is_long, is_short, first, next, alone, settles, more) (refl {a = at_place (p + 1) now (Some (name, word ∷ []))})
    place_walk now settles few (plain _ is_long is_short) =
        let alone = several in
        let more : min (p + 1) usize_max ≡ p + 1 = omega arith in
        rw (dashes, is_long, is_short, next, alone, settles, more) (refl {a = at_place (p + 1) now (Some (name, word ∷ []))})

-- ---- a value is pending

module _ (names : List Text) (p : ℕ) (rows : List Row) (name value : Text) (own : arg_by_id (operands_built 1 names) name ≡ Some (operand_built p name))
    (new : has_row name rows ≡ false) where
  pub place_settle : settle_fault (operands_built 1 names) false (idle_held rows (Some (name, value ∷ []))) ≡ []
  place_settle = rw (own, new) refl

  pub place_settles : settled_rows (operands_built 1 names) (Some (name, value ∷ [])) rows ≡ rows ++ row (name, value) ∷ []
  place_settles = rw own (operand_used p name value rows new)

-- ---- no word is left

-- an argument that has to stand does not
abbrev pub is_missing : List Row → Rule → Bool
is_missing rows a = a.required && not (is_given a.id rows)

pub is_given_is : (name : Text) (given : List Setting) → is_given name (map row given) ≡ stands_in given name
is_given_is name [] = refl
is_given_is name (one ∷ given) = go (bytes_eq one.0 name) (is_given_is name given)
  where
    go : (b : Bool) → is_given name (map row given) ≡ stands_in given name
        → option_map_or (λ r. explicit_source r.source) (cond b (Some (row one)) (find (λ r. bytes_eq r.id name) (map row given))) false
        ≡ (b || stands_in given name)
    go true later = refl
    go false later = later

found_passes : (test f : Rule → Bool) (rules : List Rule) (a : Rule) → find test rules ≡ Some a → f a ≡ true → list_any f rules ≡ true
found_passes test f [] a found passes = cc
found_passes test f (r ∷ rules) a found passes = go (test r) found (found_passes test f rules a)
  where
    go : (b : Bool) → cond b (Some r) (find test rules) ≡ Some a → (find test rules ≡ Some a → f a ≡ true → list_any f rules ≡ true)
        → (f r || list_any f rules) ≡ true
    go true found later =
        let same : r ≡ a = cc in
        ap (λ b. b || list_any f rules) (ap f same ∙ passes)
    go false found later = or_right (f r) (list_any f rules) (later found passes)

none_missing : (given : List Setting) (i : ℕ) (names : List Text) → ((name : Text) → is_among names name ≡ true → stands_in given name ≡ true)
    → list_any (is_missing (map row given)) (operands_built i names) ≡ false
none_missing given i [] all = refl
none_missing given i (name ∷ names) all =
    let same : bytes_eq name name ≡ true = same_text name in
    let stands : is_given name (map row given) ≡ true = is_given_is name given ∙ all name (among_first name names) in
    ap₂ (λ a b. not a || b) stands (none_missing given (i + 1) names (λ n among. all n (among_more name names n among)))

module _ (names : List Text) (p : ℕ) (rows : List Row) (pending : Pending) (given : List Setting)
    (passes : settle_fault (operands_built 1 names) false (idle_held rows pending) ≡ [])
    (settles : settled_rows (operands_built 1 names) pending rows ≡ map row given) where
  pub all_end : map (λ g. g.0) given ≡ names → faults_from (operands_built 1 names) (at_place p rows pending) [] ≡ []
  unfolding walk_fault
  all_end are =
      let faults = operand_no_default_faults (map row given) 1 names in
      let rest = operand_no_defaults (map row given) 1 names in
      let none = none_missing given 1 names
      (λ name among. list_any-map (λ one. bytes_eq one name) (λ g. g.0) given ∙ ap (λ ns. is_among ns name) are ∙ among) in
      rw (passes, settles, faults, rest, none) refl

  pub missing_end : (name : Text) (q : ℕ) → arg_by_id (operands_built 1 names) name ≡ Some (operand_built q name) → stands_in given name ≡ false
      → faults_from (operands_built 1 names) (at_place p rows pending) [] ≡ kind.MissingRequiredArgument ∷ []
  unfolding walk_fault
  missing_end name q own missing =
      let faults = operand_no_default_faults (map row given) 1 names in
      let rest = operand_no_defaults (map row given) 1 names in
      let some = found_passes (λ a. bytes_eq a.id name) (is_missing (map row given)) (operands_built 1 names) (operand_built q name) own
      (ap not (is_given_is name given ∙ missing)) in
      rw (passes, settles, faults, rest, some) refl

  pub place_rows : rows_from (operands_built 1 names) (at_place p rows pending) [] ≡ map row given
  place_rows = rw settles (operand_no_defaults (map row given) 1 names)
