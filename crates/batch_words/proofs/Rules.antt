-- What building makes of a command whose arguments are all options, or all words that have to stand.
use Rattle.std.proofs.Common.{◌≡◌, ◌∙◌, ◌<◌, ◌+◌, ℕ, Bool, true, false, cond, refl, sym, ap, ap₂, arith, List, [], ◌∷◌, ◌++◌, length, get_or, take, map, min, ◌^◌, Some, None}
use Rattle.std.specs.Prelude.{◌&&◌, ◌||◌, count_by, fold, if◌then◌else◌, is_some, not}
use Rattle.std.proofs.lemmas.List.{map-append, take_more}
use Rattle.std.specs.List.{list_all, list_any}
use Rattle.std.specs.Str.{bytes_eq}
use Rattle.std.proofs.lemmas.Slice.Eq.{bytes_eq-Decides}
use Rattle.clap.specs.Faults.{defaults_fault, given_default_fault, is_simple_and_free}
use Rattle.clap.specs.Kinds.{or_else}
use Rattle.clap.specs.Lexer.{usize_max}
use Rattle.clap.specs.Simple.{App, filled, filled_from, with_index, with_rule}
use Rattle.clap.specs.Takes.{is_given}
use Rattle.clap.specs.Walk.{Row, Rule, arg_by_id, arg_by_index, arg_by_long, arg_by_short, has_row, is_early_multiple, texts, with_default}
use Rattle.std.specs.Borrow.{Bor}
use Rattle.batch_words.specs.Parses.{app_with, operand_app, operand_rule, option_app, option_rule}
use Rattle.batch_words.specs.Words.{is_among}

-- ---- a command that gets its rules one after another

pub one_more : (f : List ℕ → Rule) (names : List (Bor (List ℕ))) (i : ℕ) (d : Bor (List ℕ)) (old new : App) (rule : Rule) → i < length names
    → old ≡ app_with (map f (texts (take i names))) → new ≡ with_rule old rule → rule ≡ f (get_or names i d).now
    → new ≡ app_with (map f (texts (take (i + 1) names)))
one_more f names i d old new rule within is_old is_new is_rule =
    let name = (get_or names i d).now in
    let more : map f (texts (take (i + 1) names)) ≡ map f (texts (take i names)) ++ f name ∷ [] =
    ap (λ xs. map f (texts xs)) (take_more names i d within)
    ∙ ap (map f) (map-append (λ s. s.now) (take i names) (get_or names i d ∷ [])) ∙ map-append f (texts (take i names)) (name ∷ []) in
    is_new ∙ ap₂ with_rule is_old is_rule ∙ ap app_with (sym more)

-- ---- rules with one property

all_over : (p : Rule → Bool) (f : List ℕ → Rule) → ((name : List ℕ) → p (f name) ≡ true) → (names : List (List ℕ)) → list_all p (map f names) ≡ true
all_over p f each [] = refl
all_over p f each (name ∷ names) = ap₂ (λ a b. a && b) (each name) (all_over p f each names)

none_over : (p : Rule → Bool) (f : List ℕ → Rule) → ((name : List ℕ) → p (f name) ≡ false) → (names : List (List ℕ)) → list_any p (map f names) ≡ false
none_over p f each [] = refl
none_over p f each (name ∷ names) = ap₂ (λ a b. a || b) (each name) (none_over p f each names)

-- ---- options

abbrev pub option_built : List ℕ → Rule
option_built name = with_index 1 (filled (option_rule name))

abbrev pub options_built : List (List ℕ) → List Rule
options_built names = map option_built names

pub options_filled : (i : ℕ) (names : List (List ℕ)) → filled_from i (map option_rule names) ≡ options_built names
options_filled i [] = refl
options_filled i (name ∷ names) = ap (λ more. option_built name ∷ more) (options_filled i names)

pub options_free : (names : List (List ℕ)) → is_simple_and_free (option_app names) ≡ true
options_free names =
    let built = options_filled 1 names in
    let raw = all_over (λ a. a.is_simple) option_rule (λ _. refl) names in
    let simple = all_over (λ a. a.is_simple) option_built (λ _. refl) names in
    let free = all_over (λ a. a.is_free) option_built (λ _. refl) names in
    let ordered = none_over (is_early_multiple (count_by (λ a. is_some a.index) (options_built names))) option_built (λ _. refl) names in
    rw (built, raw, simple, free, ordered) refl

pub by_long : (names : List (List ℕ)) (name : List ℕ) → is_among names name ≡ true → arg_by_long (options_built names) name ≡ Some (option_built name)
by_long [] name among = cc
by_long (one ∷ names) name among = go (bytes_eq one name) refl among (by_long names name)
  where
    go : (b : Bool) → bytes_eq one name ≡ b → (b || is_among names name) ≡ true
        → (is_among names name ≡ true → arg_by_long (options_built names) name ≡ Some (option_built name))
        → cond (b || false) (Some (option_built one)) (arg_by_long (options_built names) name) ≡ Some (option_built name)
    go true same among more = ap (λ n. Some (option_built n)) ((bytes_eq-Decides one name).0 same)
    go false other among more = more among

pub by_long-none : (names : List (List ℕ)) (name : List ℕ) → is_among names name ≡ false → arg_by_long (options_built names) name ≡ None
by_long-none [] name among = refl
by_long-none (one ∷ names) name among = go (bytes_eq one name) among (by_long-none names name)
  where
    go : (b : Bool) → (b || is_among names name) ≡ false
        → (is_among names name ≡ false → arg_by_long (options_built names) name ≡ None)
        → cond (b || false) (Some (option_built one)) (arg_by_long (options_built names) name) ≡ None
    go true among more = cc
    go false among more = more among

pub by_id : (names : List (List ℕ)) (name : List ℕ) → is_among names name ≡ true → arg_by_id (options_built names) name ≡ Some (option_built name)
by_id [] name among = cc
by_id (one ∷ names) name among = go (bytes_eq one name) refl among (by_id names name)
  where
    go : (b : Bool) → bytes_eq one name ≡ b → (b || is_among names name) ≡ true
        → (is_among names name ≡ true → arg_by_id (options_built names) name ≡ Some (option_built name))
        → cond b (Some (option_built one)) (arg_by_id (options_built names) name) ≡ Some (option_built name)
    go true same among more = ap (λ n. Some (option_built n)) ((bytes_eq-Decides one name).0 same)
    go false other among more = more among

pub by_short-none : (names : List (List ℕ)) (x : ℕ) → arg_by_short (options_built names) x ≡ None
by_short-none [] x = refl
by_short-none (one ∷ names) x = by_short-none names x

pub by_index-none : (names : List (List ℕ)) (i : ℕ) → arg_by_index (options_built names) i ≡ None
by_index-none [] i = refl
by_index-none (one ∷ names) i = by_index-none names i

same_either_way : {X : Type 0} (b : Bool) (x : X) → cond b x x ≡ x
same_either_way true x = refl
same_either_way false x = refl

pub no_defaults : (rows : List Row) (names : List (List ℕ)) → fold with_default rows (options_built names) ≡ rows
no_defaults rows [] = refl
no_defaults rows (name ∷ names) =
    ap (λ r. fold with_default r (options_built names)) (same_either_way (has_row name rows) rows) ∙ no_defaults rows names

pub no_default_faults : (rows : List Row) (names : List (List ℕ)) → defaults_fault rows (options_built names) ≡ []
unfolding defaults_fault
no_default_faults rows [] = refl
no_default_faults rows (name ∷ names) = step (has_row name rows) (no_default_faults rows names)
  where
    step : (b : Bool) → defaults_fault rows (options_built names) ≡ []
        → or_else (if b || true then [] else given_default_fault (option_built name) []) (defaults_fault (cond b rows rows) (options_built names)) ≡ []
    step true none = none
    step false none = none

pub none_required : (rows : List Row) (names : List (List ℕ)) → list_any (λ a. a.required && not (is_given a.id rows)) (options_built names) ≡ false
none_required rows names = none_over (λ a. a.required && not (is_given a.id rows)) option_built (λ _. refl) names

-- ---- words that have to stand

abbrev pub operand_built : ℕ → List ℕ → Rule
operand_built i name = with_index i (filled (operand_rule name))

-- each has its place, from the i-th on
abbrev pub operands_built : ℕ → List (List ℕ) → List Rule
operands_built i [] = []
operands_built i (name ∷ names) = operand_built i name ∷ operands_built (i + 1) names

pub operands_filled : (i : ℕ) (names : List (List ℕ)) → i + length names < 2 ^ 33 → filled_from i (map operand_rule names) ≡ operands_built i names
operands_filled i [] few = refl
operands_filled i (name ∷ names) few =
    let next : min (i + 1) usize_max ≡ i + 1 = omega arith in
    let more : filled_from (i + 1) (map operand_rule names) ≡ operands_built (i + 1) names = operands_filled (i + 1) names (omega arith) in
    ap (λ j. operand_built i name ∷ filled_from j (map operand_rule names)) next ∙ ap (λ rs. operand_built i name ∷ rs) more

all_operands : (p : Rule → Bool) → ((i : ℕ) (name : List ℕ) → p (operand_built i name) ≡ true) → (i : ℕ) (names : List (List ℕ)) → list_all p (operands_built i names) ≡ true
all_operands p each i [] = refl
all_operands p each i (name ∷ names) = ap₂ (λ a b. a && b) (each i name) (all_operands p each (i + 1) names)

no_operand : (p : Rule → Bool) → ((i : ℕ) (name : List ℕ) → p (operand_built i name) ≡ false) → (i : ℕ) (names : List (List ℕ)) → list_any p (operands_built i names) ≡ false
no_operand p each i [] = refl
no_operand p each i (name ∷ names) = ap₂ (λ a b. a || b) (each i name) (no_operand p each (i + 1) names)

pub operands_free : (names : List (List ℕ)) → length names < 2 ^ 32 → is_simple_and_free (operand_app names) ≡ true
operands_free names few =
    let built = operands_filled 1 names (omega arith) in
    let raw = all_over (λ a. a.is_simple) operand_rule (λ _. refl) names in
    let simple = all_operands (λ a. a.is_simple) (λ _ _. refl) 1 names in
    let free = all_operands (λ a. a.is_free) (λ _ _. refl) 1 names in
    let ordered = no_operand (is_early_multiple (count_by (λ a. is_some a.index) (operands_built 1 names))) (λ _ _. refl) 1 names in
    rw (built, raw, simple, free, ordered) refl

pub operand_by_long-none : (i : ℕ) (names : List (List ℕ)) (name : List ℕ) → arg_by_long (operands_built i names) name ≡ None
operand_by_long-none i [] name = refl
operand_by_long-none i (one ∷ names) name = operand_by_long-none (i + 1) names name

pub operand_by_short-none : (i : ℕ) (names : List (List ℕ)) (x : ℕ) → arg_by_short (operands_built i names) x ≡ None
operand_by_short-none i [] x = refl
operand_by_short-none i (one ∷ names) x = operand_by_short-none (i + 1) names x

pub operand_no_defaults : (rows : List Row) (i : ℕ) (names : List (List ℕ)) → fold with_default rows (operands_built i names) ≡ rows
operand_no_defaults rows i [] = refl
operand_no_defaults rows i (name ∷ names) =
    ap (λ r. fold with_default r (operands_built (i + 1) names)) (same_either_way (has_row name rows) rows) ∙ operand_no_defaults rows (i + 1) names

pub operand_no_default_faults : (rows : List Row) (i : ℕ) (names : List (List ℕ)) → defaults_fault rows (operands_built i names) ≡ []
unfolding defaults_fault
operand_no_default_faults rows i [] = refl
operand_no_default_faults rows i (name ∷ names) = step (has_row name rows) (operand_no_default_faults rows (i + 1) names)
  where
    step : (b : Bool) → defaults_fault rows (operands_built (i + 1) names) ≡ []
        → or_else (if b || true then [] else given_default_fault (operand_built i name) []) (defaults_fault (cond b rows rows) (operands_built (i + 1) names)) ≡ []
    step true none = none
    step false none = none
