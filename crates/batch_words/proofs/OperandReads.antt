-- Words that have to stand: clap takes them where each name has its word and none is an option.
use Rattle.std.proofs.Common.{◌≡◌, ◌∙◌, ◌<◌, ◌+◌, ◌^◌, ◌⊎◌, inl, inr, ℕ, Bool, true, false, refl, sym, ap, ap₂, arith, subst, List, [], ◌∷◌, ◌++◌, length, map, Option, Some, None, codes, append_assoc, append-nil}
use Rattle.std.specs.List.{list_all}
use Rattle.std.specs.Prelude.{is_some, unwrap_or, ◌&&◌, ◌||◌, not, slice_get}
use Rattle.std.specs.Str.{bytes_eq, chars}
use Rattle.std.proofs.lemmas.Bool.{and_parts, and_right, not-true}
use Rattle.std.proofs.lemmas.List.{map-append}
use Rattle.std.proofs.lemmas.Simd.{map-map}
use Rattle.clap.proofs.WalkLemmas.{first_value-rows, list_any-map}
use Rattle.clap.specs.Faults.{fault_of, settle_fault}
use Rattle.clap.specs.Kinds.{Kinds}
use Rattle.clap.specs.Lexer.{long_of, short_of, short_of_rest, strip_byte}
use Rattle.clap.specs.Matches.{first_value, found_of}
use Rattle.clap.specs.Simple.{matches_of}
use Rattle.clap.specs.Walk.{Row, Text, arg_by_index, first_of, has_row, nothing_held, settled_rows, walk_from}
use Rattle.clap.specs.declared.parser.matches.ArgMatches.{ArgMatches}
use Rattle.batch_words.specs.Parses.{IsParse, are_operands, has_each, word_under, has_dashes, has_none, is_distinct, is_operand, operand_app}
use Rattle.batch_words.specs.Words.{Setting, is_among, stands_in}
use Rattle.batch_words.proofs.Rules.{operand_built, operands_built, operands_filled}
use Rattle.batch_words.proofs.Walks.{Agrees, Reads, ends, ends_badly, faults_from, go_on, rows_from, stop}
use Rattle.batch_words.proofs.Names.{among_first, among_more, not_among, same_text, texts_are}
use Rattle.batch_words.proofs.OptionWalk.{Pending, idle_held, row}
use Rattle.batch_words.proofs.OptionWords.{bind_some, long_shape, never_empty, strip_some}
use Rattle.batch_words.proofs.OptionGrammar.{new_at_end}
use Rattle.batch_words.proofs.OptionAnswers.{clean_words}
use Rattle.batch_words.proofs.OptionReads.{NoDashes}
use Rattle.batch_words.proofs.OperandWalk.{AreNext, Flag, Plain, all_end, all_next, at_place, bundle, flag_stops, further_stops, long, missing_end, place_passes, place_rows, place_settle, place_settles, place_walk, plain, short}

-- ---- a word is an option, or is none

short_sort : (word : Text) → long_of word ≡ None → (o : Option Text) → short_of word ≡ o → Plain word ⊎ Flag word
short_sort word is_long None is_short = inl (plain word is_long is_short)
short_sort word is_long (Some []) is_short =
    let outer = bind_some short_of_rest (strip_byte 45 word) [] is_short in
    absurd (never_empty outer.0 outer.2)
short_sort word is_long (Some (x ∷ xs)) is_short = go (slice_get (chars (x ∷ xs)) 0) refl
  where
    go : (o : Option ℕ) → slice_get (chars (x ∷ xs)) 0 ≡ o → Plain word ⊎ Flag word
    go None first = inl (bundle word x xs is_long is_short first)
    go (Some c) first = inr (short word x xs c is_long is_short first)

sort_of : (word : Text) → Plain word ⊎ Flag word
sort_of word = go (long_of word) refl
  where
    go : (o : Option (Text × Option Text)) → long_of word ≡ o → Plain word ⊎ Flag word
    go None is_long = short_sort word is_long (short_of word) refl
    go (Some p) is_long = inr (long word p.0 p.1 is_long)

some_rest : (t : Text) (f : Text) → short_of_rest t ≡ Some f → is_operand (45 ∷ t) ≡ false
some_rest [] f e = cc
some_rest (x ∷ xs) f e = refl

flag_is_none : (word : Text) → Flag word → is_operand word ≡ false
flag_is_none word (long _ n v is_long) = ap is_operand (long_shape word n v is_long).1
flag_is_none word (short _ x xs c is_long is_short first) =
    let outer = bind_some short_of_rest (strip_byte 45 word) (x ∷ xs) is_short in
    ap is_operand (strip_some 45 word outer.0 outer.1) ∙ some_rest outer.0 (x ∷ xs) outer.2

-- ---- all the words

abbrev GoodFrom : List Setting → List Text → List Text → List Row → Type 0
GoodFrom given rest words rows =
    (more : List Setting) × (rows ≡ map row (given ++ more)) × (map (λ g. g.0) more ≡ rest) × (map (λ g. g.1) more ≡ words)

abbrev BadFrom : List Text → List Text → Type 0
BadFrom rest words = are_operands rest words ≡ false

-- no name that is left was given
abbrev AreNew : List Setting → List Text → Type 0
AreNew given rest = (name : Text) → is_among rest name ≡ true → stands_in given name ≡ false

weaker : (Good Better : List Row → Type 0) (Bad Worse : Type 0) (kinds : Kinds) (rows : List Row) → ((rows : List Row) → Better rows → Good rows) → (Worse → Bad)
    → Agrees Better Worse kinds rows → Agrees Good Bad kinds rows
weaker Good Better Bad Worse [] rows good bad h = good rows h
weaker Good Better Bad Worse (k ∷ ks) rows good bad h = bad h

has_row_is : (name : Text) (given : List Setting) → has_row name (map row given) ≡ stands_in given name
has_row_is name given = sym (list_any-map (λ r. bytes_eq r.id name) row given)

module _ (names : List Text) where
  read_step : (word : Text) (more : List Text) (name : Text) (rest : List Text) (p : ℕ) (rows : List Row) (pending : Pending) (given : List Setting)
      → arg_by_index (operands_built 1 names) p ≡ Some (operand_built p name) → p < 2 ^ 33
      → settle_fault (operands_built 1 names) false (idle_held rows pending) ≡ [] → settled_rows (operands_built 1 names) pending rows ≡ map row given
      → NoDashes (word ∷ more)
      → Reads (operands_built 1 names) (GoodFrom (given ++ (name, word) ∷ []) rest more) (BadFrom rest more) (at_place (p + 1) (map row given) (Some (name, word ∷ []))) more
      → Plain word ⊎ Flag word
      → Reads (operands_built 1 names) (GoodFrom given (name ∷ rest) (word ∷ more)) (BadFrom (name ∷ rest) (word ∷ more)) (at_place p rows pending) (word ∷ more)
  read_step word more name rest p rows pending given here few passes settles clean later (inl is_plain) =
      go_on (operands_built 1 names) (GoodFrom given (name ∷ rest) (word ∷ more)) (BadFrom (name ∷ rest) (word ∷ more)) _ _ word more
      (place_passes names p rows pending word clean.0 name here passes is_plain)
      (place_walk names p rows pending word clean.0 name here (map row given) settles few is_plain)
      (weaker (GoodFrom given (name ∷ rest) (word ∷ more)) (GoodFrom (given ++ (name, word) ∷ []) rest more) (BadFrom (name ∷ rest) (word ∷ more)) (BadFrom rest more) _ _
      (λ rs good. (
        (name, word) ∷ good.0,
        good.1 ∙ ap (map row) (append_assoc given ((name, word) ∷ []) good.0),
        ap (λ xs. name ∷ xs) good.2,
        ap (λ xs. word ∷ xs) good.3,
      ))
      (λ bad. ap (λ b. is_operand word && b) bad ∙ and_right (is_operand word) false refl) later)
  read_step word more name rest p rows pending given here few passes settles clean later (inr is_flag) =
      stop (operands_built 1 names) (GoodFrom given (name ∷ rest) (word ∷ more)) (BadFrom (name ∷ rest) (word ∷ more)) (at_place p rows pending) word more _
      (flag_stops names p rows pending word clean.0 is_flag) (ap (λ b. b && are_operands rest more) (flag_is_none word is_flag))

  read : (words rest : List Text) (p : ℕ) (rows : List Row) (pending : Pending) (given : List Setting) → AreNext (operands_built 1 names) p rest
      → map (λ g. g.0) given ++ rest ≡ names → AreNew given rest → is_distinct rest ≡ true → p + length rest < 2 ^ 33
      → settle_fault (operands_built 1 names) false (idle_held rows pending) ≡ [] → settled_rows (operands_built 1 names) pending rows ≡ map row given → NoDashes words
      → Reads (operands_built 1 names) (GoodFrom given rest words) (BadFrom rest words) (at_place p rows pending) words
  read [] [] p rows pending given next all new distinct few passes settles clean =
      ends (operands_built 1 names) (GoodFrom given [] []) (BadFrom [] []) (at_place p rows pending) (map row given)
      (all_end names p rows pending given passes settles (sym (append-nil (map (λ g. g.0) given)) ∙ all)) (place_rows names p rows pending given passes settles)
      ([], ap (map row) (sym (append-nil given)), refl, refl)
  read [] (name ∷ rest) p rows pending given next all new distinct few passes settles clean =
      ends_badly (operands_built 1 names) (GoodFrom given (name ∷ rest) []) (BadFrom (name ∷ rest) []) (at_place p rows pending) _
      (missing_end names p rows pending given passes settles name p next.1 (new name (among_first name rest))) refl
  read (word ∷ more) [] p rows pending given next all new distinct few passes settles clean = elim (sort_of word) [
    | inl is_plain ↦ stop (operands_built 1 names) (GoodFrom given [] (word ∷ more)) (BadFrom [] (word ∷ more)) (at_place p rows pending) word more _
        (further_stops names p rows pending word clean.0 next is_plain) refl
    | inr is_flag ↦ stop (operands_built 1 names) (GoodFrom given [] (word ∷ more)) (BadFrom [] (word ∷ more)) (at_place p rows pending) word more _
        (flag_stops names p rows pending word clean.0 is_flag) refl
  ]
  read (word ∷ more) (name ∷ rest) p rows pending given next all new distinct few passes settles clean =
      let parts = and_parts (not (is_among rest name)) (is_distinct rest) distinct in
      let fresh : has_row name (map row given) ≡ false = has_row_is name given ∙ new name (among_first name rest) in
      let later = read more rest (p + 1) (map row given) (Some (name, word ∷ [])) (given ++ (name, word) ∷ []) next.2
      (ap (λ xs. xs ++ rest) (map-append (λ g. g.0) given ((name, word) ∷ [])) ∙ append_assoc (map (λ g. g.0) given) (name ∷ []) rest ∙ all)
      (λ n among. new_at_end given name word n (new n (among_more name rest n among))
      (not_among rest name n (not-true (is_among rest name) parts.0) among))
      parts.1 (omega arith) (place_settle names p (map row given) name word next.1 fresh)
      (place_settles names p (map row given) name word next.1 fresh ∙ sym (map-append row given ((name, word) ∷ []))) clean.1 in
      read_step word more name rest p rows pending given next.0 (omega arith) passes settles clean later (sort_of word)

  agree : is_distinct names ≡ true → length names < 2 ^ 32 → (words : List Text) → has_dashes words ≡ false
      → Agrees (GoodFrom [] names words) (BadFrom names words) (fault_of (operand_app names) words) (matches_of (operand_app names) words)
  agree distinct few words clean =
      let all = read words names 1 [] None [] (all_next names distinct) refl (λ name among. refl) distinct (omega arith) refl refl (clean_words words clean) in
      subst (λ rs. Agrees (GoodFrom [] names words) (BadFrom names words) (faults_from rs (walk_from nothing_held) words) (rows_from rs (walk_from nothing_held) words))
      (sym (operands_filled 1 names (omega arith))) all

-- ---- what an answer of clap tells

dashes_are_none : (names words : List Text) → has_dashes words ≡ true → are_operands names words ≡ false
dashes_are_none names [] has = cc
dashes_are_none [] (word ∷ more) has = refl
dashes_are_none (name ∷ names) (word ∷ more) has = go (bytes_eq word (codes "--")) refl has (dashes_are_none names more)
  where
    go : (b : Bool) → bytes_eq word (codes "--") ≡ b → (b || has_dashes more) ≡ true → (has_dashes more ≡ true → are_operands names more ≡ false)
        → (is_operand word && are_operands names more) ≡ false
    go true is has later = ap (λ w. is_operand w && are_operands names more) (texts_are word (codes "--") is)
    go false is has later = ap (λ b. is_operand word && b) (later has) ∙ and_right (is_operand word) false refl

same_map : (f h : Text → Option Text) (names : List Text) → ((name : Text) → is_among names name ≡ true → f name ≡ h name) → map f names ≡ map h names
same_map f h [] same = refl
same_map f h (name ∷ names) same =
    ap₂ (λ x xs. x ∷ xs) (same name (among_first name names))
    (same_map f h names (λ n among. same n (among_more name names n among)))

values_are : (given : List Setting) → is_distinct (map (λ g. g.0) given) ≡ true
    → map (λ name. first_of name (map row given)) (map (λ g. g.0) given) ≡ map (λ g. Some g.1) given
values_are [] distinct = refl
values_are (one ∷ given) distinct =
    let parts = and_parts (not (is_among (map (λ g. g.0) given) one.0)) (is_distinct (map (λ g. g.0) given)) distinct in
    let same : bytes_eq one.0 one.0 ≡ true = same_text one.0 in
    let first : first_of one.0 (row one ∷ map row given) ≡ Some one.1 = rw same refl in
    ap₂ (λ x xs. x ∷ xs) first
    (same_map (λ name. first_of name (row one ∷ map row given)) (λ name. first_of name (map row given)) (map (λ g. g.0) given)
    (λ name among. first_later one name given (not_among (map (λ g. g.0) given) one.0 name (not-true (is_among (map (λ g. g.0) given) one.0) parts.0) among))
    ∙ values_are given parts.1)
  where
    first_later : (one : Setting) (name : Text) (given : List Setting) → bytes_eq one.0 name ≡ false → first_of name (row one ∷ map row given) ≡ first_of name (map row given)
    first_later one name given other = rw other refl

as_words : (f : Text → Option Text) (names words : List Text) → map f names ≡ map (λ word. Some word) words
    → (words ≡ map (λ name. unwrap_or (f name) []) names) × (list_all (λ name. is_some (f name)) names ≡ true)
as_words f [] [] same = (refl, refl)
as_words f [] (word ∷ words) same = cc
as_words f (name ∷ names) [] same = cc
as_words f (name ∷ names) (word ∷ words) same =
    let first : f name ≡ Some word = cc in
    let later : map f names ≡ map (λ w. Some w) words = cc in
    let rest = as_words f names words later in
    (ap₂ (λ w ws. w ∷ ws) (ap (λ o. unwrap_or o []) (sym first)) rest.0, ap₂ (λ o b. is_some o && b) first rest.1)

module _ (names : List Text) (distinct : is_distinct names ≡ true) (few : length names < 2 ^ 32) (words : List Text) where
  pub operands-refused : IsParse (operand_app names) words None → are_operands names words ≡ false
  operands-refused refused = go (has_dashes words) refl refused
    where
      some : (kinds : Kinds) (rows : List Row) → has_none kinds ≡ false → Agrees (GoodFrom [] names words) (BadFrom names words) kinds rows → are_operands names words ≡ false
      some [] rows is h = cc
      some (k ∷ ks) rows is h = h

      go : (b : Bool) → has_dashes words ≡ b → (not b && has_none (fault_of (operand_app names) words)) ≡ false → are_operands names words ≡ false
      go true has refused = dashes_are_none names words has
      go false clean refused = some (fault_of (operand_app names) words) (matches_of (operand_app names) words) refused (agree names distinct few words clean)

  all_good : (kinds : Kinds) (rows : List Row) → has_none kinds ≡ true → Agrees (GoodFrom [] names words) (BadFrom names words) kinds rows → GoodFrom [] names words rows
  all_good [] rows none h = h
  all_good (k ∷ ks) rows none h = cc

  operands-parsed : (m : ArgMatches) → IsParse (operand_app names) words (Some m)
      → map (λ name. first_value (found_of m) name) names ≡ map (λ word. Some word) words
  operands-parsed m parse =
      let taken = and_parts (not (has_dashes words)) (has_none (fault_of (operand_app names) words)) parse.0 in
      let good = all_good (fault_of (operand_app names) words) (matches_of (operand_app names) words) taken.1
      (agree names distinct few words (not-true (has_dashes words) taken.0)) in
      same_map (λ name. first_value (found_of m) name) (λ name. first_of name (map row good.0)) names
      (λ name among. first_value-rows (found_of m) name ∙ ap (first_of name) (parse.1 ∙ good.1))
      ∙ ap (map (λ name. first_of name (map row good.0))) (sym good.2) ∙ values_are good.0 (ap is_distinct good.2 ∙ distinct)
      ∙ sym (map-map (λ word. Some word) (λ g. g.1) good.0) ∙ ap (map (λ word. Some word)) good.3

  pub operands-words : (m : ArgMatches) → IsParse (operand_app names) words (Some m) → (words ≡ map (word_under m) names) × (has_each m names ≡ true)
  operands-words m parse = as_words (λ name. first_value (found_of m) name) names words (operands-parsed m parse)
