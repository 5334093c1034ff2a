-- For the contracts of private functions: what `clap` makes of words.
use Rattle.std.specs.Prelude.{◌≡◌, ◌==◌, ◌&&◌, ◌||◌, ℕ, not, map, Bool, true, false, List, [], ◌∷◌, ◌++◌, codes, Option, Some, None, is_some, unwrap_or}
use Rattle.std.specs.List.{list_all, list_any}
use Rattle.std.specs.Str.{bytes_eq}
use Rattle.clap.specs.Faults.{fault_of}
use Rattle.clap.specs.Kinds.{Kinds}
use Rattle.clap.specs.Matches.{first_value, found_of}
use Rattle.clap.specs.Simple.{App, matches_of, new_app, new_rule, on_top}
use Rattle.clap.specs.Walk.{Rule, rows_of}
use Rattle.batch_words.specs.Words.{is_among}
use Rattle.batch_words.specs.declared.parsing.Form.{Form}
use Rattle.batch_words.specs.declared.parsing.Form.TheVariants.{Options, Operands}
use Rattle.clap.specs.declared.builder.action.ArgAction.TheVariants.{Set}
use Rattle.clap.specs.declared.parser.matches.ArgMatches.{ArgMatches}

-- ---- commands of `clap`

-- with neither help nor version, whose first word is no program's name
abbrev pub bare_app : App
bare_app =
    on_top (λ s. record s { no_binary_name = true; disable_help_flag = true })
    (new_app (codes "hpkebatch"))

abbrev pub app_with : List Rule → App
app_with rules = on_top (λ s. record s { rules = rules }) bare_app

-- `--NAME VALUE`
abbrev pub option_rule : List ℕ → Rule
option_rule name = record (new_rule name) { long = Some name; action = Some Set }

-- a word that has to stand
abbrev pub operand_rule : List ℕ → Rule
operand_rule name = record (new_rule name) { required = true; action = Some Set }

-- of one name
abbrev pub rule_under : Form → List ℕ → Rule
rule_under Options = option_rule
rule_under Operands = operand_rule

-- of names that are all options, or all words that have to stand
abbrev pub app_under : Form → List (List ℕ) → App
app_under form names = app_with (map (rule_under form) names)

abbrev pub option_app : List (List ℕ) → App
option_app names = app_under Options names

abbrev pub operand_app : List (List ℕ) → App
operand_app names = app_under Operands names

-- ---- parses

-- a word is `--`
abbrev pub has_dashes : List (List ℕ) → Bool
has_dashes words = list_any (λ word. bytes_eq word (codes "--")) words

abbrev pub has_none : Kinds → Bool
has_none [] = true
has_none (kind ∷ more) = false

-- `clap` takes the words, and none of them is `--`
abbrev pub is_taken : App → List (List ℕ) → Bool
is_taken app words = not (has_dashes words) && has_none (fault_of app words)

-- there are matches where the words are taken, and they are those of the words
abbrev pub IsParse : App → List (List ℕ) → Option ArgMatches → Type 0
IsParse app words None = is_taken app words ≡ false
IsParse app words (Some matches) =
    (is_taken app words ≡ true) × (rows_of (found_of matches) ≡ matches_of app words)

-- the word under a name, where one stands
abbrev pub word_under : ArgMatches → List ℕ → List ℕ
word_under matches name = unwrap_or (first_value (found_of matches) name) []

-- a word stands under each of these names
abbrev pub has_each : ArgMatches → List (List ℕ) → Bool
has_each matches names = list_all (λ name. is_some (first_value (found_of matches) name)) names

-- ---- names

-- the name of an option, with its hyphens
abbrev pub dashed : List ℕ → List ℕ
dashed name = codes "--" ++ name

-- an option that can be read
abbrev pub is_known : List ℕ → Bool
is_known name = bytes_eq name (codes "workers") || bytes_eq name (codes "mult")

-- a word that `clap` takes for no option
abbrev pub is_operand : List ℕ → Bool
is_operand [] = true
is_operand (byte ∷ []) = true
is_operand (byte ∷ next ∷ more) = not (byte == 45)

-- each word stands for a name, and is no option
abbrev pub are_operands : List (List ℕ) → List (List ℕ) → Bool
are_operands [] [] = true
are_operands [] (word ∷ words) = false
are_operands (name ∷ names) [] = false
are_operands (name ∷ names) (word ∷ words) = is_operand word && are_operands names words

-- no name stands twice
abbrev pub is_distinct : List (List ℕ) → Bool
is_distinct [] = true
is_distinct (name ∷ names) = not (is_among names name) && is_distinct names
