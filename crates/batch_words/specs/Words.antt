-- The command grammar: the words after the program's name, each the list of its bytes.
use Rattle.std.specs.Prelude.{ℕ, ◌≤◌, ◌-◌, ◌^◌, All, ◌==◌, ◌&&◌, not, nat_le, length, find, Bool, true, false, List, [], ◌∷◌, take, drop, slice_get, codes, Option, Some, None, option_map, option_and_then, if◌then◌else◌}
use Rattle.std.specs.List.{list_any, slice_split, before_first, after_first}
use Rattle.std.specs.Str.{bytes_eq}
use Rattle.batch_words.specs.declared.commands.Command.{Command}
use Rattle.batch_words.specs.declared.commands.Command.TheVariants.{Run, Live, Rehearse, Demo, Check, CheckLive, Capsules}
use Rattle.batch_words.specs.declared.commands.Mult.{Mult}
use Rattle.batch_words.specs.declared.commands.Mult.TheVariants.{Plain, Karatsuba, Lanes}
use Rattle.batch_words.specs.declared.options.Options.{Options}
use Rattle.byte_strings.specs.Decimals.{decimal_from_to}

-- ---- settings: the name of an option, with its hyphens, and a value

abbrev pub Setting : Type 0
Setting = List ℕ × List ℕ

-- the byte is `=`
abbrev pub is_equals : ℕ → Bool
is_equals byte = byte == 61

-- `NAME=VALUE`, which is cut at its first `=`
abbrev pub joined : List ℕ → Setting
joined word = (before_first is_equals word, after_first is_equals word)

-- the settings that the words spell, in order: each is one word with `=`, or two words;
-- before the words there may stand a name that wants a value
abbrev pub settings_after : Option (List ℕ) → List (List ℕ) → Option (List Setting)
settings_after None [] = Some []
settings_after (Some name) [] = None
settings_after (Some name) (value ∷ more) =
    option_map (λ settings. (name, value) ∷ settings) (settings_after None more)
settings_after None (word ∷ more) =
    if list_any is_equals word
    then option_map (λ settings. joined word ∷ settings) (settings_after None more)
    else settings_after (Some word) more

abbrev pub settings : List (List ℕ) → Option (List Setting)
settings words = settings_after None words

-- ---- options

-- the name is one of these
abbrev pub is_among : List (List ℕ) → List ℕ → Bool
is_among names name = list_any (λ one. bytes_eq one name) names

-- a setting has the name
abbrev pub stands_in : List Setting → List ℕ → Bool
stands_in settings name = list_any (λ setting. bytes_eq setting.0 name) settings

-- each setting has one of these names, and none of them stands twice
abbrev pub are_of : List (List ℕ) → List Setting → Bool
are_of names [] = true
are_of names ((name, value) ∷ more) =
    is_among names name && not (stands_in more name) && are_of names more

-- the value of the option of this name, where it stands
abbrev pub value_of : List ℕ → List Setting → Option (List ℕ)
value_of name settings =
    option_map (λ setting. setting.1) (find (λ setting. bytes_eq setting.0 name) settings)

-- W: a decimal from 1 to 16, and 4 where the option does not stand
abbrev pub workers : Option (List ℕ) → Option ℕ
workers None = Some 4
workers (Some value) = decimal_from_to 1 16 value

-- M: the name of a multiplier, and `lanes` where the option does not stand
abbrev pub mult : Option (List ℕ) → Option Mult
mult None = Some Lanes
mult (Some value) =
    if bytes_eq value (codes "plain") then Some Plain
    else (if bytes_eq value (codes "karatsuba") then Some Karatsuba
    else (if bytes_eq value (codes "lanes") then Some Lanes else None))

-- what the values of `--workers` and `--mult` say
abbrev pub options_with : Option (List ℕ) → Option (List ℕ) → Option Options
options_with workers_value mult_value =
    option_and_then (λ w. option_map (λ m. record { workers = w; mult = m }) (mult mult_value))
    (workers workers_value)

-- what the words say as options of these names
abbrev pub options : List (List ℕ) → List (List ℕ) → Option Options
options names words = option_and_then (λ given. if are_of names given
    then options_with (value_of (codes "--workers") given) (value_of (codes "--mult") given)
    else None) (settings words)

-- ---- schedules

abbrev pub is_comma : ℕ → Bool
is_comma byte = byte == 44

-- the lanes that the texts write, each a decimal from 0 to 15
abbrev pub lanes : List (List ℕ) → Option (List ℕ)
lanes [] = Some []
lanes (text ∷ more) = option_and_then (λ lane.
    option_map (λ others. lane ∷ others) (lanes more)) (decimal_from_to 0 15 text)

-- `-` for no steps, or 1 to 65,536 lanes between commas
abbrev pub schedule : List ℕ → Option (List ℕ)
schedule text =
    let steps = slice_split is_comma text in
    if bytes_eq text (codes "-") then Some []
    else (if nat_le (length steps) 65536 then lanes steps else None)

-- ---- commands

-- after `run`: `--workers W` and `--mult M`
abbrev pub run : List (List ℕ) → Option Command
run words = option_map (λ given. Run given.workers given.mult)
    (options (codes "--workers" ∷ codes "--mult" ∷ []) words)

-- after `live`: as after `run`
abbrev pub live : List (List ℕ) → Option Command
live words = option_map (λ given. Live given.workers given.mult)
    (options (codes "--workers" ∷ codes "--mult" ∷ []) words)

-- after `rehearse`: SCHEDULE
abbrev pub rehearse : List (List ℕ) → Option Command
rehearse [] = None
rehearse (word ∷ []) = option_map Rehearse (schedule word)
rehearse (word ∷ next ∷ more) = None

-- SEED MESSAGES LANES
abbrev pub numbers : List ℕ → List ℕ → List ℕ → Option Command
numbers seed messages lanes =
    option_and_then (λ s. option_and_then (λ m. option_map (Demo s m) (decimal_from_to 1 16 lanes))
    (decimal_from_to 1 65536 messages)) (decimal_from_to 0 (2 ^ 64 - 1) seed)

-- after `demo`: SEED, MESSAGES and LANES
abbrev pub demo : List (List ℕ) → Option Command
demo [] = None
demo (seed ∷ []) = None
demo (seed ∷ messages ∷ []) = None
demo (seed ∷ messages ∷ lanes ∷ []) = numbers seed messages lanes
demo (seed ∷ messages ∷ lanes ∷ next ∷ more) = None

-- `--mult M` alone
abbrev pub only_mult : List (List ℕ) → Option Mult
only_mult words = option_map (λ given. given.mult) (options (codes "--mult" ∷ []) words)

-- the word is `--live`
abbrev pub is_live : Option (List ℕ) → Bool
is_live None = false
is_live (Some word) = bytes_eq word (codes "--live")

-- the words beside `--live`, where it is the first or the last one
abbrev pub beside_live : List (List ℕ) → Option (List (List ℕ))
beside_live words =
    let others = length words - 1 in
    if is_live (slice_get words 0) then Some (drop 1 words)
    else (if is_live (slice_get words others) then Some (take others words) else None)

-- after `check`: `--mult M`, with or without `--live`
abbrev pub check_beside : List (List ℕ) → Option (List (List ℕ)) → Option Command
check_beside words None = option_map Check (only_mult words)
check_beside words (Some others) = option_map CheckLive (only_mult others)

abbrev pub check : List (List ℕ) → Option Command
check words = check_beside words (beside_live words)

-- after `capsules`: `--mult M`
abbrev pub capsules : List (List ℕ) → Option Command
capsules words = option_map Capsules (only_mult words)

-- the command that the words spell
abbrev pub command_of : List (List ℕ) → Option Command
command_of [] = None
command_of (word ∷ more) =
    if bytes_eq word (codes "run") then run more
    else (if bytes_eq word (codes "live") then live more
    else (if bytes_eq word (codes "rehearse") then rehearse more
    else (if bytes_eq word (codes "demo") then demo more
    else (if bytes_eq word (codes "check") then check more
    else (if bytes_eq word (codes "capsules") then capsules more else None)))))

-- the numbers of a command are within their ranges
abbrev pub IsWithin : Command → Type 0
IsWithin (Run workers mult) = (1 ≤ workers) × (workers ≤ 16)
IsWithin (Live workers mult) = (1 ≤ workers) × (workers ≤ 16)
IsWithin (Rehearse schedule) = (length schedule ≤ 65536) × All (λ lane. lane ≤ 15) schedule
IsWithin (Demo seed messages lanes) =
    (1 ≤ messages) × (messages ≤ 65536) × (1 ≤ lanes) × (lanes ≤ 16)
IsWithin (Check mult) = Unit {0}
IsWithin (CheckLive mult) = Unit {0}
IsWithin (Capsules mult) = Unit {0}
