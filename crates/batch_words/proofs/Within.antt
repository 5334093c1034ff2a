-- The numbers of a command are within their ranges.
use Rattle.std.proofs.Common.{◌≡◌, ◌∙◌, ◌≤◌, ℕ, suc, Bool, true, false, refl, sym, ap, subst, arith, List, [], ◌∷◌, length, Option, Some, None, All, codes}
use Rattle.std.specs.Prelude.{◌&&◌, IfSome, nat_le, option_and_then, option_map, if◌then◌else◌}
use Rattle.std.specs.List.{slice_split}
use Rattle.std.specs.Str.{bytes_eq}
use Rattle.std.specs.Str.Parse.{digits_value}
use Rattle.std.proofs.lemmas.Bool.{leb-true}
use Rattle.std.proofs.lemmas.List.Elements.{All-cons, All-nil}
use Rattle.byte_strings.specs.Decimals.{decimal_from_to, is_decimal}
use Rattle.batch_words.specs.Words.{IsWithin, Setting, are_of, beside_live, capsules, check, check_beside, demo, is_comma, lanes, live, mult, numbers, only_mult, options, options_with, rehearse, run, schedule, settings, value_of, workers}
use Rattle.batch_words.specs.declared.commands.Command.{Command}
use Rattle.batch_words.specs.declared.commands.Command.TheVariants.{Capsules, Check, CheckLive, Demo, Live, Rehearse, Run}
use Rattle.batch_words.specs.declared.commands.Mult.{Mult}
use Rattle.batch_words.specs.declared.options.Options.{Options}
use Rattle.batch_words.proofs.Steps.{before_some}

if_within : (is low high : Bool) (n w : ℕ) → (if is && (low && high) then Some n else None) ≡ Some w → (low ≡ true) × (high ≡ true) × (n ≡ w)
if_within false low high n w e = cc
if_within true false high n w e = cc
if_within true true false n w e = cc
if_within true true true n w e = (refl, refl, cc)

pub decimal_within : (low high : ℕ) (text : List ℕ) (n : ℕ) → decimal_from_to low high text ≡ Some n → (low ≤ n) × (n ≤ high)
decimal_within low high text n e =
    let parts = if_within (is_decimal text) (nat_le low (digits_value 10 text)) (nat_le (digits_value 10 text) high) (digits_value 10 text) n e in
    let above : low ≤ digits_value 10 text = leb-true low (digits_value 10 text) parts.0 in
    let below : digits_value 10 text ≤ high = leb-true (digits_value 10 text) high parts.1 in
    let same : digits_value 10 text ≡ n = parts.2 in
    (omega arith, omega arith)

-- ---- schedules

abbrev pub AreLanes : List ℕ → Type 0
AreLanes read = All (λ lane. lane ≤ 15) read

lanes_within : (texts : List (List ℕ)) (read : List ℕ) → lanes texts ≡ Some read → (length read ≡ length texts) × AreLanes read
lanes_within [] read e =
    let none : [] ≡ read = cc in
    (ap length (sym none), subst AreLanes none (All-nil (λ lane. lane ≤ 15)))
lanes_within (text ∷ texts) read e =
    let parts = before_some (decimal_from_to 0 15 text) (lanes texts) read e in
    let more = lanes_within texts parts.1 parts.3 in
    let first = (decimal_within 0 15 text parts.0 parts.2).1 in (
      ap length parts.4 ∙ ap (λ n. suc n) more.0,
      subst AreLanes (sym parts.4) (All-cons (λ lane. lane ≤ 15) parts.0 parts.1 first more.1),
    )

schedule_within : (text read : List ℕ) → schedule text ≡ Some read → (length read ≤ 65536) × AreLanes read
schedule_within text read e = go (bytes_eq text (codes "-")) (nat_le (length (slice_split is_comma text)) 65536) refl e
  where
    go : (none few : Bool) → nat_le (length (slice_split is_comma text)) 65536 ≡ few
        → (if none then Some [] else (if few then lanes (slice_split is_comma text) else None)) ≡ Some read
        → (length read ≤ 65536) × AreLanes read
    go true few is e =
        let empty : [] ≡ read = cc in
        (subst (λ r. length r ≤ 65536) empty (omega arith), subst AreLanes empty (All-nil (λ lane. lane ≤ 15)))
    go false true is e =
        let all = lanes_within (slice_split is_comma text) read e in
        let few : length (slice_split is_comma text) ≤ 65536 = leb-true _ _ is in
        (omega (arith, all.0), all.1)
    go false false is e = cc

-- ---- commands

rehearse_within : (words : List (List ℕ)) (c : Command) → rehearse words ≡ Some c → IsWithin c
rehearse_within [] c e = cc
rehearse_within (word ∷ []) c e = go (schedule word) refl e
  where
    go : (o : Option (List ℕ)) → schedule word ≡ o → option_map Rehearse o ≡ Some c → IsWithin c
    go None is e = cc
    go (Some read) is e = let same : Rehearse read ≡ c = cc in subst IsWithin same (schedule_within word read is)
rehearse_within (word ∷ next ∷ more) c e = cc

workers_within : (value : Option (List ℕ)) (w : ℕ) → workers value ≡ Some w → (1 ≤ w) × (w ≤ 16)
workers_within None w e = let four : 4 ≡ w = cc in (omega arith, omega arith)
workers_within (Some text) w e = decimal_within 1 16 text w e

with_within : (workers_value mult_value : Option (List ℕ)) (given : Options) → options_with workers_value mult_value ≡ Some given
    → (1 ≤ given.workers) × (given.workers ≤ 16)
with_within workers_value mult_value given e = go (workers workers_value) (mult mult_value) refl e
  where
    go : (w : Option ℕ) (m : Option Mult) → workers workers_value ≡ w
        → option_and_then (λ n. option_map (λ x. record { workers = n; mult = x }) m) w ≡ Some given → (1 ≤ given.workers) × (given.workers ≤ 16)
    go None m is e = cc
    go (Some n) None is e = cc
    go (Some n) (Some x) is e =
        let all : record { workers = n; mult = x } ≡ given = cc in
        let same : n ≡ given.workers = ap (λ (o : Options). o.workers) all in
        workers_within workers_value given.workers (is ∙ ap (λ k. Some k) same)

pub options_within : (names words : List (List ℕ)) (given : Options) → options names words ≡ Some given → (1 ≤ given.workers) × (given.workers ≤ 16)
options_within names words given e = go (settings words) e
  where
    go : (o : Option (List Setting)) → option_and_then (λ s. if are_of names s
        then options_with (value_of (codes "--workers") s) (value_of (codes "--mult") s) else None) o ≡ Some given
        → (1 ≤ given.workers) × (given.workers ≤ 16)
    go None e = cc
    go (Some s) e = inner (are_of names s) e
      where
        inner : (b : Bool) → (if b then options_with (value_of (codes "--workers") s) (value_of (codes "--mult") s) else None) ≡ Some given
            → (1 ≤ given.workers) × (given.workers ≤ 16)
        inner true e = with_within (value_of (codes "--workers") s) (value_of (codes "--mult") s) given e
        inner false e = cc

with_workers : (make : Options → Command) → ((given : Options) → (1 ≤ given.workers) × (given.workers ≤ 16) → IsWithin (make given))
    → (words : List (List ℕ)) (c : Command) → option_map make (options (codes "--workers" ∷ codes "--mult" ∷ []) words) ≡ Some c → IsWithin c
with_workers make each words c e = go (options (codes "--workers" ∷ codes "--mult" ∷ []) words) refl e
  where
    go : (o : Option Options) → options (codes "--workers" ∷ codes "--mult" ∷ []) words ≡ o → option_map make o ≡ Some c → IsWithin c
    go None is e = cc
    go (Some given) is e =
        let same : make given ≡ c = cc in
        subst IsWithin same (each given (options_within (codes "--workers" ∷ codes "--mult" ∷ []) words given is))

numbers_within : (seed messages lanes : List ℕ) (c : Command) → numbers seed messages lanes ≡ Some c → IsWithin c
numbers_within seed messages texts c e =
    go (decimal_from_to 0 18446744073709551615 seed) (decimal_from_to 1 65536 messages) (decimal_from_to 1 16 texts) refl refl e
  where
    go : (s m l : Option ℕ) → decimal_from_to 1 65536 messages ≡ m → decimal_from_to 1 16 texts ≡ l
        → option_and_then (λ a. option_and_then (λ b. option_map (Demo a b) l) m) s ≡ Some c → IsWithin c
    go None m l is_m is_l e = cc
    go (Some a) None l is_m is_l e = cc
    go (Some a) (Some b) None is_m is_l e = cc
    go (Some a) (Some b) (Some d) is_m is_l e =
        let same : Demo a b d ≡ c = cc in
        let some = decimal_within 1 65536 messages b is_m in
        let few = decimal_within 1 16 texts d is_l in
        subst IsWithin same (some.0, some.1, few.0, few.1)

demo_within : (words : List (List ℕ)) (c : Command) → demo words ≡ Some c → IsWithin c
demo_within [] c e = cc
demo_within (seed ∷ []) c e = cc
demo_within (seed ∷ messages ∷ []) c e = cc
demo_within (seed ∷ messages ∷ last ∷ []) c e = numbers_within seed messages last c e
demo_within (seed ∷ messages ∷ last ∷ next ∷ more) c e = cc

-- ---- what is read

pub demo_read : (words : List (List ℕ)) (o : Option Command) → o ≡ demo words → IfSome o IsWithin
demo_read words None is = tt
demo_read words (Some c) is = demo_within words c (sym is)

of_mult : (make : Mult → Command) (o : Option Mult) (c : Command) → ((m : Mult) → IsWithin (make m)) → option_map make o ≡ Some c → IsWithin c
of_mult make None c each e = cc
of_mult make (Some m) c each e = let same : make m ≡ c = cc in subst IsWithin same (each m)

pub check_read : (words : List (List ℕ)) (o : Option Command) → o ≡ check words → IfSome o IsWithin
check_read words None is = tt
check_read words (Some c) is = go (beside_live words) (sym is)
  where
    go : (o : Option (List (List ℕ))) → check_beside words o ≡ Some c → IsWithin c
    go None e = of_mult Check (only_mult words) c (λ m. tt) e
    go (Some others) e = of_mult CheckLive (only_mult others) c (λ m. tt) e

pub capsules_read : (words : List (List ℕ)) (o : Option Command) → o ≡ capsules words → IfSome o IsWithin
capsules_read words None is = tt
capsules_read words (Some c) is = of_mult Capsules (only_mult words) c (λ m. tt) (sym is)

pub run_read : (words : List (List ℕ)) (o : Option Command) → o ≡ run words → IfSome o IsWithin
run_read words None is = tt
run_read words (Some c) is = with_workers (λ given. Run given.workers given.mult) (λ given few. few) words c (sym is)

pub live_read : (words : List (List ℕ)) (o : Option Command) → o ≡ live words → IfSome o IsWithin
live_read words None is = tt
live_read words (Some c) is = with_workers (λ given. Live given.workers given.mult) (λ given few. few) words c (sym is)

pub rehearse_read : (words : List (List ℕ)) (o : Option Command) → o ≡ rehearse words → IfSome o IsWithin
rehearse_read words None is = tt
rehearse_read words (Some c) is = rehearse_within words c (sym is)
