-- Demonstrations: words that a parser takes for options are no numbers.
use Rattle.std.proofs.Common.{◌≡◌, ◌∙◌, ℕ, Bool, true, false, refl, sym, ap, List, [], ◌∷◌, Option, None, Some}
use Rattle.std.specs.Prelude.{◌==◌, ◌&&◌, not, option_and_then, option_map}
use Rattle.std.proofs.lemmas.Bool.{eqb-true}
use Rattle.byte_strings.specs.Decimals.{decimal_from_to}
use Rattle.batch_words.specs.Parses.{are_operands, is_operand}
use Rattle.batch_words.specs.Words.{demo, numbers}
use Rattle.batch_words.specs.declared.commands.Command.{Command}
use Rattle.batch_words.specs.declared.commands.Command.TheVariants.{Demo}

no_number : (low high : ℕ) (text : List ℕ) → is_operand text ≡ false → decimal_from_to low high text ≡ None
no_number low high [] e = cc
no_number low high (byte ∷ []) e = cc
no_number low high (byte ∷ next ∷ more) e = go (byte == 45) refl e
  where
    go : (b : Bool) → (byte == 45) ≡ b → not b ≡ false → decimal_from_to low high (byte ∷ next ∷ more) ≡ None
    go true is e = ap (λ x. decimal_from_to low high (x ∷ next ∷ more)) (eqb-true byte 45 is)
    go false is e = cc

-- the three numbers, as they are joined
abbrev joined : Option ℕ → Option ℕ → Option ℕ → Option Command
joined seed messages lanes =
    option_and_then (λ s. option_and_then (λ m. option_map (Demo s m) lanes) messages) seed

no_messages : (seed lanes : Option ℕ) → None ≡ joined seed None lanes
no_messages None lanes = refl
no_messages (Some s) lanes = refl

no_lanes : (seed messages : Option ℕ) → None ≡ joined seed messages None
no_lanes None messages = refl
no_lanes (Some s) None = refl
no_lanes (Some s) (Some m) = refl

abbrev seed_of : List ℕ → Option ℕ
seed_of text = decimal_from_to 0 18446744073709551615 text

abbrev messages_of : List ℕ → Option ℕ
messages_of text = decimal_from_to 1 65536 text

abbrev lanes_of : List ℕ → Option ℕ
lanes_of text = decimal_from_to 1 16 text

no_numbers : (seed messages last : List ℕ) → (is_operand seed && (is_operand messages && (is_operand last && true))) ≡ false
    → None ≡ numbers seed messages last
no_numbers seed messages last e = go (is_operand seed) (is_operand messages) (is_operand last) refl refl refl e
  where
    go : (s m l : Bool) → is_operand seed ≡ s → is_operand messages ≡ m → is_operand last ≡ l → (s && (m && (l && true))) ≡ false
        → None ≡ numbers seed messages last
    go false m l is_s is_m is_l e =
        sym (ap (λ s. joined s (messages_of messages) (lanes_of last)) (no_number 0 18446744073709551615 seed is_s))
    go true false l is_s is_m is_l e =
        no_messages (seed_of seed) (lanes_of last)
        ∙ sym (ap (λ m. joined (seed_of seed) m (lanes_of last)) (no_number 1 65536 messages is_m))
    go true true false is_s is_m is_l e =
        no_lanes (seed_of seed) (messages_of messages)
        ∙ sym (ap (λ l. joined (seed_of seed) (messages_of messages) l) (no_number 1 16 last is_l))
    go true true true is_s is_m is_l e = cc

pub demo_none : (a b c : List ℕ) (words : List (List ℕ)) → are_operands (a ∷ b ∷ c ∷ []) words ≡ false → None ≡ demo words
demo_none a b c [] e = refl
demo_none a b c (seed ∷ []) e = refl
demo_none a b c (seed ∷ messages ∷ []) e = refl
demo_none a b c (seed ∷ messages ∷ last ∷ []) e = no_numbers seed messages last e
demo_none a b c (seed ∷ messages ∷ last ∷ next ∷ more) e = refl
