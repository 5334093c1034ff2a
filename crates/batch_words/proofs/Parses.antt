-- Which answers of clap tell that it takes the words.
use Rattle.std.proofs.Common.{◌≡◌, ℕ, Bool, true, false, refl, inl, inr, List, [], ◌∷◌}
use Rattle.std.specs.Prelude.{◌&&◌, not}
use Rattle.clap.specs.Faults.{fault_of, is_free_app, is_simple_and_free}
use Rattle.clap.specs.Kinds.{HasKind, IsAmong, Kinds}
use Rattle.clap.specs.Simple.{App, built, is_simple}
use Rattle.clap.specs.Values.{kind_of}
use Rattle.clap.specs.declared.error.Error.{Error}
use Rattle.clap.specs.declared.error.kind.ErrorKind.{ErrorKind}
use Rattle.clap.specs.declared.error.kind.ErrorKind.TheVariants as kind
use Rattle.std.proofs.lemmas.Bool.{and_parts}
use Rattle.batch_words.specs.Parses.{has_dashes, has_none, is_taken}

module _ (app : App) (words : List (List ℕ)) where
  pub simple_too : is_simple_and_free app ≡ true → is_simple app ≡ true
  simple_too free = (and_parts (is_simple app) (is_free_app (built app)) free).0

  pub taken : has_dashes words ≡ false → fault_of app words ≡ [] → is_taken app words ≡ true
  taken clean none = rw (clean, none) refl

  pub refused_with_dashes : has_dashes words ≡ true → is_taken app words ≡ false
  refused_with_dashes dashes = rw dashes refl

  some_fault : (kinds : Kinds) (k : ErrorKind) → IsAmong k kinds → (not (has_dashes words) && has_none kinds) ≡ false
  some_fault [] k among = absurd among
  some_fault (x ∷ xs) k among = go (not (has_dashes words))
    where
      go : (b : Bool) → (b && false) ≡ false
      go true = refl
      go false = refl

  pub refused_by_clap : (e : Error) → HasKind (fault_of app words) e → (kind_of e ≡ kind.OutOfMemory → ⊥) → is_taken app words ≡ false
  refused_by_clap e fails memory = elim fails [
    | inl out ↦ absurd (memory out)
    | inr among ↦ some_fault (fault_of app words) (kind_of e) among
  ]
