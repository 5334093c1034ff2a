-- The AEAD of a number has that number.
use Rattle.std.proofs.Common.{◌≡◌, ℕ, ◌==◌, Bool, cond, false, true, Option, None, Some, refl, sym, ap, ◌∙◌}
use Rattle.std.proofs.lemmas.Bool.{eqb-true}
use Rattle.hkdf_labelled.specs.Suites.{aead_id, aead_named}
use Rattle.hkdf_labelled.specs.declared.suites.Aead.{Aead}
use Rattle.hkdf_labelled.specs.declared.suites.Aead.TheVariants.{Aes128, Aes256, ExportOnly}

-- what a test that holds gives, and what is left where it doesn't
choice : (test : Bool) (x value : Aead) (other : Option Aead) (P : Type 0) → cond test (Some x) other ≡ Some value
    → (test ≡ true → x ≡ value → P) → (other ≡ Some value → P) → P
choice true x value other P e taken left = taken refl cc
choice false x value other P e taken left = left e

pub named_back : (id : ℕ) (value : Aead) → aead_named id ≡ Some value → aead_id value ≡ id
named_back id value e =
    choice (id == 1) Aes128 value _ _ e (λ is same. ap aead_id (sym same) ∙ sym (eqb-true id 1 is)) (λ rest.
    choice (id == 2) Aes256 value _ _ rest (λ is same. ap aead_id (sym same) ∙ sym (eqb-true id 2 is)) (λ rest.
    choice (id == 65535) ExportOnly value None _ rest (λ is same. ap aead_id (sym same) ∙ sym (eqb-true id 65535 is))
    (λ none. absurd cc)))
