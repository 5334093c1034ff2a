-- The truth of a tag, as a Bool and as a fact.
use Rattle.std.proofs.Common.{◌≡◌, ◌↔◌, ℕ, List, Bool, true, false, IsTrue, refl, sym, rules}
use Rattle.hpke_aead.specs.declared.keys.AeadKey.{AeadKey}
use Rattle.hpke_aead.specs.declared.keys.AeadKey.TheVariants.{Gcm}
use Rattle.hpke_aead.specs.Aeads.{Holds, tag_holds}

pub tag_holds-is : (key : AeadKey) (nonce aad ct : List ℕ) → IsTrue (tag_holds key nonce aad ct) ↔ Holds key nonce aad ct
tag_holds-is (Gcm key) nonce aad ct = search rules

same_truth : (a b : Bool) → (IsTrue a → IsTrue b) → (IsTrue b → IsTrue a) → a ≡ b
same_truth true true f g = refl
same_truth true false f g = sym (f refl)
same_truth false true f g = g refl
same_truth false false f g = refl

-- what is true exactly where the tag holds
pub tag_holds-told : (key : AeadKey) (nonce aad ct : List ℕ) (b : Bool) → IsTrue b ↔ Holds key nonce aad ct → tag_holds key nonce aad ct ≡ b
tag_holds-told key nonce aad ct b told =
    let is = tag_holds-is key nonce aad ct in
    same_truth (tag_holds key nonce aad ct) b (λ t. told.1 (is.0 t)) (λ t. is.1 (told.0 t))
