-- A pair of keys from its parts.
use Rattle.std.proofs.Common.{◌≡◌, Ok, Err, ℕ, ◌+◌, ◌*◌, ◌<◌, ℤ, List, ◌++◌, ap, sym, subst, ◌∙◌, inl, inr}
use Rattle.std.specs.Prelude.{◌≢◌, ◌↔◌, Result, IfErr}
use Rattle.ring_core.specs.Product.{IsCentred}
use Rattle.ring_core.specs.Sets.{Set}
use Rattle.radix_pack.specs.Codings.{small_encode, rq_encode, IsMalformed}
use Rattle.radix_pack.proofs.SmallLaws.{small_well_formed}
use Rattle.sntrup_core.specs.Keys.{FindsG, IsKey}
use Rattle.sntrup_kem.specs.Hashes.{key_hash}
use Rattle.sntrup_kem.specs.Kem.{drawn_rho, Coding, IsCodedKey, IsGenerated, HasMalformedPart}
use Rattle.sntrup_kem.proofs.Parts.{AreJoined, parts_of}

pub well_formed : (set : Set) (sk f_enc ginv_enc pk rho cache : List ℕ) → AreJoined set sk f_enc ginv_enc pk rho cache → ¬ IsMalformed set.p f_enc → ¬ IsMalformed set.p ginv_enc → ¬ HasMalformedPart set sk
well_formed set sk f_enc ginv_enc pk rho cache j nf ng m =
    let parts = parts_of set sk f_enc ginv_enc pk rho cache j in
    let P : List ℕ → Type 0 = λ t. IsMalformed set.p t in
    elim m [ inl x ↦ nf (subst P parts.f_is x) | inr y ↦ ng (subst P parts.ginv_is y) ]

pub generated_by : (set : Set) (word word' : ℕ → ℕ) (place place' j : ℕ) (pk f_enc ginv_enc rho sk : List ℕ) → IsCodedKey set word place j pk f_enc ginv_enc → word' ≡ word → place' ≡ place + (j + 2) * set.p → rho ≡ drawn_rho set word' place' → sk ≡ f_enc ++ ginv_enc ++ pk ++ rho ++ key_hash pk → IsGenerated set word place j pk sk
unfolding IsCodedKey
generated_by set word word' place place' j pk f_enc ginv_enc rho sk coded ew ep er joined =
    let k : Coding set word place j pk f_enc ginv_enc = coded in
    let there : ℕ = place + (j + 2) * set.p in
    let cache : List ℕ = key_hash pk in
    let f_is : f_enc ≡ small_encode set.p k.f = k.f_is in
    let ginv_is : ginv_enc ≡ small_encode set.p k.ginv = k.ginv_is in
    let rho_is : rho ≡ drawn_rho set word there = er ∙ ap (λ (t : ℕ → ℕ). drawn_rho set t place') ew ∙ ap (λ t. drawn_rho set word t) ep in
    record {
      h = k.h;
      f = k.f;
      ginv = k.ginv;
      key = k.key;
      h_centred = k.h_centred;
      ginv_small = k.ginv_small;
      public = k.public;
      secret = joined
          ∙ ap (λ (t : List ℕ). t ++ ginv_enc ++ pk ++ rho ++ cache) f_is
          ∙ ap (λ (t : List ℕ). small_encode set.p k.f ++ t ++ pk ++ rho ++ cache) ginv_is
          ∙ ap (λ (t : List ℕ). small_encode set.p k.f ++ small_encode set.p k.ginv ++ pk ++ t ++ cache) rho_is;
    }

pub gave_no_fault : {A E : Type 0} {x : A} {e : E} → Ok x ≢ Err e
gave_no_fault h = cc

-- where exactly there is a fault, said of the call that gave x, holds of what was made from x
pub fault_elsewhere : {A B E : Type 0} {x : A} {y : B} {e o : E} {P : Type 0} → (Ok x ≢ Err o → ((Ok x ≡ Err e) ↔ P)) → Ok y ≢ Err o → ((Ok y ≡ Err e) ↔ P)
fault_elsewhere gave _ =
    (λ h. absurd (gave_no_fault h), λ p. absurd (gave_no_fault ((gave gave_no_fault).1 p)))

-- and so it does of what a last call gave, whose only fault is the one that is left out
pub fault_passed : {A B E : Type 0} {x : A} {e o : E} {P : Type 0} (last : Result B E) → IfErr last (λ fault. fault ≡ o) → (Ok x ≢ Err o → ((Ok x ≡ Err e) ↔ P)) → last ≢ Err o → ((last ≡ Err e) ↔ P)
fault_passed (Ok y) only gave other = fault_elsewhere gave other
fault_passed (Err fault) only gave other = absurd (other (ap Err only))

-- no fault but that one
pub gave_another : {B E : Type 0} {e o : E} (last : Result B E) → IfErr last (λ fault. fault ≡ o) → e ≢ o → last ≢ Err e
gave_another (Ok y) only other h = gave_no_fault h
gave_another (Err fault) only other h = other (cc (h, only))

pub first_low : (set : Set) (word : ℕ → ℕ) (place j : ℕ) → FindsG set word place j → j < 64
unfolding FindsG
first_low set word place j h = h.0

pub coded_by : (set : Set) (word : ℕ → ℕ) (place j : ℕ) (h f ginv : List ℤ) (pk f_enc ginv_enc : List ℕ) → IsKey set word place j h f ginv → IsCentred set.q set.p h → IsCentred 3 set.p ginv → pk ≡ rq_encode set h → f_enc ≡ small_encode set.p f → ginv_enc ≡ small_encode set.p ginv → IsCodedKey set word place j pk f_enc ginv_enc
unfolding IsCodedKey
coded_by set word place j h f ginv pk f_enc ginv_enc key ch cg ep ef eg = record {
  h = h;
  f = f;
  ginv = ginv;
  key = key;
  h_centred = ch;
  ginv_small = cg;
  public = ep;
  f_is = ef;
  ginv_is = eg;
}

pub form_by : (p : ℕ) (a : List ℤ) (bytes : List ℕ) → IsCentred 3 p a → bytes ≡ small_encode p a → ¬ IsMalformed p bytes
form_by p a bytes c e =
    let P : List ℕ → Type 0 = λ t. ¬ IsMalformed p t in
    subst P (sym e) (small_well_formed p a c)

pub generated_as : (set : Set) (word : ℕ → ℕ) (place j : ℕ) (pk sk pk' sk' : List ℕ) → pk' ≡ pk → sk' ≡ sk → IsGenerated set word place j pk sk → IsGenerated set word place j pk' sk'
generated_as set word place j pk sk pk' sk' ep es g =
    let P : List ℕ → Type 0 = λ t. IsGenerated set word place j t sk' in
    let Q : List ℕ → Type 0 = λ t. IsGenerated set word place j pk t in
    subst P (sym ep) (subst Q (sym es) g)
