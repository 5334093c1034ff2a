-- Refusals by their causes, from the definitions of what is answered and taken.
use Rattle.std.proofs.Common.{◌≡◌, ◌≢◌, ◌<◌, ◌≤◌, ◌==◌, ℕ, Bool, true, false, cond, List, length, Option, Some, None, Result, Ok, Err, refl, sym, ap, subst, ◌∙◌, eq-eqb, arith}
use Rattle.std.specs.Prelude.{nat_lt}
use Rattle.std.proofs.lemmas.Bool.{cond-true, cond-false, lt-ltb, le-ltb, ltb-false, false_from_ne_true}
use Rattle.ring_core.specs.Sets.{Set}
use Rattle.hkdf_labelled.specs.declared.suites.Suite.{Suite}
use Rattle.ohttp_capsule.specs.declared.faults.CapsuleFault.{CapsuleFault}
use Rattle.ohttp_capsule.specs.declared.faults.CapsuleFault.TheVariants.{Short, Header, NonceSize, Failed, OutOfMemory}
use Rattle.ohttp_capsule.specs.Headers.{Names, suite_named}
use Rattle.ohttp_capsule.specs.Requests.{least_request, header_in}
use Rattle.ohttp_capsule.specs.Responses.{entropy_size}
use Rattle.ohttp_capsule.specs.Replies.{suite_with, suite_for}
use Rattle.ohttp_capsule.specs.Refusals.{IsShortRequest, HasOtherHeader, IsTo, HasOtherNonce}
use Rattle.ohttp_capsule.proofs.Naming.{suite_found, suite_is_found, none_is_named}

eqb-true : (a b : ℕ) → (a == b) ≡ true → a ≡ b
eqb-true a b e = grind arith

pub lt_true : (a b : ℕ) → nat_lt a b ≡ true → a < b
lt_true a b e = grind arith

-- ---- a request whose cause stands is refused for it

abbrev named_in : ℕ → ℕ → List ℕ → Option Suite
named_in kem id request = suite_named id kem (header_in request)

pub short_by : (set : Set) (kem id : ℕ) (request nonce : List ℕ) → IsShortRequest set request
    → suite_for set kem id request nonce ≡ Err Short
short_by set kem id request nonce few =
    cond-true (nat_lt (length request) (least_request set)) (Err Short)
    (suite_with nonce (named_in kem id request))
    (lt-ltb (length request) (least_request set) few)

long_by : (set : Set) (kem id : ℕ) (request nonce : List ℕ) → least_request set ≤ length request
    → suite_for set kem id request nonce ≡ suite_with nonce (named_in kem id request)
long_by set kem id request nonce long =
    cond-false (nat_lt (length request) (least_request set)) (Err Short)
    (suite_with nonce (named_in kem id request))
    (le-ltb (length request) (least_request set) long)

none_by : (id kem : ℕ) (bytes : List ℕ) → ((s : Suite) → ¬ Names id kem bytes s)
    → suite_named id kem bytes ≡ None
none_by id kem bytes none =
    let by : (o : Option Suite) → suite_named id kem bytes ≡ o → o ≡ None = elim [
      | None ↦ λ e. refl
      | Some s ↦ λ e. absurd (none s (suite_found id kem bytes s e))
    ] in
    by (suite_named id kem bytes) refl

pub header_by : (set : Set) (kem id : ℕ) (request nonce : List ℕ)
    → HasOtherHeader set kem id request → suite_for set kem id request nonce ≡ Err Header
header_by set kem id request nonce other =
    long_by set kem id request nonce other.long
    ∙ ap (suite_with nonce) (none_by id kem (header_in request) other.none)

named_by : (set : Set) (kem id : ℕ) (request nonce : List ℕ) (s : Suite)
    → IsTo set kem id request s
    → suite_for set kem id request nonce ≡ suite_with nonce (Some s)
named_by set kem id request nonce s to =
    long_by set kem id request nonce to.long
    ∙ ap (suite_with nonce) (suite_is_found id kem (header_in request) s to.named)

ne-eqb : (a b : ℕ) → a ≢ b → (a == b) ≡ false
ne-eqb a b ne = false_from_ne_true (a == b) (λ t. ne (eqb-true a b t))

pub nonce_by : (set : Set) (kem id : ℕ) (request nonce : List ℕ) (s : Suite)
    → IsTo set kem id request s → length nonce ≢ entropy_size s.aead
    → suite_for set kem id request nonce ≡ Err NonceSize
nonce_by set kem id request nonce s to other =
    named_by set kem id request nonce s to
    ∙ cond-false (length nonce == entropy_size s.aead) (Ok s) (Err NonceSize)
    (ne-eqb (length nonce) (entropy_size s.aead) other)

pub suite_by : (set : Set) (kem id : ℕ) (request nonce : List ℕ) (s : Suite)
    → IsTo set kem id request s → length nonce ≡ entropy_size s.aead
    → suite_for set kem id request nonce ≡ Ok s
suite_by set kem id request nonce s to size =
    named_by set kem id request nonce s to
    ∙ cond-true (length nonce == entropy_size s.aead) (Ok s) (Err NonceSize)
    (eq-eqb (length nonce) (entropy_size s.aead) size)

-- ---- a request that is refused has the cause

pub record Fits (set : Set) (kem id : ℕ) (request nonce : List ℕ) (s : Suite) : Type 0 where
  pub to : IsTo set kem id request s
  pub size : length nonce ≡ entropy_size s.aead

unfoldable pub Judged : Set → ℕ → ℕ → List ℕ → List ℕ → Result Suite CapsuleFault → Type 0
Judged set kem id request nonce (Err Short) = IsShortRequest set request
Judged set kem id request nonce (Err Header) = HasOtherHeader set kem id request
Judged set kem id request nonce (Err NonceSize) = HasOtherNonce set kem id request nonce
Judged set kem id request nonce (Err Failed) = ⊥
Judged set kem id request nonce (Err OutOfMemory) = ⊥
Judged set kem id request nonce (Ok s) = Fits set kem id request nonce s

judged_size : (set : Set) (kem id : ℕ) (request nonce : List ℕ) (s : Suite)
    → IsTo set kem id request s → (b : Bool) → (length nonce == entropy_size s.aead) ≡ b
    → Judged set kem id request nonce (cond b (Ok s) (Err NonceSize))
unfolding Judged
judged_size set kem id request nonce s to true e =
    record { to = to; size = eqb-true (length nonce) (entropy_size s.aead) e }
judged_size set kem id request nonce s to false e = (
  s,
  to,
  λ same. let no : true ≡ false =
      sym (eq-eqb (length nonce) (entropy_size s.aead) same) ∙ e in cc,
)

judged_named : (set : Set) (kem id : ℕ) (request nonce : List ℕ)
    → least_request set ≤ length request
    → (o : Option Suite) → named_in kem id request ≡ o
    → Judged set kem id request nonce (suite_with nonce o)
unfolding Judged
judged_named set kem id request nonce long None e =
    record { long = long; none = none_is_named id kem (header_in request) e }
judged_named set kem id request nonce long (Some s) e =
    judged_size set kem id request nonce s
    (record { long = long; named = suite_found id kem (header_in request) s e })
    (length nonce == entropy_size s.aead) refl

judged_length : (set : Set) (kem id : ℕ) (request nonce : List ℕ) (b : Bool)
    → nat_lt (length request) (least_request set) ≡ b
    → Judged set kem id request nonce (cond b (Err Short) (suite_with nonce (named_in kem id request)))
unfolding Judged
judged_length set kem id request nonce true e = lt_true (length request) (least_request set) e
judged_length set kem id request nonce false e =
    judged_named set kem id request nonce (ltb-false (length request) (least_request set) e)
    (named_in kem id request) refl

pub judged : (set : Set) (kem id : ℕ) (request nonce : List ℕ) (v : Result Suite CapsuleFault)
    → suite_for set kem id request nonce ≡ v → Judged set kem id request nonce v
judged set kem id request nonce v e =
    subst (Judged set kem id request nonce) e
    (judged_length set kem id request nonce (nat_lt (length request) (least_request set)) refl)
