-- Both ends get the same shared secret, or are both refused.
use Rattle.std.specs.Prelude.{◌≡◌, ℕ, List, Some, None}
use Rattle.x25519.specs.Laws.{TwoAgree}
use Rattle.x25519_kem.specs.Kem.{public_key, generated, encapsulated, decapsulated}
use Rattle.x25519_kem.specs.declared.exchanges.Encapsulation.{Encapsulation}

-- What Encap gives for the public key of skR is decapsulated with skR to the same shared secret. That
-- X25519 comes to one value for the ephemeral key and skR, whichever is taken first, is a premise: no
-- crate here proves it.
abbrev pub BothEndsAgree : Type 0
BothEndsAgree =
    (word : ℕ → ℕ) (place : ℕ) (skR : List ℕ) → TwoAgree (generated word place) skR
    → (e : Encapsulation) → encapsulated word place (public_key skR) ≡ Some e
    → decapsulated skR e.enc ≡ Some e.shared_secret

-- Where Encap refuses the public key of skR, skR is refused what would have been its enc.
abbrev pub BothEndsRefuse : Type 0
BothEndsRefuse =
    (word : ℕ → ℕ) (place : ℕ) (skR : List ℕ) → TwoAgree (generated word place) skR
    → encapsulated word place (public_key skR) ≡ None
    → decapsulated skR (public_key (generated word place)) ≡ None
