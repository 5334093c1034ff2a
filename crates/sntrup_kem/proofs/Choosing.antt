-- A decapsulation step by step.
use Rattle.std.proofs.Common.{◌≡◌, ℕ, Bool, true, false, cond, List, bit_and, ap, sym, ◌∙◌, refl}
use Rattle.std.proofs.lemmas.Bool.{false≢true}
use Rattle.std.proofs.lemmas.Slice.Eq.{bytes_eq-Decides}
use Rattle.std.specs.Str.{bytes_eq}
use Rattle.sntrup_kem.specs.Hashes.{hash_session}
use Rattle.sntrup_kem.specs.Kem.{chosen}

chosen_at : (b : Bool) (agree other key : List ℕ) → (b ≡ true → key ≡ agree) → (b ≡ false → key ≡ other) → key ≡ cond b agree other
chosen_at true agree other key same differs = same refl
chosen_at false agree other key same differs = differs refl

-- the key of two cases
pub chosen_by : (again r_enc rho enc key : List ℕ) → (again ≡ enc → key ≡ hash_session 1 r_enc enc) → ((again ≡ enc → ⊥) → key ≡ hash_session 0 rho enc) → key ≡ chosen again r_enc rho enc
chosen_by again r_enc rho enc key same other =
    let d = bytes_eq-Decides again enc in
    chosen_at (bytes_eq again enc) (hash_session 1 r_enc enc) (hash_session 0 rho enc) key
    (λ t. same (d.0 t))
    (λ f. other (λ e. absurd (false≢true (sym f ∙ d.1 e))))

-- what is hashed for either
pub session_with : (b : ℕ) (y y' enc key : List ℕ) → key ≡ hash_session (bit_and b 1) y enc → b ≡ 255 → y ≡ y' → key ≡ hash_session 1 y' enc
session_with b y y' enc key e eb ey =
    e
    ∙ ap (λ t. hash_session (bit_and t 1) y enc) eb
    ∙ ap (λ t. hash_session 1 t enc) ey

pub rejected_with : (b : ℕ) (y y' enc key : List ℕ) → key ≡ hash_session (bit_and b 1) y enc → b ≡ 0 → y ≡ y' → key ≡ hash_session 0 y' enc
rejected_with b y y' enc key e eb ey =
    e
    ∙ ap (λ t. hash_session (bit_and t 1) y enc) eb
    ∙ ap (λ t. hash_session 0 t enc) ey
