-- A line adds its text at the end of those before it, where no line of a later kind stands yet.
use Rattle.std.proofs.Common.{◌≡◌, ℕ, ◌≤◌, ◌==◌, ◌||◌, not, nat_le, rules, Bool, true, false, List, [], ◌∷◌, ◌++◌, length, Option, Some, None, Result, Ok, refl, sym, ap, ◌∙◌, append_assoc, append-nil, arith}
use Rattle.std.specs.Prelude.{IsSome, is_some}
use Rattle.std.specs.List.{flat_map}
use Rattle.std.proofs.lemmas.Bool.{eqb-true, leb-true}
use Rattle.std.proofs.lemmas.List.{nil_from_length}
use Rattle.std.proofs.lemmas.List.Concat.{flat_map-append}
use Rattle.call_places.specs.declared.spans.Span.{Span}
use Rattle.field_text.specs.declared.reasons.Reason.{Reason}
use Rattle.field_text.specs.declared.reasons.Reason.TheVariants.{Count}
use Rattle.field_text.specs.Fields.{◌>>=◌}
use Rattle.field_text.proofs.Spellings.{test_ok}
use Rattle.batch_plans.specs.declared.plan.EncField.{EncField}
use Rattle.batch_plans.specs.declared.plan.EncField.TheVariants.{Bytes, Of}
use Rattle.batch_plans.specs.Within.{IsField}
use Rattle.request_frames.specs.KeyForms.{at_most, IsMessageWithin}

-- ---- limits, over a pool that is as long

pub field_grown : (most n m : ℕ) (span : Span) → n ≤ m → IsField most n span → IsField most m span
field_grown most n m span long h = record { in_pool = omega (arith, h.in_pool); size = h.size }

pub message_grown : (most n m : ℕ) (message : EncField) → n ≤ m → IsMessageWithin most n message
    → IsMessageWithin most m message
message_grown most n m (Bytes bytes) long h = field_grown most n m bytes long h
message_grown most n m (Of number) long h = h

-- ---- texts

-- at the end of a list that stands behind another text
pub last_more : {A : Type 0} (front : List ℕ) (f : A → List ℕ) (xs : List A) (x : A) (line : List ℕ)
    → f x ≡ line → front ++ flat_map f (xs ++ x ∷ []) ≡ (front ++ flat_map f xs) ++ line
last_more front f xs x line same =
    ap (λ (more : List ℕ). front ++ more)
    (flat_map-append f xs (x ∷ []) ∙ ap (λ (more : List ℕ). flat_map f xs ++ more)
    (append-nil (f x) ∙ same))
    ∙ sym (append_assoc front (flat_map f xs) line)

-- before a text that has no bytes
pub before_none : (old new line after : List ℕ) → after ≡ [] → new ≡ old ++ line
    → new ++ after ≡ (old ++ after) ++ line
before_none old new line after none same =
    ap (λ (rest : List ℕ). new ++ rest) none ∙ append-nil new ∙ same
    ∙ ap (λ (front : List ℕ). front ++ line)
    (sym (append-nil old) ∙ ap (λ (rest : List ℕ). old ++ rest) (sym none))

-- of an empty list
pub texts_none : {A : Type 0} (f : A → List ℕ) (xs : List A) → (length xs == 0) ≡ true
    → flat_map f xs ≡ []
texts_none f xs none = ap (flat_map f) (nil_from_length xs (eqb-true (length xs) 0 none))

-- a count that was within its limit
pub counted_ok : {B : Type 0} (limit n : ℕ) (then : ℕ → Result B Reason) (y : B)
    → (at_most limit n >>= then) ≡ Ok y → (n ≤ limit) × (then n ≡ Ok y)
counted_ok limit n then y e =
    let found = test_ok (nat_le n limit) n Count then y e in
    (leb-true n limit found.0, found.1)

-- a line that draws stands where there is a seed
pub seed_given : (draws : Bool) (seed : Option (List ℕ)) → (not draws || is_some seed) ≡ true
    → draws ≡ true → IsSome seed
seed_given true (Some seed) e is = search rules
seed_given true None e is = absurd cc
seed_given false seed e is = absurd cc

pub no_seed : (seed : Option (List ℕ)) → not (is_some seed) ≡ true → seed ≡ None
no_seed None e = refl
no_seed (Some seed) e = absurd cc
