-- The number that was due at a draw, and its step.
use Rattle.std.proofs.Common.{◌≡◌, ◌↔◌, ◌<◌, ◌≤◌, ℕ, List, refl, sym, ap, arith, if◌then◌else◌}
use Rattle.std.proofs.lemmas.Bool.{lt-ltb, le-ltb}
use Rattle.hpke_context.specs.Answers.{Seal, Cipher, Sealed_at, At_limit, answer}
use Rattle.context_books.specs.Entries.{step_for}
use Rattle.context_books.specs.declared.book.Draw.{Draw}
use Rattle.context_books.specs.declared.book.Draw.TheVariants.{Number, Limit}
use Rattle.context_books.specs.Books.{drawn_step}
use Rattle.context_books.specs.Writing.{due_at}

-- from what a draw says of its answer, where seq was due
pub due_at-drawn : (limit seq : ℕ) (drawn : Draw) → ((drawn ≡ Limit) ↔ (seq ≡ limit))
    → ((n : ℕ) → drawn ≡ Number n → (n ≡ seq) × (n < limit)) → due_at limit drawn ≡ seq
due_at-drawn limit seq (Number n) at_limit number = (number n refl).0
due_at-drawn limit seq Limit at_limit number = sym (at_limit.0 refl)

-- its step is the one of the sequential context
pub drawn_steps : (c : Cipher) (seq : ℕ) (aad text : List ℕ) (drawn : Draw)
    → ((drawn ≡ Limit) ↔ (seq ≡ c.limit))
    → ((n : ℕ) → drawn ≡ Number n → (n ≡ seq) × (n < c.limit))
    → drawn_step drawn ≡ step_for (Seal aad text) (answer c seq (Seal aad text))
drawn_steps c seq aad text (Number n) full is =
    let t = is n refl in
    let low : seq < c.limit = (let e : n ≡ seq = t.0 in let f : n < c.limit = t.1 in omega arith) in
    sym (ap (λ b. step_for (Seal aad text)
    (if b then Sealed_at seq (c.sealed seq aad text) else At_limit)) (lt-ltb seq c.limit low))
drawn_steps c seq aad text Limit full is =
    let high : c.limit ≤ seq = (let e : seq ≡ c.limit = full.0 refl in omega arith) in
    sym (ap (λ b. step_for (Seal aad text)
    (if b then Sealed_at seq (c.sealed seq aad text) else At_limit)) (le-ltb seq c.limit high))
