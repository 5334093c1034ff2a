-- The contexts that stand refuse a call exactly as their lines do.
use Rattle.std.proofs.Common.{◌≡◌, ◌*◌, ◌==◌, ℕ, zero, suc, false, List, [], ◌∷◌, length, Option, Some, None, refl, sym, ap, ◌∙◌, arith, if◌then◌else◌}
use Rattle.std.specs.Prelude.{slice_get, slice_index}
use Rattle.hkdf_labelled.specs.Suites.{hash_size}
use Rattle.hkdf_labelled.specs.declared.suites.Kdf.{Kdf}
use Rattle.hkdf_labelled.specs.declared.suites.Kdf.TheVariants.{Sha256, Sha384, Sha512}
use Rattle.hpke_context.specs.Contexts.{ContextView, export_limit}
use Rattle.batch_plans.specs.Calls.{context_role, context_of, refusal_by, standing_line, refusal_at, refusal}
use Rattle.batch_plans.specs.declared.plan.ContextLine.{ContextLine}
use Rattle.batch_plans.specs.declared.plan.CallLine.{CallLine}
use Rattle.batch_plans.specs.declared.plan.CallLine.TheVariants.{Add, Retire}
use Rattle.batch_plans.specs.declared.replies.CallRefusal.TheVariants.{NoContext}
use Rattle.context_books.specs.Standing.{standing_at, refusal_on, call_refusal}
use Rattle.context_books.specs.ContextLines.{limit_of, export_limits, IsOfLine, AreOfLines}

-- each hash has bytes
exports : (kdf : Kdf) → (255 * hash_size kdf == 0) ≡ false
exports Sha256 = refl
exports Sha384 = refl
exports Sha512 = refl

on_line : (line : ContextLine) (context : ContextView) (limit : ℕ) (call : CallLine)
    → IsOfLine line context
    → refusal_by (context_role line.kind) line.aead limit call
    ≡ refusal_by context.role context.suite.aead limit call
on_line line context limit call t = (λ i. refusal_by (sym t.role i) (sym t.aead i) limit call)

abbrev Each : List ContextLine → List (Option ContextView) → Type 0
Each lines contexts = (number : ℕ) (line : ContextLine) (context : ContextView)
    → slice_get lines number ≡ Some line → slice_get contexts number ≡ Some (Some context)
    → IsOfLine line context

here : (line : ContextLine) (o : Option ContextView) (call : CallLine)
    → ((context : ContextView) → o ≡ Some context → IsOfLine line context)
    → refusal_at (if limit_of o == 0 then None else Some line) (limit_of o) call ≡ refusal_on o call
here line None call of_line = refl
here line (Some context) call of_line =
    ap (λ b. refusal_at (if b then None else Some line) (export_limit context) call)
    (exports context.suite.kdf)
    ∙ on_line line context (export_limit context) call (of_line context refl)

at_number : (lines : List ContextLine) (contexts : List (Option ContextView)) (number : ℕ)
    (call : CallLine)
    → length contexts ≡ length lines → Each lines contexts
    → refusal_at (standing_line lines (export_limits contexts) number)
    (slice_index (export_limits contexts) number) call
    ≡ refusal_on (standing_at contexts number) call
at_number lines [] number call count each = refl
at_number [] (o ∷ contexts) number call count each = absurd (omega arith)
at_number (line ∷ lines) (o ∷ contexts) zero call count each =
    here line o call (λ context is. each 0 line context refl (ap Some is))
at_number (line ∷ lines) (o ∷ contexts) (suc number) call count each =
    at_number lines contexts number call (omega arith) (λ n l c. each (suc n) l c)

pub refusal_agrees : (lines : List ContextLine) (contexts : List (Option ContextView))
    (call : CallLine) → AreOfLines lines contexts
    → refusal lines (export_limits contexts) call ≡ call_refusal contexts call
refusal_agrees lines contexts call t =
    at_number lines contexts (context_of call) call t.count t.each

-- ---- no context serves a line that adds or retires one

pub added_refused : (contexts : List (Option ContextView)) (name : ℕ)
    → call_refusal contexts (Add name) ≡ Some NoContext
added_refused contexts name = on_any (standing_at contexts name)
  where
    on_any : (o : Option ContextView) → refusal_on o (Add name) ≡ Some NoContext
    on_any None = refl
    on_any (Some context) = refl

pub retired_refused : (contexts : List (Option ContextView)) (name : ℕ)
    → call_refusal contexts (Retire name) ≡ Some NoContext
retired_refused contexts name = on_any (standing_at contexts name)
  where
    on_any : (o : Option ContextView) → refusal_on o (Retire name) ≡ Some NoContext
    on_any None = refl
    on_any (Some context) = refl
