-- A lane that has no step to come, or that isn't there, does nothing.
use Rattle.std.proofs.Common.{◌≡◌, ℕ, zero, suc, ◌≤◌, List, [], ◌∷◌, length, refl, ap, ◌∙◌, arith, Some, None}
use Rattle.std.specs.Prelude.{slice_get, slice_set}
use Rattle.hpke_context.specs.Answers.{Cipher}
use Rattle.context_books.specs.Batches.{Batch}
use Rattle.context_books.proofs.Lists.{append-nil}
use Rattle.context_core.specs.Core.{Task, Lane, Core, step, due_in, with_moved, happens_at, happens}

none_past : (lanes : List Lane) (l : ℕ) → length lanes ≤ l → slice_get lanes l ≡ None
none_past [] l high = refl
none_past (s ∷ lanes) zero high = absurd (omega arith)
none_past (s ∷ lanes) (suc l) high = none_past lanes l (omega arith)

set_same : (lanes : List Lane) (l : ℕ) (s : Lane) → slice_get lanes l ≡ Some s → slice_set lanes l s ≡ lanes
set_same [] l s e = refl
set_same (t ∷ lanes) zero s e = ap (λ u. u ∷ lanes) (let f : Some t ≡ Some s = e in let g : s ≡ t = cc in g)
set_same (t ∷ lanes) (suc l) s e = ap (λ m. t ∷ m) (set_same lanes l s e)

module _ (batch : Batch) (ciphers : ℕ → Cipher) (w : Core) (l : ℕ) where
  pub not_there : length w.lanes ≤ l → happens batch ciphers w l ≡ w
  not_there high = ap (happens_at batch ciphers w l) (none_past w.lanes l high)

  pub at_end : (s : Lane) → slice_get w.lanes l ≡ Some s → s.to_come ≡ [] → happens batch ciphers w l ≡ w
  at_end s e none =
      ap (happens_at batch ciphers w l) e
      ∙ ap (λ (ts : List Task). with_moved w l (step (due_in batch ciphers w.history) l s ts)) none
      ∙ (λ i. record { history = append-nil w.history i; lanes = set_same w.lanes l s e i })
