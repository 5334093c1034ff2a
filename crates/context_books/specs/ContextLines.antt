-- What the contexts of a plan have of their context lines.
use Rattle.std.specs.Prelude.{ℕ, ◌≡◌, List, length, map, slice_get, Option, Some, None}
use Rattle.hpke_context.specs.Contexts.{ContextView, export_limit}
use Rattle.batch_plans.specs.Calls.{context_role}
use Rattle.batch_plans.specs.declared.plan.ContextLine.{ContextLine}

-- 255 Nh, the most bytes that one export of a context gives (RFC 9180, 5.3); none where it was
-- refused
abbrev pub limit_of : Option ContextView → ℕ
limit_of None = 0
limit_of (Some context) = export_limit context

abbrev pub export_limits : List (Option ContextView) → List ℕ
export_limits contexts = map limit_of contexts

-- a context has what its line says: whose it is, its algorithms, LIMIT
pub record IsOfLine (line : ContextLine) (context : ContextView) : Type 0 where
  pub role : context.role ≡ context_role line.kind
  pub kdf : context.suite.kdf ≡ line.kdf
  pub aead : context.suite.aead ≡ line.aead
  pub limit : context.limit ≡ line.limit

-- each context that stands is of its line
pub record AreOfLines (lines : List ContextLine) (contexts : List (Option ContextView))
    : Type 0 where
  pub count : length contexts ≡ length lines
  pub each : (number : ℕ) (line : ContextLine) (context : ContextView)
      → slice_get lines number ≡ Some line → slice_get contexts number ≡ Some (Some context)
      → IsOfLine line context
