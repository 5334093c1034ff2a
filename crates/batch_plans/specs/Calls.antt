-- What a call is and has, which calls of a batch are served, and why the others are refused. That
-- follows from the batch and its set-up alone: a call that is refused changes no context and stands
-- in no journal.
--
-- `export_limits` has a number for each context line: the most bytes that its context exports,
-- 255·Nh (RFC 9180, 5.3), and 0 where there is no context, since the line was refused.
use Rattle.std.specs.Prelude.{ℕ, ◌==◌, nat_lt, Bool, true, false, List, slice_get, slice_index, Option, Some, None, if◌then◌else◌}
use Rattle.hkdf_labelled.specs.declared.suites.Aead.{Aead}
use Rattle.hkdf_labelled.specs.declared.suites.Aead.TheVariants.{ExportOnly}
use Rattle.key_schedule.specs.declared.modes.Role.{Role}
use Rattle.key_schedule.specs.declared.modes.Role.TheVariants.{Sender, Recipient}
use Rattle.batch_plans.specs.declared.plan.ContextKind.{ContextKind}
use Rattle.batch_plans.specs.declared.plan.ContextKind.TheVariants.{Share, Send, Recv}
use Rattle.batch_plans.specs.declared.plan.ContextLine.{ContextLine}
use Rattle.batch_plans.specs.declared.plan.CallLine.{CallLine}
use Rattle.batch_plans.specs.declared.plan.CallLine.TheVariants.{Seal, Unseal, UnsealAll, Export, Add, Retire}
use Rattle.batch_plans.specs.declared.plan.CallKind.{CallKind}
use Rattle.batch_plans.specs.declared.plan.CallKind.TheVariants as kinds
use Rattle.batch_plans.specs.declared.replies.CallRefusal.{CallRefusal}
use Rattle.batch_plans.specs.declared.replies.CallRefusal.TheVariants as refusals

-- ---- what a call is and has. The last line is of all forms that no line names

-- what a call does, whatever its form
abbrev pub kind_of : CallLine → CallKind
kind_of (Seal context item) = kinds.Seal
kind_of (Unseal context item) = kinds.Open
kind_of (UnsealAll context first count) = kinds.Open
kind_of (Export context exporter size) = kinds.Export
kind_of (Add name) = kinds.Add
kind_of (Retire name) = kinds.Retire

-- CTX; of a line that adds or retires a context, its K
abbrev pub context_of : CallLine → ℕ
context_of (Seal context item) = context
context_of (Unseal context item) = context
context_of (UnsealAll context first count) = context
context_of (Export context exporter size) = context
context_of (Add name) = name
context_of (Retire name) = name

-- the items of a call; a line that adds or retires a context counts as one
abbrev pub items_of : CallLine → ℕ
items_of (UnsealAll context first count) = count
items_of call = 1

-- the LEN of a call
abbrev pub size_of : CallLine → ℕ
size_of (Export context exporter size) = size
size_of call = 0

-- an opening of several messages keeps a guess
abbrev pub keeps_guess : CallLine → Bool
keeps_guess (UnsealAll context first count) = true
keeps_guess call = false

-- ---- refusals

-- whose context it is (RFC 9180, 5.1)
abbrev pub context_role : ContextKind → Role
context_role (Share role kem secret) = role
context_role (Send key) = Sender
context_role (Recv key enc) = Recipient

-- an export-only context has no cipher (RFC 9180, 7.3)
abbrev pub cipher_refusal : Aead → Option CallRefusal
cipher_refusal ExportOnly = Some refusals.NoCipher
cipher_refusal aead = None

-- a sender seals
abbrev pub seal_refusal : Role → Aead → Option CallRefusal
seal_refusal Sender aead = cipher_refusal aead
seal_refusal Recipient aead = Some refusals.Role

-- a recipient opens
abbrev pub open_refusal : Role → Aead → Option CallRefusal
open_refusal Sender aead = Some refusals.Role
open_refusal Recipient aead = cipher_refusal aead

-- both export, up to the limit
abbrev pub export_refusal : ℕ → ℕ → Option CallRefusal
export_refusal export_limit size =
    if nat_lt export_limit size then Some refusals.ExportSize else None

-- a call of this kind and LEN. No context serves the lines that add and retire contexts
abbrev pub kind_refusal : Role → Aead → ℕ → ℕ → CallKind → Option CallRefusal
kind_refusal role aead export_limit size kinds.Seal = seal_refusal role aead
kind_refusal role aead export_limit size kinds.Open = open_refusal role aead
kind_refusal role aead export_limit size kinds.Export = export_refusal export_limit size
kind_refusal role aead export_limit size kind = Some refusals.NoContext

-- a call on a context of this role and cipher, which exports so many bytes at most
abbrev pub refusal_by : Role → Aead → ℕ → CallLine → Option CallRefusal
refusal_by role aead export_limit call =
    kind_refusal role aead export_limit (size_of call) (kind_of call)

-- the context line of this number, where there is one and its context stands
abbrev pub standing_line : List ContextLine → List ℕ → ℕ → Option ContextLine
standing_line contexts export_limits number =
    if slice_index export_limits number == 0 then None else slice_get contexts number

-- a call on a context that may not stand
abbrev pub refusal_at : Option ContextLine → ℕ → CallLine → Option CallRefusal
refusal_at None export_limit call = Some refusals.NoContext
refusal_at (Some line) export_limit call =
    refusal_by (context_role line.kind) line.aead export_limit call

-- why a call is refused, or that it is served
abbrev pub refusal : List ContextLine → List ℕ → CallLine → Option CallRefusal
refusal contexts export_limits call =
    refusal_at (standing_line contexts export_limits (context_of call))
    (slice_index export_limits (context_of call)) call
