-- The small batches of the tests.
use Rattle.std.specs.Prelude.{ℕ, ◌≡◌, ◌+◌, ◌&&◌, nat_le, nat_eq, Bool, false, List, [], ◌∷◌, length}
use Rattle.std.specs.List.{list_all}
use Rattle.call_places.specs.declared.spans.Span.{Span}
use Rattle.call_places.specs.declared.spans.Item.{Item}
use Rattle.hkdf_labelled.specs.declared.suites.Kdf.TheVariants.{Sha256}
use Rattle.hkdf_labelled.specs.declared.suites.Aead.TheVariants.{Aes128}
use Rattle.key_schedule.specs.declared.modes.Role.{Role}
use Rattle.key_schedule.specs.declared.modes.Role.TheVariants.{Sender, Recipient}
use Rattle.key_schedule.specs.declared.modes.Mode.TheVariants.{Base}
use Rattle.hpke_context.specs.Contexts.{ContextView}
use Rattle.batch_plans.specs.declared.plan.ContextKind.TheVariants.{Share}
use Rattle.batch_plans.specs.declared.plan.ContextLine.{ContextLine}
use Rattle.batch_plans.specs.declared.plan.CallLine.{CallLine}
use Rattle.batch_plans.specs.declared.plan.CallLine.TheVariants.{Seal, Unseal, UnsealAll, Export}
use Rattle.batch_plans.specs.Limits.{all_items, all_sizes}
use Rattle.batch_plans.specs.Within.{all_texts}

-- the span lies in the first bytes of the pool
abbrev pub is_small_span : Span → Bool
is_small_span span = nat_le (span.start + span.len) 223

abbrev pub is_small_item : Item → Bool
is_small_item item = is_small_span item.aad && is_small_span item.text

-- a call on one of two contexts, of some of 14 items
abbrev pub is_small_call : CallLine → Bool
is_small_call (Seal context item) = nat_le context 1 && is_small_item item
is_small_call (Unseal context item) = nat_le context 1 && is_small_item item
is_small_call (UnsealAll context first count) =
    nat_le context 1 && nat_le 1 count && nat_le (first + count) 14
is_small_call (Export context exporter size) =
    nat_le context 1 && is_small_span exporter && nat_le size 65535
is_small_call call = false

-- lanes of such calls
abbrev pub are_small : List Item → List (List CallLine) → Bool
are_small items lanes =
    list_all is_small_item items && (nat_eq (length items) 14
    && (list_all (λ calls. list_all is_small_call calls) lanes && (nat_le (length lanes) 2
    && (nat_le (all_items lanes) 14 && (nat_le (all_sizes lanes) 65535
    && nat_le (all_texts items lanes) 1024)))))

-- no bytes
abbrev pub no_span : Span
no_span = record { start = 0; len = 0 }

abbrev pub line_of : Role → ℕ → ContextLine
line_of role limit =
    record {
      kind = Share role 32 no_span;
      kdf = Sha256;
      aead = Aes128;
      mode = Base;
      info = no_span;
      psk = no_span;
      psk_id = no_span;
      limit = limit;
    }

-- a sender's context, and a recipient's
abbrev pub two_lines : ℕ → List ContextLine
two_lines limit = line_of Sender limit ∷ line_of Recipient limit ∷ []

-- a context of the tests, of this role and LIMIT
pub record IsOfTests (role : Role) (limit : ℕ) (context : ContextView) : Type 0 where
  pub role_is : context.role ≡ role
  pub kdf : context.suite.kdf ≡ Sha256
  pub aead : context.suite.aead ≡ Aes128
  pub limit_is : context.limit ≡ limit
