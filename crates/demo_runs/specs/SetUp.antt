-- The set-up of a demonstration: a key, the context of a sender to it, which has number 0, and that
-- of the recipient, which has number 1. A byte string is a list of numbers below 256.
use Rattle.std.specs.Prelude.{ℕ, ◌+◌, List, [], ◌∷◌, ◌++◌, codes, replicate, Some}
use Rattle.byte_strings.specs.Bytes.{i2osp}
use Rattle.call_places.specs.declared.spans.Span.{Span}
use Rattle.hkdf_labelled.specs.declared.suites.Kdf.TheVariants.{Sha256}
use Rattle.hkdf_labelled.specs.declared.suites.Aead.TheVariants.{Aes128}
use Rattle.key_schedule.specs.declared.modes.Mode.TheVariants.{Base}
use Rattle.batch_plans.specs.declared.plan.KeyLine.TheVariants.{Generate}
use Rattle.batch_plans.specs.declared.plan.EncField.TheVariants.{Of}
use Rattle.batch_plans.specs.declared.plan.ContextKind.{ContextKind}
use Rattle.batch_plans.specs.declared.plan.ContextKind.TheVariants.{Send, Recv}
use Rattle.batch_plans.specs.declared.plan.ContextLine.{ContextLine}
use Rattle.batch_plans.specs.declared.plan.Plan.{Plan}

-- the seed of the random bytes: SEED as 8 bytes, the high byte first, and 24 zero bytes
abbrev pub seed_bytes : ℕ → List ℕ
seed_bytes seed = i2osp seed 8 ++ replicate 24 0

abbrev pub span : ℕ → ℕ → Span
span start len = record { start = start; len = len }

-- a context line whose info is the 4 bytes of the pool from here on
abbrev pub context_line : ContextKind → ℕ → ContextLine
context_line kind start =
    record {
      kind = kind;
      kdf = Sha256;
      aead = Aes128;
      mode = Base;
      info = span start 4;
      psk = span (start + 4) 0;
      psk_id = span (start + 4) 0;
      limit = 65536;
    }

abbrev pub sender_line : ContextLine
sender_line = context_line (Send 0) 0

abbrev pub recipient_line : ContextLine
recipient_line = context_line (Recv 0 (Of 0)) 4

-- the info of both
abbrev pub infos : List ℕ
infos = codes "demo" ++ codes "demo"

-- the plan of the first five lines alone
abbrev pub set_up_plan : ℕ → Plan
set_up_plan seed =
    record {
      version = 1;
      seed = Some (seed_bytes seed);
      pool = infos;
      keys = Generate ∷ [];
      contexts = sender_line ∷ recipient_line ∷ [];
      items = [];
      lanes = [];
      added = 0;
    }
