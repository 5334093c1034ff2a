-- A small batch to try tables and journals on. Context 0 seals, and the context of `add` line 0
-- opens. Lane 0 adds it and opens two messages with it; lane 1 seals a text and retires it.
use Rattle.std.specs.Prelude.{ℕ, Bool, List, [], ◌∷◌, Some, None}
use Rattle.call_places.specs.declared.entries.Act.TheVariants.{Add, Retire, Look}
use Rattle.call_places.specs.declared.entries.Entry.{Entry}
use Rattle.call_places.specs.declared.entries.Mark.{Mark}
use Rattle.call_places.specs.declared.spans.Item.{Item}
use Rattle.call_places.specs.declared.spans.Span.{Span}
use Rattle.call_places.specs.Notes.{note_entry}
use Rattle.hkdf_labelled.specs.declared.suites.Kdf.TheVariants.{Sha256}
use Rattle.hkdf_labelled.specs.declared.suites.Aead.TheVariants as aeads
use Rattle.key_schedule.specs.declared.modes.Mode.TheVariants as modes
use Rattle.key_schedule.specs.declared.modes.Role.{Role}
use Rattle.key_schedule.specs.declared.modes.Role.TheVariants.{Sender, Recipient}
use Rattle.key_schedule.specs.declared.schedules.CipherSecrets.TheVariants as secrets
use Rattle.hpke_context.specs.Contexts.{ContextView}
use Rattle.context_books.specs.Batches.{place}
use Rattle.context_books.specs.Histories.{mark}
use Rattle.batch_plans.specs.declared.plan.Plan.{Plan}
use Rattle.batch_plans.specs.declared.plan.ContextKind.TheVariants as kinds
use Rattle.batch_plans.specs.declared.plan.ContextLine.{ContextLine}
use Rattle.batch_plans.specs.declared.plan.CallLine.TheVariants as calls
use Rattle.batch_plans.specs.Limits.{first_name}
use Rattle.context_books.specs.Live.{LiveRun}

-- ---- the batch

abbrev pub no_bytes : Span
no_bytes = record { start = 0; len = 0 }

abbrev pub no_text : Item
no_text = record { aad = no_bytes; text = no_bytes }

abbrev pub context_line : Role → ContextLine
context_line role =
    record {
      kind = kinds.Share role 0 no_bytes;
      kdf = Sha256;
      aead = aeads.Aes128;
      mode = modes.Base;
      info = no_bytes;
      psk = no_bytes;
      psk_id = no_bytes;
      limit = 9;
    }

-- the context of such a line; no row looks at its secrets
abbrev pub context_of_role : Role → ContextView
context_of_role role =
    record {
      role = role;
      suite = record { kem = 0; kdf = Sha256; aead = aeads.Aes128 };
      limit = 9;
      secrets = record { cipher = secrets.NoCipher; exporter = [] };
    }

abbrev pub live_batch : Plan
live_batch =
    record {
      version = 2;
      seed = None;
      pool = [];
      keys = [];
      contexts = context_line Sender ∷ context_line Recipient ∷ [];
      items = no_text ∷ no_text ∷ [];
      lanes =
          (calls.Add 0 ∷ calls.UnsealAll first_name 0 2 ∷ [])
          ∷ (calls.Seal 0 no_text ∷ calls.Retire 0 ∷ [])
          ∷ [];
      added = 1;
    }

-- the batch with this table and these journals
abbrev pub told : List Entry → List (List Mark) → LiveRun
told notes journals =
    record {
      plan = live_batch;
      replies = [];
      standing = Some (context_of_role Sender) ∷ Some (context_of_role Recipient) ∷ [];
      journals = journals;
      guesses = [];
      notes = notes;
    }

-- ---- its tables and journals

-- a note of lane 0's `add`, of its look, and of lane 1's `retire`, with this stamp
abbrev pub added : ℕ → Bool → Entry
added stamp live = note_entry (place 0 0 0) stamp 0 Add live

abbrev pub looked : ℕ → Bool → Entry
looked stamp live = note_entry (place 0 1 0) stamp 0 Look live

abbrev pub retired : ℕ → Bool → Entry
retired stamp live = note_entry (place 1 1 0) stamp 0 Retire live

-- the journals with these stamps of the seal and of the two messages
abbrev pub sealed_and_opened : ℕ → ℕ → ℕ → List (List Mark)
sealed_and_opened seal first second =
    (mark (place 1 0 0) seal ∷ [])
    ∷ (mark (place 0 1 0) first ∷ mark (place 0 1 1) second ∷ [])
    ∷ []

-- where the look comes too late, nothing is opened
abbrev pub sealed_alone : ℕ → List (List Mark)
sealed_alone seal = (mark (place 1 0 0) seal ∷ []) ∷ [] ∷ []
