-- The room for the replies and the journals of a plan. Sizes are in bytes.
use Rattle.std.specs.Prelude.{ℕ, ◌+◌, ◌-◌, ◌*◌, ◌<◌, ◌^◌, ◌==◌, Bool, true, false, List, length, map, sum_by, replicate, All, Option, Some, None, [], if◌then◌else◌}
use Rattle.std.specs.List.{range_with_len}
use Rattle.call_places.specs.declared.spans.Item.{Item}
use Rattle.call_places.specs.declared.entries.Mark.{Mark}
use Rattle.batch_plans.specs.declared.plan.Plan.{Plan}
use Rattle.batch_plans.specs.declared.plan.ContextLine.{ContextLine}
use Rattle.batch_plans.specs.declared.plan.CallLine.{CallLine}
use Rattle.batch_plans.specs.declared.plan.CallKind.{CallKind}
use Rattle.batch_plans.specs.declared.plan.CallKind.TheVariants as kinds
use Rattle.batch_plans.specs.declared.plan.CallLine.TheVariants.{Seal, Unseal, UnsealAll}
use Rattle.batch_plans.specs.declared.replies.KeyReply.{KeyReply}
use Rattle.batch_plans.specs.declared.replies.ContextReply.{ContextReply}
use Rattle.batch_plans.specs.declared.replies.CallRefusal.{CallRefusal}
use Rattle.batch_plans.specs.declared.replies.Reply.TheVariants.{Blank}
use Rattle.batch_plans.specs.declared.replies.Batch.{Batch}
use Rattle.batch_plans.specs.declared.replies.LaneAnswers.{LaneAnswers}
use Rattle.batch_plans.specs.declared.replies.Answers.{Answers}
use Rattle.batch_plans.specs.Limits.{items_of, items_from, size_of}
use Rattle.batch_plans.specs.Within.{text_size, IsCallWithin}
use Rattle.batch_plans.specs.Calls.{kind_of, context_of, keeps_guess, refusal}

-- Nt of both AES-GCM suites (RFC 9180, 7.3)
abbrev pub tag_size : ℕ
tag_size = 16

-- ---- the replies of a call

-- the room of a plaintext. A text that is shorter than a tag is no ciphertext
abbrev pub opened_room : Item → ℕ
opened_room item = item.text.len - tag_size

-- the room of the replies to a call that is served: a ciphertext, plaintexts or an exported secret
abbrev pub served_room : List Item → CallLine → ℕ
served_room items (Seal context item) = item.text.len + tag_size
served_room items (Unseal context item) = opened_room item
served_room items (UnsealAll context first count) =
    sum_by opened_room (items_from items first count)
served_room items call = size_of call

-- the guesses of a call that is served
abbrev pub served_batches : CallLine → ℕ
served_batches call = if keeps_guess call then 1 else 0

-- what a call has where it is served, and what it has where it is refused
abbrev pub served_or : Option CallRefusal → ℕ → ℕ → ℕ
served_or None served refused = served
served_or (Some refusal) served refused = refused

-- the room of a call's replies
abbrev pub call_room : Plan → List ℕ → CallLine → ℕ
call_room plan export_limits call =
    served_or (refusal plan.contexts export_limits call) (served_room plan.items call) 0

-- how many replies a call has: one for each item, and one where it is refused
abbrev pub call_replies : Plan → List ℕ → CallLine → ℕ
call_replies plan export_limits call =
    served_or (refusal plan.contexts export_limits call) (items_of call) 1

-- how many guesses it keeps
abbrev pub call_batches : Plan → List ℕ → CallLine → ℕ
call_batches plan export_limits call =
    served_or (refusal plan.contexts export_limits call) (served_batches call) 0

-- ---- the seals and opens of a context

-- a seal and an open take a sequence number of their context for each item (RFC 9180, 5.2)
abbrev pub takes_numbers : CallKind → Bool
takes_numbers kinds.Seal = true
takes_numbers kinds.Open = true
takes_numbers kind = false

-- a value, where a call is not refused
abbrev pub if_served : {A : Type 0} → Option CallRefusal → A → Option A
if_served None value = Some value
if_served (Some refused) value = None

-- the number of the context that serves a seal or an open
abbrev pub served_on : List ContextLine → List ℕ → CallLine → Option ℕ
served_on contexts export_limits call =
    if takes_numbers (kind_of call)
    then if_served (refusal contexts export_limits call) (context_of call) else None

-- so many items, where the context that serves them has this number
abbrev pub items_at : Option ℕ → ℕ → ℕ → ℕ
items_at None number items = 0
items_at (Some context) number items = if context == number then items else 0

-- how many items of a call the context of this number seals or opens
abbrev pub items_on : List ContextLine → List ℕ → ℕ → CallLine → ℕ
items_on contexts export_limits number call =
    items_at (served_on contexts export_limits call) number (items_of call)

-- the same, of the calls of all lanes
abbrev pub all_items_on : List ContextLine → List ℕ → ℕ → List (List CallLine) → ℕ
all_items_on contexts export_limits number lanes =
    sum_by (λ lane. sum_by (items_on contexts export_limits number) lane) lanes

-- ---- all of a plan

-- a guess before it was made
abbrev pub blank_batch : Batch
blank_batch = record { guess = 0; missed = 0 }

-- a lane's answers before it is served: no reply and no guess yet, and room for all of them
abbrev pub lane_room : Plan → List ℕ → List CallLine → LaneAnswers
lane_room plan export_limits calls =
    record {
      pool = replicate (sum_by (call_room plan export_limits) calls) 0;
      replies = replicate (sum_by (call_replies plan export_limits) calls) Blank;
      batches = replicate (sum_by (call_batches plan export_limits) calls) blank_batch;
    }

-- a place of a journal in which none was written
abbrev pub blank_mark : Mark
blank_mark = record { place = record { lane = 0; call = 0; item = 0 }; stamp = 0 }

-- a journal before the lanes are served: a place for each item that its context will serve
abbrev pub journal_room : List ContextLine → List ℕ → List (List CallLine) → ℕ → List Mark
journal_room contexts export_limits lanes number =
    replicate (all_items_on contexts export_limits number lanes) blank_mark

-- the answers of a plan before its lanes are served
abbrev pub room_for : Plan → List KeyReply → List ContextReply → List ℕ → Answers
room_for plan keys contexts export_limits =
    record {
      keys = keys;
      contexts = contexts;
      lanes = map (lane_room plan export_limits) plan.lanes;
      journals = map (journal_room plan.contexts export_limits plan.lanes)
          (range_with_len 0 (length plan.contexts));
      notes = [];
    }

-- ---- for the proofs

-- no replies to a call have more bytes
abbrev pub most_room : List Item → CallLine → ℕ
most_room items call = text_size items call + tag_size * items_of call + size_of call

-- each call of a lane is within the limits, and the room of its replies is small
pub record IsLaneWithin (plan : Plan) (calls : List CallLine) : Type 0 where
  pub lines : All (IsCallWithin (length plan.items) (length plan.pool)) calls
  pub small : sum_by (most_room plan.items) calls < 2 ^ 32

-- most_room, of the calls of all lanes
abbrev pub all_most_room : List Item → List (List CallLine) → ℕ
all_most_room items lanes = sum_by (λ lane. sum_by (most_room items) lane) lanes
