-- The room for the calls of a lane that are to come, one call less at a time.
use Rattle.std.proofs.Common.{◌≡◌, ◌≤◌, ◌<◌, ◌+◌, ℕ, zero, suc, List, [], ◌∷◌, length, drop, Some, None, sym, ap, ◌∙◌, subst, arith}
use Rattle.std.specs.Prelude.{slice_get, sum_by}
use Rattle.std.proofs.lemmas.List.{length-replicate}
use Rattle.std.proofs.lemmas.List.Sums.{sum_by-cons}
use Rattle.batch_plans.specs.declared.plan.Plan.{Plan}
use Rattle.batch_plans.specs.declared.plan.CallLine.{CallLine}
use Rattle.batch_plans.specs.declared.replies.CallRefusal.{CallRefusal}
use Rattle.batch_plans.specs.declared.replies.Reply.TheVariants.{Refused}
use Rattle.batch_plans.specs.declared.replies.Batch.{Batch}
use Rattle.batch_plans.specs.Limits.{items_of}
use Rattle.batch_plans.specs.Calls.{refusal}
use Rattle.batch_plans.specs.Room.{served_room, served_batches, served_or, call_room, call_replies, call_batches, lane_room, IsLaneWithin}
use Rattle.batch_plans.specs.Progress.{Progress, begun, with_reply, with_batch}
use Rattle.batch_plans.proofs.Rooms.{lane_is_small}
use Rattle.context_books.specs.Writing.{PutsReplies}
use Rattle.context_books.specs.Answered.{HasRoomFor}

-- before the first call
pub room_begun : (plan : Plan) (limits : List ℕ) (calls : List CallLine) → IsLaneWithin plan calls
    → HasRoomFor plan limits calls (begun (lane_room plan limits calls))
room_begun plan limits calls within =
    let room = length-replicate {A = ℕ} (sum_by (call_room plan limits) calls) 0 in
    record {
      room = omega (arith, room);
      left = length-replicate (sum_by (call_replies plan limits) calls) _;
      batches = length-replicate (sum_by (call_batches plan limits) calls) _;
      few = omega (arith, room, (lane_is_small plan limits calls within).room);
    }

-- after the last call all replies and guesses are put
pub room_ended : (plan : Plan) (limits : List ℕ) (p : Progress) → HasRoomFor plan limits [] p
    → (p.left ≡ 0) × (p.batches_left ≡ 0)
room_ended plan limits p t = (t.left, t.batches)

-- the next call and those behind it
pub room_drop : (plan : Plan) (limits : List ℕ) (calls : List CallLine) (number : ℕ)
    (call : CallLine) (p : Progress) → slice_get calls number ≡ Some call
    → HasRoomFor plan limits (drop number calls) p
    → HasRoomFor plan limits (call ∷ drop (number + 1) calls) p
room_drop plan limits calls number call p at t =
    subst (λ cs. HasRoomFor plan limits cs p) (drop_next calls number call at) t
  where
    drop_next : (calls : List CallLine) (number : ℕ) (call : CallLine)
        → slice_get calls number ≡ Some call → drop number calls ≡ call ∷ drop (number + 1) calls
    drop_next [] number call at = absurd (let f : None ≡ Some call = at in cc)
    drop_next (c ∷ calls) zero call at = ap (λ d. d ∷ calls) (let f : Some c ≡ Some call = at in cc)
    drop_next (c ∷ calls) (suc number) call at = drop_next calls number call at
        ∙ ap (λ n. call ∷ drop n (c ∷ calls)) (let e : suc (number + 1) ≡ suc number + 1 =
        omega arith in e)

-- what the next call finds where it is served, and where it is refused
pub record FindsRoom (plan : Plan) (call : CallLine) (p : Progress) : Type 0 where
  pub room : p.taken + served_room plan.items call ≤ length p.pool
  pub left : items_of call ≤ p.left
  pub batches : served_batches call ≤ p.batches_left

module _ (plan : Plan) (limits : List ℕ) (call : CallLine) (calls : List CallLine) where
  sums : (f : CallLine → ℕ) → sum_by f (call ∷ calls) ≡ f call + sum_by f calls
  sums f = sum_by-cons f call calls

  served_is : refusal plan.contexts limits call ≡ None → (a b : ℕ)
      → served_or (refusal plan.contexts limits call) a b ≡ a
  served_is free a b = ap (λ r. served_or r a b) free

  refused_is : (why : CallRefusal) → refusal plan.contexts limits call ≡ Some why → (a b : ℕ)
      → served_or (refusal plan.contexts limits call) a b ≡ b
  refused_is why is a b = ap (λ r. served_or r a b) is

  pub room_served : (p : Progress) → HasRoomFor plan limits (call ∷ calls) p
      → refusal plan.contexts limits call ≡ None → FindsRoom plan call p
  room_served p t free = record {
    room = omega (
      arith,
      t.room,
      sums (call_room plan limits),
      served_is free
          (served_room plan.items call) 0,
    );
    left = omega (arith, t.left, sums (call_replies plan limits), served_is free (items_of call) 1);
    batches =
        omega (
          arith,
          t.batches,
          sums (call_batches plan limits),
          served_is free
              (served_batches call) 0,
        );
  }

  pub room_refused : (p : Progress) (why : CallRefusal) → HasRoomFor plan limits (call ∷ calls) p
      → refusal plan.contexts limits call ≡ Some why → 0 < p.left
  room_refused p why t is =
      omega (arith, t.left, sums (call_replies plan limits), refused_is why is (items_of call) 1)

  -- after a call that keeps no guess
  pub room_after : (old new : Progress) (lines : List (List ℕ))
      → HasRoomFor plan limits (call ∷ calls) old → refusal plan.contexts limits call ≡ None
      → served_batches call ≡ 0 → PutsReplies old new (served_room plan.items call) lines
      → length lines ≡ items_of call → HasRoomFor plan limits calls new
  room_after old new lines t free single w each =
      record {
        room = omega (
          arith,
          t.room,
          sums (call_room plan limits),
          served_is free
              (served_room plan.items call) 0,
          w.taken,
          w.pool,
        );
        left = omega (
          arith,
          t.left,
          sums (call_replies plan limits),
          served_is free
              (items_of call) 1,
          w.left,
          each,
        );
        batches =
            omega (
              arith,
              t.batches,
              sums (call_batches plan limits),
              served_is free
                  (served_batches call) 0,
              w.batches_left,
              single,
            );
        few = omega (arith, t.few, w.pool);
      }

  -- after an opening of several messages, whose guess is put
  pub room_after_all : (old mid new : Progress) (lines : List (List ℕ)) (batch : Batch)
      → HasRoomFor plan limits (call ∷ calls) old → refusal plan.contexts limits call ≡ None
      → served_batches call ≡ 1 → PutsReplies old mid (served_room plan.items call) lines
      → length lines ≡ items_of call → new ≡ with_batch mid batch
      → HasRoomFor plan limits calls new
  room_after_all old mid new lines batch t free one w each is =
      subst (HasRoomFor plan limits calls) (sym is) (record {
        room = omega (
          arith,
          t.room,
          sums (call_room plan limits),
          served_is free
              (served_room plan.items call) 0,
          w.taken,
          w.pool,
        );
        left = omega (
          arith,
          t.left,
          sums (call_replies plan limits),
          served_is free
              (items_of call) 1,
          w.left,
          each,
        );
        batches =
            omega (
              arith,
              t.batches,
              sums (call_batches plan limits),
              served_is free
                  (served_batches call) 0,
              w.batches_left,
              one,
            );
        few = omega (arith, t.few, w.pool);
      })

  -- after a call that is refused
  pub room_after_refused : (old new : Progress) (why : CallRefusal)
      → HasRoomFor plan limits (call ∷ calls) old → refusal plan.contexts limits call ≡ Some why
      → new ≡ with_reply old (Refused why) → HasRoomFor plan limits calls new
  room_after_refused old new why t refused is =
      subst (HasRoomFor plan limits calls) (sym is) (record {
        room = omega (
          arith,
          t.room,
          sums (call_room plan limits),
          refused_is why refused
              (served_room plan.items call) 0,
        );
        left = omega (
          arith,
          t.left,
          sums (call_replies plan limits),
          refused_is why refused
              (items_of call) 1,
        );
        batches =
            omega (
              arith,
              t.batches,
              sums (call_batches plan limits),
              refused_is why refused
                  (served_batches call) 0,
            );
        few = t.few;
      })
