-- The answers of a lane along a run, one call more at a time.
use Rattle.std.proofs.Common.{◌≡◌, ◌<◌, ◌+◌, ℕ, List, [], ◌∷◌, ◌++◌, length, take, drop, Some, None, refl, sym, ap, ◌∙◌, subst, arith}
use Rattle.std.specs.Prelude.{slice_get}
use Rattle.std.proofs.Math.Seq.{take-length, drop-length}
use Rattle.context_books.proofs.OneLane.{taken_more}
use Rattle.batch_plans.specs.declared.plan.CallLine.{CallLine}
use Rattle.batch_plans.specs.declared.plan.CallLine.TheVariants.{UnsealAll}
use Rattle.batch_plans.specs.declared.replies.CallRefusal.{CallRefusal}
use Rattle.batch_plans.specs.declared.replies.Reply.TheVariants.{Refused}
use Rattle.batch_plans.specs.declared.replies.Batch.{Batch}
use Rattle.batch_plans.specs.Limits.{items_of}
use Rattle.batch_plans.specs.Calls.{refusal}
use Rattle.batch_plans.specs.Room.{served_room, served_batches, lane_room, IsLaneWithin}
use Rattle.batch_plans.specs.Progress.{Progress, begun, with_reply, with_batch}
use Rattle.batch_plans.specs.Lines.{refused_line}
use Rattle.batch_plans.specs.AnswersText.{guess_line, calls_lines}
use Rattle.context_books.specs.Standing.{call_refusal}
use Rattle.context_books.specs.ContextLines.{export_limits, AreOfLines}
use Rattle.context_books.specs.Runs.{Run, call_lines, lane_call_lines}
use Rattle.context_books.specs.Lanes.{calls_of, done_lines}
use Rattle.context_books.proofs.Refusals.{refusal_agrees}
use Rattle.context_books.proofs.Done.{done_lines_more}
use Rattle.context_books.proofs.CallLines.{refused_lines}
use Rattle.context_books.specs.Writing.{PutsReplies}
use Rattle.context_books.specs.Answered.{HasAnswered, HasRoomFor, KeepsUp}
use Rattle.context_books.proofs.Answering.{answered_begun, answered_one, answered_refused, answered_all}
use Rattle.context_books.proofs.Rooms.{FindsRoom, room_begun, room_drop, room_served, room_refused, room_after, room_after_all, room_after_refused}

-- before the first call
pub keeps_up_begun : (run : Run) (lane : ℕ) → IsLaneWithin run.plan (calls_of run lane)
    → KeepsUp run lane 0
    (begun (lane_room run.plan (export_limits run.contexts) (calls_of run lane)))
keeps_up_begun run lane within = record {
  answered = answered_begun (lane_room run.plan (export_limits run.contexts) (calls_of run lane));
  room = room_begun run.plan (export_limits run.contexts) (calls_of run lane) within;
}

-- after the last call
pub keeps_up_ended : (run : Run) (lane : ℕ) (p : Progress)
    → KeepsUp run lane (length (calls_of run lane)) p
    → (p.left ≡ 0) × (p.batches_left ≡ 0) ×
    (calls_lines p.pool (calls_of run lane) p.replies p.batches ≡ lane_call_lines run lane
    (calls_of run lane))
keeps_up_ended run lane p t =
    let calls = calls_of run lane in
    let ended = subst (λ cs. HasRoomFor run.plan (export_limits run.contexts) cs p)
    (drop-length calls) t.room in
    let lines = subst (λ cs. HasAnswered cs (lane_call_lines run lane cs) p)
    (take-length calls) t.answered in
    (ended.left, ended.batches, lines.lines_are)

module _ (run : Run) (of_lines : AreOfLines run.plan.contexts run.contexts) (lane number : ℕ)
    (call : CallLine) (at : slice_get (calls_of run lane) number ≡ Some call) where
  abbrev limits : List ℕ
  limits = export_limits run.contexts

  abbrev behind : List CallLine
  behind = drop (number + 1) (calls_of run lane)

  refusal_is : refusal run.plan.contexts limits call ≡ call_refusal run.contexts call
  refusal_is = refusal_agrees run.plan.contexts run.contexts call of_lines

  -- the call finds its room
  to_come : (p : Progress) → KeepsUp run lane number p
      → HasRoomFor run.plan limits (call ∷ behind) p
  to_come p t = room_drop run.plan limits (calls_of run lane) number call p at t.room

  pub keeps_up_room : (p : Progress) → KeepsUp run lane number p
      → call_refusal run.contexts call ≡ None → FindsRoom run.plan call p
  keeps_up_room p t free = room_served run.plan limits call behind p (to_come p t) (refusal_is
      ∙ free)

  pub keeps_up_left : (p : Progress) (why : CallRefusal) → KeepsUp run lane number p
      → call_refusal run.contexts call ≡ Some why → 0 < p.left
  keeps_up_left p why t is = room_refused run.plan limits call behind p why (to_come p t)
      (refusal_is ∙ is)

  -- with the lines of one call more
  one_more : (p : Progress) (lines : List (List ℕ)) → call_lines run lane number call ≡ lines
      → HasAnswered (take number (calls_of run lane) ++ call ∷ [])
      (done_lines run lane number ++ lines) p
      → HasAnswered (take (number + 1) (calls_of run lane)) (done_lines run lane (number + 1)) p
  one_more p lines is t =
      subst (λ cs. HasAnswered cs (done_lines run lane (number + 1)) p)
      (sym (taken_more (calls_of run lane) number call at))
      (subst (λ ls. HasAnswered (take number (calls_of run lane) ++ call ∷ []) ls p)
      (ap (λ ls. done_lines run lane number ++ ls) (sym is)
      ∙ sym (done_lines_more run lane number call at)) t)

  single : served_batches call ≡ 0 → items_of call ≡ 1
  single none = step call none
    where
      step : (call : CallLine) → served_batches call ≡ 0 → items_of call ≡ 1
      step (UnsealAll context first count) none = absurd (omega (arith, none))
      step call none = refl

  -- a seal, an unseal or an export is answered
  pub keeps_up_one : (old new : Progress) (line : List ℕ) → KeepsUp run lane number old
      → call_refusal run.contexts call ≡ None → served_batches call ≡ 0
      → PutsReplies old new (served_room run.plan.items call) (line ∷ [])
      → call_lines run lane number call ≡ line ∷ [] → KeepsUp run lane (number + 1) new
  keeps_up_one old new line t free none puts is = record {
    answered = one_more new (line ∷ []) is
        (answered_one (take number (calls_of run lane)) (done_lines run lane number) old new call
        (served_room run.plan.items call) line t.answered none puts);
    room = room_after run.plan limits call behind old new (line ∷ []) (to_come old t) (refusal_is
        ∙ free) none puts (sym (single none));
  }

  -- a call is refused
  pub keeps_up_refused : (old new : Progress) (why : CallRefusal) → KeepsUp run lane number old
      → call_refusal run.contexts call ≡ Some why
      → new ≡ with_reply old (Refused why) → KeepsUp run lane (number + 1) new
  keeps_up_refused old new why t refused is = record {
    answered = one_more new (refused_line why ∷ []) (refused_lines run lane number call why refused)
        (answered_refused (take number (calls_of run lane))
        (done_lines run lane number) old new call why t.answered is);
    room = room_after_refused run.plan limits call behind old new why (to_come old t) (refusal_is
        ∙ refused) is;
  }

-- an opening of several messages is answered, and its guess is put
pub keeps_up_all : (run : Run) → AreOfLines run.plan.contexts run.contexts
    → (lane number context first count : ℕ)
    → slice_get (calls_of run lane) number ≡ Some (UnsealAll context first count)
    → (old mid new : Progress) (lines : List (List ℕ)) (batch : Batch) → KeepsUp run lane number old
    → call_refusal run.contexts (UnsealAll context first count) ≡ None
    → PutsReplies old mid (served_room run.plan.items (UnsealAll context first count)) lines
    → 0 < count → length lines ≡ count → new ≡ with_batch mid batch
    → call_lines run lane number (UnsealAll context first count) ≡ lines ++ guess_line batch ∷ []
    → KeepsUp run lane (number + 1) new
keeps_up_all run of_lines lane number context first count at old mid new lines batch t free puts
    some each put is =
    let call = UnsealAll context first count in
    let calls = calls_of run lane in
    let limits = export_limits run.contexts in
    record {
      answered = one_more run of_lines lane number call at new (lines ++ guess_line batch ∷ []) is
          (answered_all (take number calls) (done_lines run lane number) old mid new context first
          count (served_room run.plan.items call) lines batch t.answered some each puts put);
      room = room_after_all run.plan limits call (drop (number + 1) calls) old mid new lines batch
          (room_drop run.plan limits calls number call old at t.room)
          (refusal_agrees run.plan.contexts run.contexts call of_lines ∙ free) refl puts each put;
    }
