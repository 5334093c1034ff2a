-- The calls of a lane that are answered, one call more at a time.
use Rattle.std.proofs.Common.{◌≡◌, ◌<◌, ℕ, false, List, [], ◌∷◌, ◌++◌, length, map, Some, refl, sym, ap, ◌∙◌, subst, arith}
use Rattle.std.specs.Prelude.{slice_get}
use Rattle.std.specs.List.{All}
use Rattle.std.proofs.lemmas.List.{length-map}
use Rattle.std.proofs.lemmas.List.Elements.{All-append, All-nil, All-cons, All-head}
use Rattle.batch_plans.specs.declared.plan.CallLine.{CallLine}
use Rattle.batch_plans.specs.declared.plan.CallLine.TheVariants.{UnsealAll}
use Rattle.batch_plans.specs.declared.replies.CallRefusal.{CallRefusal}
use Rattle.batch_plans.specs.declared.replies.LaneAnswers.{LaneAnswers}
use Rattle.batch_plans.specs.declared.replies.Reply.{Reply}
use Rattle.batch_plans.specs.declared.replies.Reply.TheVariants.{Refused}
use Rattle.batch_plans.specs.declared.replies.Batch.{Batch}
use Rattle.batch_plans.specs.Replies.{IsInRange}
use Rattle.batch_plans.specs.Progress.{Progress, begun, with_reply, with_batch}
use Rattle.batch_plans.specs.Room.{served_batches}
use Rattle.batch_plans.specs.Lines.{refused_line}
use Rattle.batch_plans.specs.AnswersText.{reply_line, is_refused, guess_line, calls_lines, HasReplies, UsesUp}
use Rattle.batch_plans.specs.AnswersText.UsesUp.{none}
use Rattle.batch_plans.proofs.CallLines.{HasReplies-one, HasReplies-refused, HasReplies-opening, UsesUp-push, UsesUp-push_replies, calls_lines-push, calls_lines-push_replies}
use Rattle.batch_plans.proofs.Pools.{calls_lines-same}
use Rattle.context_books.specs.Writing.{PutsReplies}
use Rattle.context_books.specs.Answered.{HasAnswered}
use Rattle.context_books.proofs.Writing.{all_in_more}

-- before the first call
pub answered_begun : (answers : LaneAnswers) → HasAnswered [] [] (begun answers)
answered_begun answers = record { lines_are = refl; uses = none; range = All-nil (IsInRange 0) }

-- the calls that were answered keep their lines when more is written
kept : (calls : List CallLine) (lines : List (List ℕ)) (old new : Progress) (size : ℕ)
    (others : List (List ℕ)) → HasAnswered calls lines old → PutsReplies old new size others
    → calls_lines new.pool calls old.replies old.batches ≡ lines
kept calls lines old new size others t w =
    calls_lines-same old.taken new.pool old.pool w.kept calls old.replies old.batches t.range
    ∙ t.lines_are

in_range : (old new : Progress) (size : ℕ) (lines : List (List ℕ))
    → All (IsInRange old.taken) old.replies → PutsReplies old new size lines
    → All (IsInRange new.taken) new.replies
in_range old new size lines t w =
    subst (All (IsInRange new.taken)) (sym w.replies)
    (All-append (IsInRange new.taken) old.replies w.more
    (all_in_more old.taken new.taken old.replies (omega (arith, w.taken)) t) w.range)

-- a call that has one reply and keeps no guess: a seal, an unseal or an export
pub answered_one : (calls : List CallLine) (lines : List (List ℕ)) (old new : Progress)
    (call : CallLine) (size : ℕ) (line : List ℕ) → HasAnswered calls lines old
    → served_batches call ≡ 0 → PutsReplies old new size (line ∷ [])
    → HasAnswered (calls ++ call ∷ []) (lines ++ line ∷ []) new
answered_one calls lines old new call size line t single w = step w.more refl
  where
    step : (more : List Reply) → w.more ≡ more
        → HasAnswered (calls ++ call ∷ []) (lines ++ line ∷ []) new
    step [] is = absurd (let f : [] ≡ line ∷ [] = sym (ap (map (reply_line new.pool)) is)
        ∙ w.lines_are in cc)
    step (a ∷ b ∷ more) is =
        let f : reply_line new.pool a ∷ (reply_line new.pool b ∷ map (reply_line new.pool) more)
        ≡ line ∷ [] = sym (ap (map (reply_line new.pool)) is) ∙ w.lines_are in
        absurd (omega (arith, ap length f))
    step (reply ∷ []) is =
        let has : HasReplies call w.more [] =
        subst (λ rs. HasReplies call rs []) (sym is) (HasReplies-one call reply single) in
        record {
          lines_are = (λ i. calls_lines new.pool (calls ++ call ∷ []) (w.replies i) (w.batches i))
              ∙ calls_lines-push_replies new.pool t.uses has
              ∙ (λ i. kept calls lines old new size (line ∷ []) t w i ++ w.lines_are i);
          uses = subst (λ rs. UsesUp (calls ++ call ∷ []) rs new.batches) (sym w.replies)
              (subst (λ bs. UsesUp (calls ++ call ∷ []) (old.replies ++ w.more) bs) (sym w.batches)
              (UsesUp-push_replies t.uses has));
          range = in_range old new size (line ∷ []) t.range w;
        }

-- a call that is refused
pub answered_refused : (calls : List CallLine) (lines : List (List ℕ)) (old new : Progress)
    (call : CallLine) (refusal : CallRefusal) → HasAnswered calls lines old
    → new ≡ with_reply old (Refused refusal)
    → HasAnswered (calls ++ call ∷ []) (lines ++ refused_line refusal ∷ []) new
answered_refused calls lines old new call refusal t is =
    subst (HasAnswered (calls ++ call ∷ []) (lines ++ refused_line refusal ∷ [])) (sym is) (record {
      lines_are = calls_lines-push_replies old.pool t.uses (HasReplies-refused call refusal)
          ∙ ap (λ ls. ls ++ refused_line refusal ∷ []) t.lines_are;
      uses = UsesUp-push_replies t.uses (HasReplies-refused call refusal);
      range = All-append (IsInRange old.taken) old.replies (Refused refusal ∷ []) t.range
          (All-cons (IsInRange old.taken) (Refused refusal) [] tt (All-nil (IsInRange old.taken)));
    })

-- an opening of several messages, whose guess is put behind its replies
pub answered_all : (calls : List CallLine) (lines : List (List ℕ)) (old mid new : Progress)
    (context first count size : ℕ) (others : List (List ℕ)) (batch : Batch)
    → HasAnswered calls lines old
    → 0 < count → length others ≡ count → PutsReplies old mid size others
    → new ≡ with_batch mid batch
    → HasAnswered (calls ++ UnsealAll context first count ∷ [])
    (lines ++ (others ++ guess_line batch ∷ [])) new
answered_all calls lines old mid new context first count size others batch t some each w is =
    let call = UnsealAll context first count in
    let replies_are : length w.more ≡ count = sym (length-map w.more (reply_line mid.pool))
    ∙ ap length w.lines_are ∙ each in
    let has = HasReplies-opening context first count w.more batch some replies_are
    (first_served w.more (omega arith) w.served) in
    subst (HasAnswered (calls ++ call ∷ []) (lines ++ (others ++ guess_line batch ∷ []))) (sym is)
    (record {
      lines_are =
          (λ i. calls_lines mid.pool (calls ++ call ∷ []) (w.replies i) (w.batches i ++ batch ∷ []))
          ∙ calls_lines-push mid.pool t.uses has
          ∙ (λ i. kept calls lines old mid size others t w i ++
          (w.lines_are i ++ guess_line batch ∷ []));
      uses = subst (λ rs. UsesUp (calls ++ call ∷ []) rs (mid.batches ++ batch ∷ []))
          (sym w.replies)
          (subst (λ bs. UsesUp (calls ++ call ∷ []) (old.replies ++ w.more) (bs ++ batch ∷ []))
          (sym w.batches) (UsesUp-push t.uses has));
      range = in_range old mid size others t.range w;
    })
  where
    first_served : (more : List Reply) → 0 < length more
        → All (λ reply. is_refused (Some reply) ≡ false) more
        → is_refused (slice_get more 0) ≡ false
    first_served [] low all = absurd (omega arith)
    first_served (reply ∷ more) low all = All-head (λ r. is_refused (Some r) ≡ false) reply more all
