-- The lines of a lane's calls, one call more at a time.
use Rattle.std.proofs.Common.{◌≡◌, ◌<◌, ℕ, List, [], ◌∷◌, ◌++◌, Bool, true, false, if◌then◌else◌, length, map, refl, sym, ap, subst, ◌∙◌, append-nil, append_assoc, take, drop, arith}
use Rattle.std.proofs.Math.Seq.{take-append_seam, drop-append_seam}
use Rattle.std.specs.Prelude.{slice_get, Some}
use Rattle.batch_plans.specs.declared.plan.CallLine.{CallLine}
use Rattle.batch_plans.specs.declared.plan.CallLine.TheVariants.{UnsealAll}
use Rattle.batch_plans.specs.declared.replies.CallRefusal.{CallRefusal}
use Rattle.batch_plans.specs.declared.replies.Reply.{Reply}
use Rattle.batch_plans.specs.declared.replies.Reply.TheVariants.{Refused}
use Rattle.batch_plans.specs.declared.replies.Batch.{Batch}
use Rattle.batch_plans.specs.Calls.{items_of}
use Rattle.batch_plans.specs.Room.{served_batches}
use Rattle.batch_plans.specs.AnswersText.{reply_line, is_refused, reply_count, batch_count, guess_line, calls_lines, HasReplies, UsesUp}
use Rattle.batch_plans.specs.AnswersText.UsesUp.{none, call_and_more}

-- ---- what one call has

one : {call : CallLine} {reply : Reply}
    → reply_count call (Some reply) ≡ 1 → batch_count call (Some reply) ≡ 0
    → HasReplies call (reply ∷ []) []
one count guesses = record { some = omega arith; count = sym count; guesses = sym guesses }

one_item : (call : CallLine) → served_batches call ≡ 0 → items_of call ≡ 1
one_item (UnsealAll context first count) single = absurd (omega (arith, single))
one_item call single = refl

same : (b : Bool) (n : ℕ) → (if b then n else n) ≡ n
same true n = refl
same false n = refl

-- a call that isn't an opening of several messages has one reply
pub HasReplies-one : (call : CallLine) (reply : Reply) → served_batches call ≡ 0
    → HasReplies call (reply ∷ []) []
HasReplies-one call reply single =
    let refused = is_refused (Some reply) in
    one (ap (λ n. if refused then 1 else n) (one_item call single) ∙ same refused 1)
    (ap (λ n. if refused then 0 else n) single ∙ same refused 0)

-- a call that is refused has one reply
pub HasReplies-refused : (call : CallLine) (refusal : CallRefusal)
    → HasReplies call (Refused refusal ∷ []) []
HasReplies-refused call refusal = one refl refl

-- an opening of several messages that is served has a reply for each, and a guess
pub HasReplies-opening : (context first count : ℕ) (replies : List Reply) (batch : Batch)
    → 0 < count → length replies ≡ count → is_refused (slice_get replies 0) ≡ false
    → HasReplies (UnsealAll context first count) replies (batch ∷ [])
HasReplies-opening context first count replies batch some each served = record {
  some = omega arith;
  count = each ∙ ap (λ (b : Bool). if b then 1 else count) (sym served);
  guesses = ap (λ (b : Bool). if b then 0 else 1) (sym served);
}

-- ---- one call behind others

-- the replies and guesses of one call more
pub UsesUp-push : {calls : List CallLine} {replies more : List Reply} {batches guesses : List Batch}
    {call : CallLine} → UsesUp calls replies batches → HasReplies call more guesses
    → UsesUp (calls ++ call ∷ []) (replies ++ more) (batches ++ guesses)
UsesUp-push {more = more} {guesses = guesses} {call = call} none h =
    subst (λ rs. UsesUp (call ∷ []) rs guesses) (append-nil more)
    (subst (λ bs. UsesUp (call ∷ []) (more ++ []) bs) (append-nil guesses) (call_and_more h none))
UsesUp-push {more = new} {guesses = kept} {call = last}
    (call_and_more {call} {replies} {batches} {calls} {more} {guesses} h uses) now =
    let all = call ∷ (calls ++ last ∷ []) in
    subst (λ r. UsesUp all r ((batches ++ guesses) ++ kept)) (sym (append_assoc replies more new))
    (subst (λ b. UsesUp all (replies ++ (more ++ new)) b) (sym (append_assoc batches guesses kept))
    (call_and_more h (UsesUp-push uses now)))

-- the same of a call that keeps no guess
pub UsesUp-push_replies : {calls : List CallLine} {replies more : List Reply} {batches : List Batch}
    {call : CallLine} → UsesUp calls replies batches → HasReplies call more []
    → UsesUp (calls ++ call ∷ []) (replies ++ more) batches
UsesUp-push_replies {calls} {replies} {more} {batches} {call} uses h =
    subst (λ bs. UsesUp (calls ++ call ∷ []) (replies ++ more) bs) (append-nil batches)
    (UsesUp-push uses h)

first_of : {A : Type 0} (xs ys : List A) → 0 < length xs
    → slice_get (xs ++ ys) 0 ≡ slice_get xs 0
first_of [] ys some = absurd (omega (arith, some))
first_of (x ∷ xs) ys some = refl

module _ (pool : List ℕ) where
  abbrev lines_of : List Reply → List Batch → List (List ℕ) → List (List ℕ)
  lines_of replies batches more = map (reply_line pool) replies ++ (map guess_line batches ++ more)

  -- the lines of a call and of those behind it, where it has n replies and m guesses
  abbrev by_counts : List CallLine → List Reply → List Batch → ℕ → ℕ → List (List ℕ)
  by_counts calls replies batches n m =
      lines_of (take n replies) (take m batches)
      (calls_lines pool calls (drop n replies) (drop m batches))

  -- the lines of a call, and those of the calls behind it
  step : (call : CallLine) (calls : List CallLine) (replies more : List Reply)
      (batches guesses : List Batch) → HasReplies call replies batches
      → calls_lines pool (call ∷ calls) (replies ++ more) (batches ++ guesses)
      ≡ lines_of replies batches (calls_lines pool calls more guesses)
  step call calls replies more batches guesses h =
      let first = first_of replies more h.some in
      let counts = by_counts calls (replies ++ more) (batches ++ guesses) in
      let kept = batch_count call (slice_get (replies ++ more) 0) in
      ap (λ n. counts n kept) (ap (reply_count call) first ∙ sym h.count)
      ∙ ap (λ m. counts (length replies) m) (ap (batch_count call) first ∙ sym h.guesses)
      ∙ rw (take-append_seam replies more, drop-append_seam replies more)
      (rw (take-append_seam batches guesses, drop-append_seam batches guesses))

  -- the lines of a call by itself
  pub calls_lines-one : (call : CallLine) (replies : List Reply) (batches : List Batch)
      → HasReplies call replies batches
      → calls_lines pool (call ∷ []) replies batches
      ≡ map (reply_line pool) replies ++ map guess_line batches
  calls_lines-one call replies batches h =
      let lines = calls_lines pool (call ∷ []) in
      ap (λ rs. lines rs batches) (sym (append-nil replies))
      ∙ ap (λ bs. lines (replies ++ []) bs) (sym (append-nil batches))
      ∙ step call [] replies [] batches [] h
      ∙ ap (λ ls. map (reply_line pool) replies ++ ls) (append-nil (map guess_line batches))

  -- the lines of some calls, and those of the calls behind them
  pub calls_lines-append : {calls : List CallLine} {replies : List Reply} {batches : List Batch}
      → UsesUp calls replies batches
      → (rest : List CallLine) (more : List Reply) (guesses : List Batch)
      → calls_lines pool (calls ++ rest) (replies ++ more) (batches ++ guesses)
      ≡ calls_lines pool calls replies batches ++ calls_lines pool rest more guesses
  calls_lines-append none rest more guesses = refl
  calls_lines-append (call_and_more {call} {replies} {batches} {calls} {more} {guesses} h uses)
      rest new kept =
      let all = calls_lines pool (call ∷ (calls ++ rest)) in
      let before = calls_lines pool calls more guesses in
      let behind = calls_lines pool rest new kept in
      let front = map (reply_line pool) replies in
      let guessed = map guess_line batches in
      ap (λ rs. all rs ((batches ++ guesses) ++ kept)) (append_assoc replies more new)
      ∙ ap (λ bs. all (replies ++ (more ++ new)) bs) (append_assoc batches guesses kept)
      ∙ step call (calls ++ rest) replies (more ++ new) batches (guesses ++ kept) h
      ∙ ap (λ ls. front ++ (guessed ++ ls)) (calls_lines-append uses rest new kept)
      ∙ ap (λ ls. front ++ ls) (sym (append_assoc guessed before behind))
      ∙ sym (append_assoc front (guessed ++ before) behind)
      ∙ ap (λ ls. ls ++ behind) (sym (step call calls replies more batches guesses h))

  -- the lines of some calls, and those of one call behind them
  pub calls_lines-push : {calls : List CallLine} {replies more : List Reply}
      {batches guesses : List Batch} {call : CallLine}
      → UsesUp calls replies batches → HasReplies call more guesses
      → calls_lines pool (calls ++ call ∷ []) (replies ++ more) (batches ++ guesses)
      ≡ calls_lines pool calls replies batches
      ++ (map (reply_line pool) more ++ map guess_line guesses)
  calls_lines-push {calls} {replies} {more} {batches} {guesses} {call} uses h =
      calls_lines-append uses (call ∷ []) more guesses
      ∙ ap (λ ls. calls_lines pool calls replies batches ++ ls)
      (calls_lines-one call more guesses h)

  -- the same of a call that keeps no guess
  pub calls_lines-push_replies : {calls : List CallLine} {replies more : List Reply}
      {batches : List Batch} {call : CallLine}
      → UsesUp calls replies batches → HasReplies call more []
      → calls_lines pool (calls ++ call ∷ []) (replies ++ more) batches
      ≡ calls_lines pool calls replies batches ++ map (reply_line pool) more
  calls_lines-push_replies {calls} {replies} {more} {batches} {call} uses h =
      ap (λ bs. calls_lines pool (calls ++ call ∷ []) (replies ++ more) bs)
      (sym (append-nil batches))
      ∙ calls_lines-push uses h
      ∙ ap (λ ls. calls_lines pool calls replies batches ++ ls)
      (append-nil (map (reply_line pool) more))
