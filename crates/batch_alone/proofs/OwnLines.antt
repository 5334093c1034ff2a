-- The lines of a lane whose lines that add and retire contexts have replies of their own, from those
-- of the refusals that stood in their place.
use Rattle.std.proofs.Common.{◌≡◌, ◌<◌, ◌≤◌, ◌+◌, ◌==◌, ◌||◌, ℕ, zero, suc, Bool, true, false, cond, List, [], ◌∷◌, ◌++◌, length, map, take, drop, filter, get_or, codes, Option, Some, None, sym, refl, ap, ◌∙◌, subst, arith, if◌then◌else◌, append-nil, length-append}
use Rattle.std.specs.Prelude.{slice_get, nat_lt}
use Rattle.std.specs.List.{All}
use Rattle.std.proofs.lemmas.List.{length-map}
use Rattle.std.proofs.lemmas.List.Elements.{All-head, All-tail, filter-append}
use Rattle.std.proofs.Math.Seq.{take-append_seam, drop-append_seam}
use Rattle.call_places.specs.declared.entries.Entry.{Entry}
use Rattle.hpke_context.specs.Answers.{Answer, Sealed_at, Opened_at, Failed_at, At_limit}
use Rattle.context_books.specs.Batches.{place}
use Rattle.context_books.specs.Legal.{Legal, reply_of}
use Rattle.batch_plans.specs.declared.plan.CallLine.{CallLine}
use Rattle.batch_plans.specs.declared.plan.CallLine.TheVariants as calls
use Rattle.batch_plans.specs.declared.plan.Plan.{Plan}
use Rattle.batch_plans.specs.declared.replies.Batch.{Batch}
use Rattle.batch_plans.specs.declared.replies.CallRefusal.{CallRefusal}
use Rattle.batch_plans.specs.declared.replies.ContextReply.{ContextReply}
use Rattle.batch_plans.specs.declared.replies.ContextReply.TheVariants as contexts
use Rattle.batch_plans.specs.declared.replies.ContextRefusal.TheVariants.{NoKey, NeedSecret, NoEnc, EncSize, PskPair, PskExtra, PskMissing}
use Rattle.batch_plans.specs.declared.replies.Reply.{Reply}
use Rattle.batch_plans.specs.declared.replies.Reply.TheVariants.{Blank, Sealed, Opened, Failed, Limit, Exported, Refused, Added, Retired}
use Rattle.batch_plans.specs.Calls.{context_of, items_of}
use Rattle.batch_plans.specs.Limits.{first_name}
use Rattle.batch_plans.specs.Within.{IsWithinLimits}
use Rattle.batch_plans.specs.Names.{line_count, at_position}
use Rattle.batch_plans.specs.Room.{served_or}
use Rattle.batch_plans.specs.Lines.{refused_line}
use Rattle.batch_plans.specs.AnswersText.{reply_line, is_given, is_refused, reply_count, guess_line, calls_lines, HasReplies, UsesUp}
use Rattle.batch_plans.specs.ReplyText.{numbered, all_lines}
use Rattle.batch_plans.specs.AnswersText.UsesUp.{none, call_and_more}
use Rattle.batch_plans.proofs.CallLines.{HasReplies-one, calls_lines-append, calls_lines-one}
use Rattle.context_books.specs.Asks.{cipher_at}
use Rattle.context_books.specs.Live.{LiveRun, run_of, was_live, looked_up, live_call_lines, add_line, retire_line}
use Rattle.context_books.specs.Lanes.{calls_of}
use Rattle.context_books.specs.Runs.{Run, asks_of, journal_of, answer_line_of, place_line, lines_unless, served_lines, call_lines, item_lines, guess_lines, guessed_line}
use Rattle.context_books.specs.Standing.{call_refusal}
use Rattle.result_lines.specs.PrintedLive.{IsReply}
use Rattle.result_lines.specs.Replies.{reply_lines}
use Rattle.result_lines.proofs.DueReplies.{replies_are}
use Rattle.result_lines.proofs.Limited.{IsLine}
use Rattle.result_lines.proofs.RunTexts.{replies_count, drop_step}
use Rattle.batch_alone.specs.Own.{add_reply, retire_reply, own_at, put_first, with_own}

-- ---- which lines are refusals

-- the third byte of `refused` is its f, and no other line of a reply has it there
abbrev is_refusal : List ℕ → Bool
is_refusal line = get_or line 2 0 == 102

reply_refusal : (pool : List ℕ) (reply : Reply)
    → is_refusal (reply_line pool reply) ≡ is_refused (Some reply)
reply_refusal pool Blank = refl
reply_refusal pool (Sealed number text) = refl
reply_refusal pool (Opened number text) = refl
reply_refusal pool (Failed number) = refl
reply_refusal pool Limit = refl
reply_refusal pool (Exported text) = refl
reply_refusal pool (Refused refusal) = refl
reply_refusal pool Added = refl
reply_refusal pool Retired = refl

answer_refusal : (answer : Option Answer) → is_refusal (answer_line_of answer) ≡ false
answer_refusal None = refl
answer_refusal (Some (Sealed_at number ct)) = refl
answer_refusal (Some (Opened_at number text)) = refl
answer_refusal (Some (Failed_at number)) = refl
answer_refusal (Some At_limit) = refl

heads : {X : Type 0} (x y : X) (xs ys : List X) → x ∷ xs ≡ y ∷ ys → x ≡ y
heads x y xs ys e = cc

-- ---- two lists of lines whose first parts are as long

same_parts : {X : Type 0} (xs ys more rest : List X) → length xs ≡ length ys
    → xs ++ more ≡ ys ++ rest → (xs ≡ ys) × (more ≡ rest)
same_parts xs ys more rest long same = (
  sym (take-append_seam xs more) ∙ (λ i. take (long i) (same i)) ∙ take-append_seam ys rest,
  sym (drop-append_seam xs more) ∙ (λ i. drop (long i) (same i)) ∙ drop-append_seam ys rest,
)

nothing_in : {X : Type 0} (xs : List X) → length xs ≡ 0 → xs ≡ []
nothing_in [] e = refl
nothing_in (x ∷ xs) e = absurd (omega arith)

one_in : {X : Type 0} (xs : List X) → length xs ≡ 1 → (x : X) × (xs ≡ x ∷ [])
one_in [] e = absurd (omega arith)
one_in (x ∷ []) e = (x, refl)
one_in (x ∷ y ∷ xs) e = absurd (omega arith)

-- ---- the lines of a call, and of its items and its guess

-- a choice between one and the same
alike : (b : Bool) (n : ℕ) → cond b n n ≡ n
alike true n = refl
alike false n = refl

module _ (run : Run) (lane number : ℕ) where
  -- the line of a call's guess
  abbrev kept : Option CallRefusal → CallLine → List (List ℕ)
  kept (Some why) call = []
  kept None call = guess_lines (guessed_line run) lane number call

  parted : (o : Option CallRefusal) (call : CallLine)
      → lines_unless o (served_lines run lane number call)
      ≡ lines_unless o (item_lines run lane number call) ++ kept o call
  parted (Some why) call = refl
  parted None call = refl

  -- ---- the replies and the guess of a call are as many as it has lines

  record AreCounted (o : Option CallRefusal) (call : CallLine) (rs : List Reply) (bs : List Batch)
      : Type 0 where
    replies : length rs ≡ served_or o (items_of call) 1
    guesses : length bs ≡ length (kept o call)

  -- an opening of several messages is refused where its first reply says so
  opening : (o : Option CallRefusal) (context first count : ℕ) → 1 ≤ count
      → (pool : List ℕ) (rs : List Reply) (bs : List Batch)
      → HasReplies (calls.UnsealAll context first count) rs bs → (rest more : List (List ℕ))
      → (map (reply_line pool) rs ++ map guess_line bs) ++ rest
      ≡ lines_unless o (served_lines run lane number (calls.UnsealAll context first count)) ++ more
      → AreCounted o (calls.UnsealAll context first count) rs bs
  opening o context first count some pool [] bs has rest more same =
      absurd (let some = has.some in omega arith)
  opening (Some why) context first count some pool (r ∷ rs) bs has rest more same =
      let is : is_refused (Some r) ≡ true = sym (reply_refusal pool r)
      ∙ ap is_refusal (heads (reply_line pool r) (refused_line why) _ _ same) in
      record {
        replies = has.count ∙ ap (λ b. if b then 1 else count) is;
        guesses = has.guesses ∙ ap (λ b. if b then 0 else 1) is;
      }
  opening None context first zero some pool (r ∷ rs) bs has rest more same = absurd (omega arith)
  opening None context first (suc n) some pool (r ∷ rs) bs has rest more same =
      let is : is_refused (Some r) ≡ false = sym (reply_refusal pool r)
      ∙ ap is_refusal (heads (reply_line pool r) (place_line run context (place lane number 0)) _ _ same)
      ∙ answer_refusal (reply_of (asks_of run) (cipher_at run.contexts context)
      (journal_of run context) (place lane number 0)) in
      record {
        replies = has.count ∙ ap (λ b. if b then 1 else suc n) is;
        guesses = has.guesses ∙ ap (λ b. if b then 0 else 1) is;
      }

  single : (o : Option CallRefusal) (call : CallLine) → items_of call ≡ 1 → kept o call ≡ []
      → (rs : List Reply) (bs : List Batch) → length rs ≡ 1 → length bs ≡ 0
      → AreCounted o call rs bs
  single None call one empty rs bs count guesses =
      record { replies = count ∙ sym one; guesses = guesses ∙ sym (ap length empty) }
  single (Some why) call one empty rs bs count guesses =
      record { replies = count; guesses = guesses }

  none_kept : (o : Option CallRefusal) (call : CallLine) → kept None call ≡ [] → kept o call ≡ []
  none_kept None call is = is
  none_kept (Some why) call is = refl

  counted : (call : CallLine) → IsLine run.plan call
      → (pool : List ℕ) (rs : List Reply) (bs : List Batch) → HasReplies call rs bs
      → (rest more : List (List ℕ))
      → (map (reply_line pool) rs ++ map guess_line bs) ++ rest
      ≡ call_lines run lane number call ++ more
      → AreCounted (call_refusal run.contexts call) call rs bs
  counted (calls.Seal context item) fits pool rs bs has rest more same =
      let call = calls.Seal context item in
      let o = call_refusal run.contexts call in
      single o call refl (none_kept o call refl) rs bs (has.count ∙ alike (is_refused (slice_get rs 0)) 1) (has.guesses ∙ alike (is_refused (slice_get rs 0)) 0)
  counted (calls.Unseal context item) fits pool rs bs has rest more same =
      let call = calls.Unseal context item in
      let o = call_refusal run.contexts call in
      single o call refl (none_kept o call refl) rs bs (has.count ∙ alike (is_refused (slice_get rs 0)) 1) (has.guesses ∙ alike (is_refused (slice_get rs 0)) 0)
  counted (calls.UnsealAll context first count) fits pool rs bs has rest more same =
      opening (call_refusal run.contexts (calls.UnsealAll context first count)) context first count
      fits.1 pool rs bs has rest more same
  counted (calls.Export context exporter size) fits pool rs bs has rest more same =
      let call = calls.Export context exporter size in
      let o = call_refusal run.contexts call in
      single o call refl (none_kept o call refl) rs bs (has.count ∙ alike (is_refused (slice_get rs 0)) 1) (has.guesses ∙ alike (is_refused (slice_get rs 0)) 0)
  counted (calls.Add name) fits pool rs bs has rest more same =
      let call = calls.Add name in
      let o = call_refusal run.contexts call in
      single o call refl (none_kept o call refl) rs bs (has.count ∙ alike (is_refused (slice_get rs 0)) 1) (has.guesses ∙ alike (is_refused (slice_get rs 0)) 0)
  counted (calls.Retire name) fits pool rs bs has rest more same =
      let call = calls.Retire name in
      let o = call_refusal run.contexts call in
      single o call refl (none_kept o call refl) rs bs (has.count ∙ alike (is_refused (slice_get rs 0)) 1) (has.guesses ∙ alike (is_refused (slice_get rs 0)) 0)

  -- the lines of a call's own replies and guess are those that it is due
  record AreDue (call : CallLine) (pool : List ℕ) (rs : List Reply) (bs : List Batch)
      (rest more : List (List ℕ)) : Type 0 where
    replies : map (reply_line pool) rs ≡ reply_lines run lane number call
    all : map (reply_line pool) rs ++ map guess_line bs ≡ call_lines run lane number call
    behind : rest ≡ more

  are_due : (call : CallLine) → IsLine run.plan call
      → (pool : List ℕ) (rs : List Reply) (bs : List Batch) → HasReplies call rs bs
      → (rest more : List (List ℕ))
      → (map (reply_line pool) rs ++ map guess_line bs) ++ rest
      ≡ call_lines run lane number call ++ more
      → AreDue call pool rs bs rest more
  are_due call fits pool rs bs has rest more same =
      let o = call_refusal run.contexts call in
      let c = counted call fits pool rs bs has rest more same in
      let items = lines_unless o (item_lines run lane number call) in
      let lines = map (reply_line pool) rs in
      let guess = map guess_line bs in
      let many : length lines ≡ length items = length-map rs (reply_line pool) ∙ c.replies
      ∙ sym (replies_count run lane number o call refl) in
      let few : length guess ≡ length (kept o call) = length-map bs guess_line ∙ c.guesses in
      let both = parted o call in
      let long : length (lines ++ guess) ≡ length (call_lines run lane number call) =
      length-append lines guess ∙ (λ i. many i + few i) ∙ sym (length-append items (kept o call))
      ∙ sym (ap length both) in
      let parts = same_parts (lines ++ guess) (call_lines run lane number call) rest more long same in
      record {
        replies = (same_parts lines items guess (kept o call) many (parts.0 ∙ both)).0;
        all = parts.0;
        behind = parts.1;
      }

-- ---- replies that were given

given_one : (pool : List ℕ) (reply : Reply) → IsReply (reply_line pool reply)
    → is_given reply ≡ true
given_one pool Blank is =
    absurd (let e : 0 ≡ length is.one.body + 1 = ap length is.one.is
    ∙ length-append is.one.body (codes "\n") in omega arith)
given_one pool (Sealed number text) is = refl
given_one pool (Opened number text) is = refl
given_one pool (Failed number) is = refl
given_one pool Limit is = refl
given_one pool (Exported text) is = refl
given_one pool (Refused refusal) is = refl
given_one pool Added is = refl
given_one pool Retired is = refl

given_all : (pool : List ℕ) (rs : List Reply) → All IsReply (map (reply_line pool) rs)
    → filter is_given rs ≡ rs
given_all pool [] all = refl
given_all pool (r ∷ rs) all =
    let tail = map (reply_line pool) rs in
    ap (λ b. cond b (r ∷ filter is_given rs) (filter is_given rs))
    (given_one pool r (All-head IsReply (reply_line pool r) tail all))
    ∙ ap (λ l. r ∷ l) (given_all pool rs (All-tail IsReply (reply_line pool r) tail all))

-- ---- a call and those behind it

pub first_of : {X : Type 0} (xs ys : List X) → 0 < length xs → slice_get (xs ++ ys) 0 ≡ slice_get xs 0
first_of [] ys some = absurd (omega arith)
first_of (x ∷ xs) ys some = refl

calls_lines-first : (pool : List ℕ) (call : CallLine) (cs : List CallLine) (rs more : List Reply)
    (bs later : List Batch) → HasReplies call rs bs
    → calls_lines pool (call ∷ cs) (rs ++ more) (bs ++ later)
    ≡ (map (reply_line pool) rs ++ map guess_line bs) ++ calls_lines pool cs more later
calls_lines-first pool call cs rs more bs later has =
    ap (λ x. calls_lines pool (call ∷ cs) (x ++ more) (bs ++ later)) (sym (append-nil rs))
    ∙ ap (λ x. calls_lines pool (call ∷ cs) ((rs ++ []) ++ more) (x ++ later)) (sym (append-nil bs))
    ∙ calls_lines-append pool (call_and_more has none) cs more later
    ∙ ap (λ x. calls_lines pool (call ∷ []) x (bs ++ []) ++ calls_lines pool cs more later)
    (append-nil rs)
    ∙ ap (λ x. calls_lines pool (call ∷ []) rs x ++ calls_lines pool cs more later) (append-nil bs)
    ∙ ap (λ ls. ls ++ calls_lines pool cs more later) (calls_lines-one pool call rs bs has)

pub with_own-first : (own : ℕ → CallLine → Option Reply) (number : ℕ) (call : CallLine)
    (cs : List CallLine) (rs more : List Reply) (bs : List Batch) → HasReplies call rs bs
    → with_own own number (call ∷ cs) (rs ++ more)
    ≡ put_first (own number call) rs ++ with_own own (number + 1) cs more
with_own-first own number call cs rs more bs has =
    let count : reply_count call (slice_get (rs ++ more) 0) ≡ length rs =
    ap (reply_count call) (first_of rs more has.some) ∙ sym has.count in
    ap (λ n. put_first (own number call) (take n (rs ++ more))
    ++ with_own own (number + 1) cs (drop n (rs ++ more))) count
    ∙ (λ i. put_first (own number call) (take-append_seam rs more i)
    ++ with_own own (number + 1) cs (drop-append_seam rs more i))

-- the first call's replies and guesses, and those behind
pub record Uses (call : CallLine) (cs : List CallLine) (replies : List Reply) (guesses : List Batch)
    : Type 0 where
  pub own : List Reply
  pub more : List Reply
  pub kept : List Batch
  pub later : List Batch
  pub replies_are : replies ≡ own ++ more
  pub guesses_are : guesses ≡ kept ++ later
  pub has : HasReplies call own kept
  pub uses : UsesUp cs more later

pub uses_first : {call : CallLine} {cs : List CallLine} {replies : List Reply} {guesses : List Batch}
    → UsesUp (call ∷ cs) replies guesses → Uses call cs replies guesses
uses_first (call_and_more {call} {replies} {batches} {calls} {more} {guesses} has uses) = record {
  own = replies;
  more = more;
  kept = batches;
  later = guesses;
  replies_are = refl;
  guesses_are = refl;
  has = has;
  uses = uses;
}

-- ---- a call at its place has as many replies

placed_has : (plan : Plan) (call : CallLine) (rs : List Reply) (bs : List Batch)
    → HasReplies (at_position plan call) rs bs → HasReplies call rs bs
placed_has plan (calls.Seal context item) rs bs h =
    record { some = h.some; count = h.count; guesses = h.guesses }
placed_has plan (calls.Unseal context item) rs bs h =
    record { some = h.some; count = h.count; guesses = h.guesses }
placed_has plan (calls.UnsealAll context first count) rs bs h =
    record { some = h.some; count = h.count; guesses = h.guesses }
placed_has plan (calls.Export context exporter size) rs bs h =
    record { some = h.some; count = h.count; guesses = h.guesses }
placed_has plan (calls.Add name) rs bs h = h
placed_has plan (calls.Retire name) rs bs h = h

pub looked_has : (plan : Plan) (b : Bool) (call : CallLine) (rs : List Reply) (bs : List Batch)
    → HasReplies (if b then at_position plan call else call) rs bs → HasReplies call rs bs
looked_has plan true call rs bs h = placed_has plan call rs bs h
looked_has plan false call rs bs h = h

-- the calls of a lane use up what they use up as they are served
pub looked_uses : (plan : Plan) (notes : List Entry) (lane number : ℕ) (cs : List CallLine)
    (replies : List Reply) (guesses : List Batch)
    → UsesUp (numbered (looked_up plan notes lane) number cs) replies guesses
    → UsesUp cs replies guesses
looked_uses plan notes lane number [] replies guesses uses = uses
looked_uses plan notes lane number (call ∷ cs) replies guesses uses =
    let u = uses_first uses in
    let has : HasReplies call u.own u.kept = looked_has plan
    (nat_lt (context_of call) first_name || was_live notes (place lane number 0)) call u.own u.kept
    u.has in
    subst (λ rs. UsesUp (call ∷ cs) rs guesses) (sym u.replies_are)
    (subst (λ bs. UsesUp (call ∷ cs) (u.own ++ u.more) bs) (sym u.guesses_are)
    (call_and_more has (looked_uses plan notes lane (number + 1) cs u.more u.later u.uses)))

add_line_is : (pool : List ℕ) (reply : Option ContextReply)
    → reply_line pool (add_reply reply) ≡ add_line reply
add_line_is pool None = refl
add_line_is pool (Some contexts.Shared) = refl
add_line_is pool (Some (contexts.Sender enc)) = refl
add_line_is pool (Some contexts.Recipient) = refl
add_line_is pool (Some (contexts.Refused NoKey)) = refl
add_line_is pool (Some (contexts.Refused NeedSecret)) = refl
add_line_is pool (Some (contexts.Refused NoEnc)) = refl
add_line_is pool (Some (contexts.Refused EncSize)) = refl
add_line_is pool (Some (contexts.Refused PskPair)) = refl
add_line_is pool (Some (contexts.Refused PskExtra)) = refl
add_line_is pool (Some (contexts.Refused PskMissing)) = refl

add_given : (reply : Option ContextReply) → is_given (add_reply reply) ≡ true
add_given None = refl
add_given (Some contexts.Shared) = refl
add_given (Some (contexts.Sender enc)) = refl
add_given (Some contexts.Recipient) = refl
add_given (Some (contexts.Refused NoKey)) = refl
add_given (Some (contexts.Refused NeedSecret)) = refl
add_given (Some (contexts.Refused NoEnc)) = refl
add_given (Some (contexts.Refused EncSize)) = refl
add_given (Some (contexts.Refused PskPair)) = refl
add_given (Some (contexts.Refused PskExtra)) = refl
add_given (Some (contexts.Refused PskMissing)) = refl

retire_line_is : (pool : List ℕ) (live : Bool)
    → reply_line pool (retire_reply live) ≡ retire_line live
retire_line_is pool true = refl
retire_line_is pool false = refl

retire_given : (live : Bool) → is_given (retire_reply live) ≡ true
retire_given true = refl
retire_given false = refl

-- ---- the calls of a lane

module _ (live : LiveRun) (lane : ℕ) (pool : List ℕ) (within : IsWithinLimits (run_of live).plan)
    (legal : (context : ℕ) → Legal (asks_of (run_of live)) context (journal_of (run_of live) context))
  where
    abbrev run : Run
    run = run_of live

    abbrev look : ℕ → CallLine → CallLine
    look number call = looked_up live.plan live.notes lane number call

    abbrev own : ℕ → CallLine → Option Reply
    own number call = own_at live.plan live.replies live.notes lane number call

    -- the call's replies with its own, if it has one
    record Puts (number : ℕ) (call : CallLine) (rs : List Reply) (bs : List Batch) : Type 0 where
      has : HasReplies call (put_first (own number call) rs) bs
      given : filter is_given (put_first (own number call) rs) ≡ put_first (own number call) rs
      lines : map (reply_line pool) (put_first (own number call) rs) ++ map guess_line bs
          ≡ live_call_lines live lane number call

    -- the only reply gives way
    replaced : (number : ℕ) (call : CallLine) (reply : Reply) (rs : List Reply) (bs : List Batch)
        → own number call ≡ Some reply → is_given reply ≡ true
        → HasReplies call (reply ∷ []) [] → length rs ≡ 1 → length bs ≡ 0
        → reply_line pool reply ∷ [] ≡ live_call_lines live lane number call
        → Puts number call rs bs
    replaced number call reply rs bs mine given has one empty line =
        let r = one_in rs one in
        let put : put_first (own number call) rs ≡ reply ∷ [] =
        (λ i. put_first (mine i) (r.1 i)) in
        let no : bs ≡ [] = nothing_in bs empty in
        record {
          has = subst (λ bs. HasReplies call (put_first (own number call) rs) bs) (sym no)
              (subst (λ rs. HasReplies call rs []) (sym put) has);
          given = ap (filter is_given) put
              ∙ ap (λ b. cond b (reply ∷ []) []) given ∙ sym put;
          lines = (λ i. map (reply_line pool) (put i) ++ map guess_line (no i)) ∙ line;
        }

    stays : (number : ℕ) (call : CallLine) (rs : List Reply) (bs : List Batch)
        → own number call ≡ None → HasReplies call rs bs
        → All IsReply (map (reply_line pool) rs)
        → map (reply_line pool) rs ++ map guess_line bs ≡ live_call_lines live lane number call
        → Puts number call rs bs
    stays number call rs bs mine has all lines =
        let put : put_first (own number call) rs ≡ rs = ap (λ o. put_first o rs) mine in
        record {
          has = subst (λ rs. HasReplies call rs bs) (sym put) has;
          given = ap (filter is_given) put ∙ given_all pool rs all ∙ sym put;
          lines = ap (λ rs. map (reply_line pool) rs ++ map guess_line bs) put ∙ lines;
        }

    puts : (number : ℕ) (call : CallLine) (rs : List Reply) (bs : List Batch)
        → HasReplies call rs bs → All IsReply (map (reply_line pool) rs)
        → map (reply_line pool) rs ++ map guess_line bs ≡ call_lines run lane number (look number call)
        → Puts number call rs bs
    puts number (calls.Seal context item) rs bs has all lines =
        stays number (calls.Seal context item) rs bs refl has all lines
    puts number (calls.Unseal context item) rs bs has all lines =
        stays number (calls.Unseal context item) rs bs refl has all lines
    puts number (calls.UnsealAll context first count) rs bs has all lines =
        stays number (calls.UnsealAll context first count) rs bs refl has all lines
    puts number (calls.Export context exporter size) rs bs has all lines =
        stays number (calls.Export context exporter size) rs bs refl has all lines
    puts number (calls.Add name) rs bs has all lines =
        let x = slice_get live.replies (line_count live.plan + name) in
        replaced number (calls.Add name) (add_reply x) rs bs refl (add_given x)
        (HasReplies-one (calls.Add name) (add_reply x) refl) (has.count ∙ alike (is_refused (slice_get rs 0)) 1)
        (has.guesses ∙ alike (is_refused (slice_get rs 0)) 0)
        (ap (λ l. l ∷ []) (add_line_is pool x))
    puts number (calls.Retire name) rs bs has all lines =
        let x = was_live live.notes (place lane number 0) in
        replaced number (calls.Retire name) (retire_reply x) rs bs refl (retire_given x)
        (HasReplies-one (calls.Retire name) (retire_reply x) refl) (has.count ∙ alike (is_refused (slice_get rs 0)) 1)
        (has.guesses ∙ alike (is_refused (slice_get rs 0)) 0)
        (ap (λ l. l ∷ []) (retire_line_is pool x))

    own_lines_from : (number : ℕ) (cs : List CallLine) (replies : List Reply) (guesses : List Batch)
        → UsesUp (numbered look number cs) replies guesses
        → All (IsLine run.plan) (numbered look number cs)
        → drop number (calls_of run lane) ≡ numbered look number cs
        → calls_lines pool (numbered look number cs) replies guesses
        ≡ all_lines (numbered (call_lines run lane) number (numbered look number cs))
        → calls_lines pool cs (filter is_given (with_own own number cs replies)) guesses
        ≡ all_lines (numbered (live_call_lines live lane) number cs)
    own_lines_from number [] replies guesses uses fits at same = refl
    own_lines_from number (call ∷ cs) replies guesses uses fits at same =
        let c = look number call in
        let behind = numbered look (number + 1) cs in
        let u = uses_first uses in
        let is = drop_step (calls_of run lane) behind number c at in
        let fit = All-head (IsLine run.plan) c behind fits in
        let due = are_due run lane number c fit pool u.own u.kept u.has
        (calls_lines pool behind u.more u.later)
        (all_lines (numbered (call_lines run lane) (number + 1) behind))
        (sym (calls_lines-first pool c behind u.own u.more u.kept u.later u.has)
        ∙ (λ i. calls_lines pool (c ∷ behind) (sym u.replies_are i) (sym u.guesses_are i)) ∙ same) in
        let has : HasReplies call u.own u.kept = looked_has live.plan
        (nat_lt (context_of call) first_name || was_live live.notes (place lane number 0)) call u.own
        u.kept u.has in
        let p = puts number call u.own u.kept has
        (subst (All IsReply) (sym due.replies) (replies_are run within legal lane number c fit is.0))
        due.all in
        let rest = own_lines_from (number + 1) cs u.more u.later u.uses
        (All-tail (IsLine run.plan) c behind fits) is.1 due.behind in
        let mine = put_first (own number call) u.own in
        let theirs = with_own own (number + 1) cs u.more in
        let first : filter is_given (with_own own number (call ∷ cs) replies)
        ≡ mine ++ filter is_given theirs =
        ap (λ rs. filter is_given (with_own own number (call ∷ cs) rs)) u.replies_are
        ∙ ap (filter is_given) (with_own-first own number call cs u.own u.more u.kept has)
        ∙ filter-append is_given mine theirs
        ∙ ap (λ rs. rs ++ filter is_given theirs) p.given in
        (λ i. calls_lines pool (call ∷ cs) (first i) (u.guesses_are i))
        ∙ calls_lines-first pool call cs mine (filter is_given theirs) u.kept u.later p.has
        ∙ (λ i. p.lines i ++ rest i)

    -- the lines of a lane by its own replies
    pub own_lines : (cs : List CallLine) (replies : List Reply) (guesses : List Batch)
        → calls_of run lane ≡ numbered look 0 cs
        → UsesUp (calls_of run lane) replies guesses
        → All (IsLine run.plan) (calls_of run lane)
        → calls_lines pool (calls_of run lane) replies guesses
        ≡ all_lines (numbered (call_lines run lane) 0 (calls_of run lane))
        → calls_lines pool cs (filter is_given (with_own own 0 cs replies)) guesses
        ≡ all_lines (numbered (live_call_lines live lane) 0 cs)
    own_lines cs replies guesses is uses fits same =
        own_lines_from 0 cs replies guesses (subst (λ l. UsesUp l replies guesses) is uses)
        (subst (All (IsLine run.plan)) is fits) is
        (subst (λ l. calls_lines pool l replies guesses ≡ all_lines (numbered (call_lines run lane) 0 l))
        is same)
