-- The lines of a lane by its own replies, from those by the replies that stand for them.
use Rattle.std.proofs.Common.{◌≡◌, ◌+◌, ◌||◌, ℕ, Bool, true, false, List, [], ◌∷◌, ◌++◌, length, map, take, drop, Option, Some, None, sym, refl, ap, ◌∙◌, subst, arith, if◌then◌else◌, append_assoc, append-nil, length-append}
use Rattle.std.specs.Prelude.{nat_lt}
use Rattle.std.specs.List.{All}
use Rattle.std.proofs.lemmas.Bool.{ltb-false}
use Rattle.std.proofs.lemmas.List.{length-map}
use Rattle.std.proofs.lemmas.List.Elements.{All-head, All-tail}
use Rattle.std.proofs.Math.Seq.{take-append_seam, drop-append_seam}
use Rattle.call_places.specs.declared.entries.Entry.{Entry}
use Rattle.context_books.proofs.Blocks.{length-block}
use Rattle.context_books.specs.Batches.{place, block, lane_of}
use Rattle.context_books.specs.Guesses.{guess_at}
use Rattle.batch_plans.specs.declared.plan.CallLine.{CallLine}
use Rattle.batch_plans.specs.declared.plan.CallLine.TheVariants as calls
use Rattle.batch_plans.specs.declared.replies.Batch.{Batch}
use Rattle.batch_plans.specs.declared.replies.CallRefusal.{CallRefusal}
use Rattle.batch_plans.specs.declared.replies.CallRefusal.TheVariants.{NoContext}
use Rattle.batch_plans.specs.declared.replies.ContextReply.{ContextReply}
use Rattle.batch_plans.specs.declared.replies.Reply.{Reply}
use Rattle.batch_plans.specs.declared.replies.Reply.TheVariants.{Refused}
use Rattle.batch_plans.specs.Calls.{context_of}
use Rattle.batch_plans.specs.Limits.{first_name, items_of}
use Rattle.batch_plans.specs.Names.{at_position}
use Rattle.batch_plans.specs.Room.{served_batches, served_or}
use Rattle.batch_plans.specs.Lines.{batch_line, refused_line}
use Rattle.batch_plans.specs.AnswersText.{reply_line, guess_line, calls_lines, HasReplies}
use Rattle.batch_plans.specs.ReplyText.{numbered, all_lines}
use Rattle.batch_plans.specs.AnswersText.UsesUp.{none, call_and_more}
use Rattle.batch_plans.proofs.CallLines.{HasReplies-one, HasReplies-refused, calls_lines-append, calls_lines-one}
use Rattle.context_books.specs.Asks.{batch_of}
use Rattle.context_books.specs.Live.{was_live, looked_up, looked_up_plan, retire_line}
use Rattle.context_books.specs.Runs.{answer_line, lines_unless}
use Rattle.context_books.specs.Standing.{call_refusal}
use Rattle.context_books.proofs.Refusals.{added_refused, retired_refused}
use Rattle.lane_workers.specs.LiveLanes.{LiveView, standing, AreSharedLive, adding_line, AddsAre, AddsOneOf, Chunk, all_given, all_heard, all_guesses, add_refusal, add_reply, retire_reply, finds, own_reply, IsKept, IsHeardAs, AreHeard}
use Rattle.lane_workers.specs.LiveServed.{live_told_lines}
use Rattle.lane_workers.specs.Served.{Told, told_served, told_lines}
use Rattle.lane_workers.proofs.LiveShared.{far_refused}

-- ---- two lists of lines whose first parts are as long

same_parts : {X : Type 0} (xs ys more rest : List X) → length xs ≡ length ys
    → xs ++ more ≡ ys ++ rest → (xs ≡ ys) × (more ≡ rest)
same_parts xs ys more rest long same = (
  sym (take-append_seam xs more) ∙ (λ i. take (long i) (same i)) ∙ take-append_seam ys rest,
  sym (drop-append_seam xs more) ∙ (λ i. drop (long i) (same i)) ∙ drop-append_seam ys rest,
)

-- ---- the lines of a call and of those behind it

module _ (pool : List ℕ) where
  abbrev lines_of : List Reply → List Batch → List (List ℕ)
  lines_of replies guesses = map (reply_line pool) replies ++ map guess_line guesses

  length-lines_of : (replies : List Reply) (guesses : List Batch)
      → length (lines_of replies guesses) ≡ length replies + length guesses
  length-lines_of replies guesses =
      omega (
        arith,
        length-append (map (reply_line pool) replies) (map guess_line guesses),
        length-map replies (reply_line pool),
        length-map guesses guess_line,
      )

  calls_lines-first : (call : CallLine) (calls : List CallLine) (replies more : List Reply)
      (guesses kept : List Batch) → HasReplies call replies guesses
      → calls_lines pool (call ∷ calls) (replies ++ more) (guesses ++ kept)
      ≡ lines_of replies guesses ++ calls_lines pool calls more kept
  calls_lines-first call calls replies more guesses kept has =
      ap (λ rs. calls_lines pool (call ∷ calls) (rs ++ more) (guesses ++ kept))
      (sym (append-nil replies))
      ∙ ap (λ bs. calls_lines pool (call ∷ calls) ((replies ++ []) ++ more) (bs ++ kept))
      (sym (append-nil guesses))
      ∙ calls_lines-append pool (call_and_more has none) calls more kept
      ∙ ap (λ rs. calls_lines pool (call ∷ []) rs (guesses ++ []) ++ calls_lines pool calls more kept)
      (append-nil replies)
      ∙ ap (λ bs. calls_lines pool (call ∷ []) replies bs ++ calls_lines pool calls more kept)
      (append-nil guesses)
      ∙ ap (λ ls. ls ++ calls_lines pool calls more kept)
      (calls_lines-one pool call replies guesses has)

-- ---- a call at its place

module _ (v : LiveView) where
  placed_replies : (call : CallLine) (replies : List Reply) (guesses : List Batch)
      → HasReplies (at_position v.plan call) replies guesses → HasReplies call replies guesses
  placed_replies (calls.UnsealAll context first count) replies guesses has =
      record { some = has.some; count = has.count; guesses = has.guesses }
  placed_replies (calls.Add name) replies guesses has = has
  placed_replies (calls.Retire name) replies guesses has = has
  placed_replies call replies guesses has =
      record { some = has.some; count = has.count; guesses = has.guesses }

  placed_items : (call : CallLine)
      → items_of (at_position v.plan call) + served_batches (at_position v.plan call)
      ≡ items_of call + served_batches call
  placed_items (calls.Add name) = refl
  placed_items call = refl

module _ (v : LiveView) (notes : List Entry) (lane : ℕ) (told : Told) where
  abbrev looked : ℕ → CallLine → CallLine
  looked = looked_up v.plan notes lane

  abbrev told_of : ℕ → CallLine → List (List ℕ)
  told_of = told_lines (looked_up_plan v.plan notes) (standing v) told lane

  -- ---- how many lines a call has

  lines_served : (number : ℕ) (call : CallLine) (refusal : Option CallRefusal)
      → call_refusal (standing v) call ≡ refusal
      → length (lines_unless refusal
      (told_served (looked_up_plan v.plan notes) (standing v) told lane number call))
      ≡ served_or refusal (items_of call + served_batches call) 1
  lines_served number call (Some why) is = refl
  lines_served number (calls.UnsealAll context first count) None is =
      let asks = lane_of (batch_of (looked_up_plan v.plan notes) (standing v)) lane in
      let answers = map (λ p. answer_line (told.replies p)) (block lane number 0 count) in
      let guess = batch_line (guess_at asks told.guesses number) (guess_at asks told.misses number) in
      length-append answers (guess ∷ [])
      ∙ ap (λ n. n + 1) (length-map (block lane number 0 count) (λ p. answer_line (told.replies p))
      ∙ length-block lane number 0 count)
  lines_served number (calls.Add name) None is =
      absurd (let some = added_refused (standing v) name in cc)
  lines_served number (calls.Retire name) None is =
      absurd (let some = retired_refused (standing v) name in cc)
  lines_served number call None is = refl

  length-told : (number : ℕ) (call : CallLine) → length (told_of number call)
      ≡ served_or (call_refusal (standing v) call) (items_of call + served_batches call) 1
  length-told number call = lines_served number call (call_refusal (standing v) call) refl

-- ---- a call that its context answers, and one that none answers

none_else : (b : Bool) (reply : Reply) → (if b then None else Some reply) ≡ None → b ≡ true
none_else true reply is = refl
none_else false reply is = absurd (let some : Some reply ≡ None = is in cc)

pub some_else : (b : Bool) (mine reply : Reply) → (if b then None else Some mine) ≡ Some reply
    → (b ≡ false) × (reply ≡ mine)
some_else true mine reply is = absurd (let none : None ≡ Some reply = is in cc)
some_else false mine reply is =
    let same : Some mine ≡ Some reply = is in
    let mine_is : reply ≡ mine = cc in
    (refl, mine_is)

-- a name that isn't low isn't that of a context line
not_low : (low live : Bool) → (low || live) ≡ false → low ≡ false
not_low false live is = refl
not_low true live is = absurd (let yes : true ≡ false = is in cc)

retired_line_is : (pool : List ℕ) (live : Bool)
    → retire_line live ≡ reply_line pool (retire_reply live)
retired_line_is pool true = refl
retired_line_is pool false = refl

added_line_is : (pool : List ℕ) (refusal : Option CallRefusal)
    → adding_line refusal ≡ reply_line pool (add_reply refusal)
added_line_is pool None = refl
added_line_is pool (Some refusal) = refl

either_way : (b : Bool) (call : CallLine) → (if b then call else call) ≡ call
either_way true call = refl
either_way false call = refl

-- what a call's chunk has, and what its lines are once those that stand for them are known
record HasLines (v : LiveView) (replies : List ContextReply) (notes : List Entry) (lane : ℕ)
    (told : Told) (pool : List ℕ) (number : ℕ) (call : CallLine) (c : Chunk) : Type 0 where
  heard : HasReplies (looked_up v.plan notes lane number call) c.heard c.guesses
  given : HasReplies call c.given c.guesses
  count : length c.heard + length c.guesses
      ≡ length (told_of v notes lane told number (looked_up v.plan notes lane number call))
  lines : lines_of pool c.heard c.guesses
      ≡ told_of v notes lane told number (looked_up v.plan notes lane number call)
      → lines_of pool c.given c.guesses
      ≡ live_told_lines v.plan replies (standing v) notes told lane number call

module _ (v : LiveView) (shared : AreSharedLive v) (replies : List ContextReply)
    (adds : AddsAre v.plan replies) (notes : List Entry) (lane : ℕ) (told : Told)
    (pool : List ℕ) where
  abbrev look : ℕ → CallLine → CallLine
  look = looked_up v.plan notes lane

  abbrev told_at : ℕ → CallLine → List (List ℕ)
  told_at = told_of v notes lane told

  abbrev live_at : ℕ → CallLine → List (List ℕ)
  live_at = live_told_lines v.plan replies (standing v) notes told lane

  -- ---- where its context answers

  found : (number : ℕ) (call : CallLine)
      → (if finds notes lane number call then None else Some (Refused NoContext)) ≡ None
      → look number call ≡ at_position v.plan call
  found number call is = ap (λ b. if b then at_position v.plan call else call)
      (none_else (finds notes lane number call) (Refused NoContext) is)

  placed : (number : ℕ) (call : CallLine) → own_reply v.plan notes lane number call ≡ None
      → (look number call ≡ at_position v.plan call)
      × (live_at number call ≡ told_at number (look number call))
  placed number (calls.Add name) is =
      absurd (let some : Some (add_reply (add_refusal v.plan name)) ≡ None = is in cc)
  placed number (calls.Retire name) is =
      absurd (let some : Some (retire_reply (was_live notes (place lane number 0))) ≡ None = is in cc)
  placed number call is = (found number call is, refl)

  kept : (number : ℕ) (call : CallLine) (c : Chunk)
      → own_reply v.plan notes lane number call ≡ None → IsKept v call c
      → HasLines v replies notes lane told pool number call c
  kept number call c is t =
      let there = placed number call is in
      let at = at_position v.plan call in
      record {
        heard = subst (λ l. HasReplies l c.heard c.guesses) (sym there.0)
            (subst (λ rs. HasReplies at rs c.guesses) (sym t.heard) t.has);
        given = placed_replies v call c.given c.guesses t.has;
        count = ap (λ rs. length rs + length c.guesses) t.heard ∙ t.each
            ∙ ap (λ n. served_or (call_refusal (standing v) at) n 1) (sym (placed_items v call))
            ∙ sym (length-told v notes lane told number at)
            ∙ ap (λ l. length (told_at number l)) (sym there.0);
        lines = λ same. ap (λ rs. lines_of pool rs c.guesses) (sym t.heard) ∙ same ∙ sym there.1;
      }

  -- ---- where none answers

  -- the call is refused as one on a context that isn't there, and its line is that of its own reply
  record IsUnserved (number : ℕ) (call : CallLine) (reply : Reply) : Type 0 where
    has : HasReplies call (reply ∷ []) []
    refused : call_refusal (standing v) (look number call) ≡ Some NoContext
    line : live_at number call ≡ reply_line pool reply ∷ []

  refused_lines : (number : ℕ) (call : CallLine) → call_refusal (standing v) call ≡ Some NoContext
      → told_at number call ≡ refused_line NoContext ∷ []
  refused_lines number call is = ap (λ r. lines_unless r
      (told_served (looked_up_plan v.plan notes) (standing v) told lane number call)) is

  -- a call on a name that wasn't live
  module _ (number : ℕ) (call : CallLine) (reply : Reply)
      (is : (if finds notes lane number call then None else Some (Refused NoContext)) ≡ Some reply)
    where
      missed : (finds notes lane number call ≡ false) × (reply ≡ Refused NoContext)
      missed = some_else (finds notes lane number call) (Refused NoContext) reply is

      stays : look number call ≡ call
      stays = ap (λ b. if b then at_position v.plan call else call) missed.0

      far : call_refusal (standing v) call ≡ Some NoContext
      far = far_refused v shared call (ltb-false (context_of call) first_name
          (not_low (nat_lt (context_of call) first_name) (was_live notes (place lane number 0)) missed.0))

      lost : live_at number call ≡ told_at number (look number call) → IsUnserved number call reply
      lost same = record {
        has = subst (λ r. HasReplies call (r ∷ []) []) (sym missed.1) (HasReplies-refused call NoContext);
        refused = ap (call_refusal (standing v)) stays ∙ far;
        line = same ∙ ap (told_at number) stays ∙ refused_lines number call far
            ∙ ap (λ r. reply_line pool r ∷ []) (sym missed.1);
      }

  unserved : (number : ℕ) (call : CallLine) (reply : Reply) → AddsOneOf v.plan.added call
      → own_reply v.plan notes lane number call ≡ Some reply → IsUnserved number call reply
  unserved number (calls.Add name) reply one is =
      let some : Some (add_reply (add_refusal v.plan name)) ≡ Some reply = is in
      let same : add_reply (add_refusal v.plan name) ≡ reply = cc in
      record {
        has = HasReplies-one (calls.Add name) reply refl;
        refused = ap (call_refusal (standing v)) (either_way (finds notes lane number (calls.Add name))
            (calls.Add name)) ∙ added_refused (standing v) name;
        line = ap (λ l. l ∷ []) (adds name one ∙ added_line_is pool (add_refusal v.plan name))
            ∙ ap (λ r. reply_line pool r ∷ []) same;
      }
  unserved number (calls.Retire name) reply one is =
      let live = was_live notes (place lane number 0) in
      let some : Some (retire_reply live) ≡ Some reply = is in
      let same : retire_reply live ≡ reply = cc in
      record {
        has = HasReplies-one (calls.Retire name) reply refl;
        refused = ap (call_refusal (standing v))
            (either_way (finds notes lane number (calls.Retire name)) (calls.Retire name))
            ∙ retired_refused (standing v) name;
        line = ap (λ l. l ∷ []) (retired_line_is pool live) ∙ ap (λ r. reply_line pool r ∷ []) same;
      }
  unserved number call reply one is =
      lost number call reply is refl

  -- ---- either way

  chunk_lines : (number : ℕ) (call : CallLine) (c : Chunk) (own : Option Reply)
      → own_reply v.plan notes lane number call ≡ own → AddsOneOf v.plan.added call
      → IsHeardAs v call own c → HasLines v replies notes lane told pool number call c
  chunk_lines number call c None is one t = kept number call c is t
  chunk_lines number call c (Some reply) is one t =
      let u = unserved number call reply one is in
      let told_is = refused_lines number (look number call) u.refused in
      subst (HasLines v replies notes lane told pool number call) (sym t) (record {
        heard = HasReplies-refused (look number call) NoContext;
        given = u.has;
        count = ap length (sym told_is);
        lines = λ same. sym u.line;
      })

  -- ---- all calls

  pub live_lines : (number : ℕ) (calls : List CallLine) (chunks : List Chunk) (spare : List Batch)
      → All (AddsOneOf v.plan.added) calls → AreHeard v notes lane number calls chunks
      → calls_lines pool (numbered look number calls) (all_heard chunks) (all_guesses chunks)
      ≡ all_lines (numbered told_at number (numbered look number calls))
      → calls_lines pool calls (all_given chunks) (all_guesses chunks ++ spare)
      ≡ all_lines (numbered live_at number calls)
  live_lines number [] [] spare named heard same = refl
  live_lines number [] (c ∷ chunks) spare named heard same = absurd heard
  live_lines number (call ∷ calls) [] spare named heard same = absurd heard
  live_lines number (call ∷ calls) (c ∷ chunks) spare named heard same =
      let t = chunk_lines number call c (own_reply v.plan notes lane number call) refl
      (All-head (AddsOneOf v.plan.added) call calls named) heard.0 in
      let behind = numbered look (number + 1) calls in
      let parts = same_parts (lines_of pool c.heard c.guesses) (told_at number (look number call))
      (calls_lines pool behind (all_heard chunks) (all_guesses chunks))
      (all_lines (numbered told_at (number + 1) behind))
      (length-lines_of pool c.heard c.guesses ∙ t.count)
      (sym (calls_lines-first pool (look number call) behind c.heard (all_heard chunks) c.guesses
      (all_guesses chunks) t.heard) ∙ same) in
      ap (calls_lines pool (call ∷ calls) (c.given ++ all_given chunks))
      (append_assoc c.guesses (all_guesses chunks) spare)
      ∙ calls_lines-first pool call calls c.given (all_given chunks) c.guesses
      (all_guesses chunks ++ spare) t.given
      ∙ (λ i. t.lines parts.0 i ++ live_lines (number + 1) calls chunks spare
      (All-tail (AddsOneOf v.plan.added) call calls named) heard.1 parts.1 i)
