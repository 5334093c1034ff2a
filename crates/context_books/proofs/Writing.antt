-- What is written, reply by reply.
use Rattle.std.proofs.Common.{◌≡◌, ◌≤◌, ◌<◌, ◌+◌, ℕ, false, List, [], ◌∷◌, ◌++◌, length, take, drop, Some, sym, ap, ◌∙◌, subst, arith, append_assoc, length-append}
use Rattle.std.specs.List.{All, refill}
use Rattle.std.proofs.lemmas.List.{take-take, map-append, take-append-le, take_all}
use Rattle.std.proofs.lemmas.List.Elements.{All-append, All-weaker, All-nil, All-cons}
use Rattle.batch_plans.specs.declared.replies.Reply.{Reply}
use Rattle.batch_plans.specs.declared.replies.Reply.TheVariants.{Blank, Sealed, Opened, Failed, Limit, Exported, Refused, Added, Retired}
use Rattle.batch_plans.specs.Replies.{IsInRange}
use Rattle.batch_plans.specs.Progress.{Progress, with_room, with_pool, with_reply}
use Rattle.batch_plans.specs.AnswersText.{reply_line, is_refused}
use Rattle.batch_plans.proofs.Pools.{reply_lines-same}
use Rattle.context_books.specs.Writing.{PutsReplies, WritesReply}

abbrev IsNoRefusal : Reply → Type 0
IsNoRefusal reply = is_refused (Some reply) ≡ false

-- a span in less room lies in more
in_more : (size more : ℕ) (reply : Reply) → size ≤ more → IsInRange size reply
    → IsInRange more reply
in_more size more Blank fits range = tt
in_more size more (Sealed number text) fits range = omega arith
in_more size more (Opened number text) fits range = omega arith
in_more size more (Failed number) fits range = tt
in_more size more Limit fits range = tt
in_more size more (Exported text) fits range = omega arith
in_more size more (Refused refusal) fits range = tt
in_more size more Added fits range = tt
in_more size more Retired fits range = tt

pub all_in_more : (size more : ℕ) (replies : List Reply) → size ≤ more
    → All (IsInRange size) replies → All (IsInRange more) replies
all_in_more size more replies fits all =
    All-weaker (IsInRange size) (IsInRange more) (λ r. in_more size more r fits) replies all

-- a list of the same length put over another
pub refill_is : {X : Type 0} (n : ℕ) (xs ws : List X) → length ws ≡ n → refill n xs ws ≡ ws
refill_is n xs ws size =
    take-append-le n ws (drop (length ws) xs) (omega arith) ∙ take_all n ws (omega arith)

-- room is taken, and written over by what makes the line of a reply
pub writes : (old one : Progress) (size start : ℕ) (lent made : List ℕ) (reply : Reply)
    (line : List ℕ) → one ≡ with_room old size → lent ≡ one.pool → length made ≡ length lent
    → start ≡ old.taken → take start made ≡ take start lent → reply_line made reply ≡ line
    → is_refused (Some reply) ≡ false → IsInRange (old.taken + size) reply
    → WritesReply old (with_pool one made) size reply line
writes old one size start lent made reply line one_is lent_is count start_is kept line_is served
    range =
    let pool_is : lent ≡ old.pool = lent_is ∙ ap (λ (p : Progress). p.pool) one_is in
    let taken : one.taken ≡ old.taken + size = ap (λ (p : Progress). p.taken) one_is in
    let whole : refill (length one.pool) one.pool made ≡ made =
    refill_is (length one.pool) one.pool made (count ∙ ap length lent_is) in
    record {
      line_is = ap (λ pool. reply_line pool reply) whole ∙ line_is;
      served = served;
      taken = taken;
      range = subst (λ n. IsInRange n reply) (sym taken) range;
      pool = ap length whole ∙ count ∙ ap length pool_is;
      kept = ap (take old.taken) whole
          ∙ subst (λ n. take n made ≡ take n lent) start_is kept
          ∙ ap (take old.taken) pool_is;
      replies = ap (λ (p : Progress). p.replies) one_is;
      left = ap (λ (p : Progress). p.left) one_is;
      batches = ap (λ (p : Progress). p.batches) one_is;
      batches_left = ap (λ (p : Progress). p.batches_left) one_is;
    }

-- a reply is written, and then it is put
pub puts_one : (old mid new : Progress) (size : ℕ) (reply : Reply) (line : List ℕ)
    → WritesReply old mid size reply line
    → new ≡ with_reply mid reply → 0 < mid.left → PutsReplies old new size (line ∷ [])
puts_one old mid new size reply line t is some =
    subst (λ (p : Progress). PutsReplies old p size (line ∷ [])) (sym is) (record {
      more = reply ∷ [];
      replies = ap (λ replies. replies ++ reply ∷ []) t.replies;
      left = omega (arith, t.left);
      lines_are = ap (λ l. l ∷ []) t.line_is;
      served = All-cons IsNoRefusal reply [] t.served (All-nil IsNoRefusal);
      taken = t.taken;
      range = All-cons (IsInRange mid.taken) reply [] t.range (All-nil (IsInRange mid.taken));
      pool = t.pool;
      kept = t.kept;
      batches = t.batches;
      batches_left = t.batches_left;
    })

-- what is written behind something changes nothing of it
pub puts_more : (old mid new : Progress) (size more : ℕ) (lines others : List (List ℕ))
    → PutsReplies old mid size lines → PutsReplies mid new more others
    → PutsReplies old new (size + more) (lines ++ others)
puts_more old mid new size more lines others a b =
    let first = all_in_more mid.taken new.taken a.more (omega (arith, b.taken)) a.range in
    let old_in_mid : old.taken ≤ mid.taken = omega (arith, a.taken) in
    record {
      more = a.more ++ b.more;
      replies = b.replies ∙ ap (λ replies. replies ++ b.more) a.replies
          ∙ append_assoc old.replies a.more b.more;
      left = omega (arith, a.left, b.left, length-append lines others);
      lines_are = map-append (reply_line new.pool) a.more b.more
          ∙ (λ i. (reply_lines-same mid.taken new.pool mid.pool b.kept a.more a.range
          ∙ a.lines_are) i ++ b.lines_are i);
      served = All-append IsNoRefusal a.more b.more a.served b.served;
      taken = omega (arith, a.taken, b.taken);
      range = All-append (IsInRange new.taken) a.more b.more first b.range;
      pool = b.pool ∙ a.pool;
      kept = sym (take-take old.taken mid.taken new.pool old_in_mid) ∙ ap (take old.taken) b.kept
          ∙ take-take old.taken mid.taken mid.pool old_in_mid ∙ a.kept;
      batches = b.batches ∙ a.batches;
      batches_left = b.batches_left ∙ a.batches_left;
    }
