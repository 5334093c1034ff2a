-- ---- for the proofs: the replies of calls that no context answers, of lines that add and retire contexts.
use Rattle.std.specs.Prelude.{ℕ, ◌+◌, Bool, true, false, List, [], ◌∷◌, ◌++◌, take, drop, slice_get, slice_set, Option, Some, None}
use Rattle.call_places.specs.declared.entries.Entry.{Entry}
use Rattle.context_books.specs.Batches.{place}
use Rattle.batch_plans.specs.declared.plan.Plan.{Plan}
use Rattle.batch_plans.specs.declared.plan.CallLine.{CallLine}
use Rattle.batch_plans.specs.declared.plan.CallLine.TheVariants as calls
use Rattle.batch_plans.specs.declared.replies.CallRefusal.TheVariants as refusals
use Rattle.batch_plans.specs.declared.replies.ContextRefusal.TheVariants as set_ups
use Rattle.batch_plans.specs.declared.replies.ContextReply.{ContextReply}
use Rattle.batch_plans.specs.declared.replies.ContextReply.TheVariants as contexts
use Rattle.batch_plans.specs.declared.replies.Reply.{Reply}
use Rattle.batch_plans.specs.declared.replies.Reply.TheVariants as replies
use Rattle.batch_plans.specs.declared.replies.LaneAnswers.{LaneAnswers}
use Rattle.batch_plans.specs.Names.{line_count}
use Rattle.batch_plans.specs.AnswersText.{reply_count}
use Rattle.context_books.specs.Live.{was_live}

-- a context is added, or its psk inputs are at fault (RFC 9180, 5.1, VerifyPSKInputs)
abbrev pub add_reply : Option ContextReply → Reply
add_reply (Some (contexts.Refused set_ups.PskPair)) = replies.Refused refusals.PskPair
add_reply (Some (contexts.Refused set_ups.PskExtra)) = replies.Refused refusals.PskExtra
add_reply (Some (contexts.Refused set_ups.PskMissing)) = replies.Refused refusals.PskMissing
add_reply other = replies.Added

-- a name is retired where it was live
abbrev pub retire_reply : Bool → Reply
retire_reply true = replies.Retired
retire_reply false = replies.Refused refusals.NoContext

abbrev pub own_reply : Plan → List ContextReply → Bool → CallLine → Option Reply
own_reply plan adds live (calls.Seal context item) = None
own_reply plan adds live (calls.Unseal context item) = None
own_reply plan adds live (calls.UnsealAll context first count) = None
own_reply plan adds live (calls.Export context exporter size) = None
own_reply plan adds live (calls.Add name) =
    Some (add_reply (slice_get adds (line_count plan + name)))
own_reply plan adds live (calls.Retire name) = Some (retire_reply live)

-- where these are the notes of the table
abbrev pub own_at : Plan → List ContextReply → List Entry → ℕ → ℕ → CallLine → Option Reply
own_at plan adds notes lane number call =
    own_reply plan adds (was_live notes (place lane number 0)) call

-- ---- in the place of the replies that stand for them

abbrev pub put_first : Option Reply → List Reply → List Reply
put_first None replies = replies
put_first (Some own) [] = []
put_first (Some own) (reply ∷ replies) = own ∷ replies

-- the same of one that stands among others
abbrev pub put_at : Option Reply → ℕ → List Reply → List Reply
put_at None at replies = replies
put_at (Some own) at replies = slice_set replies at own

-- the replies of a lane's calls, from this number on
abbrev pub with_own : (ℕ → CallLine → Option Reply) → ℕ → List CallLine → List Reply → List Reply
with_own own number [] given = given
with_own own number (call ∷ calls) given =
    let count = reply_count call (slice_get given 0) in
    put_first (own number call) (take count given)
    ++ with_own own (number + 1) calls (drop count given)

-- the answers of a lane
abbrev pub with_own_replies : Plan → List ContextReply → List Entry → ℕ → List CallLine → LaneAnswers
    → LaneAnswers
with_own_replies plan adds notes lane calls answers =
    record answers { replies = with_own (own_at plan adds notes lane) 0 calls answers.replies }
