-- Replies are lines other than `table`.
use Rattle.std.proofs.Common.{◌≡◌, ◌≢◌, ℕ, Bool, true, false, List, codes, Option, Some, None, get_or, sym, ap, ◌∙◌, refl, arith}
use Rattle.hpke_context.specs.Answers.{Answer, Sealed_at, Opened_at, Failed_at, At_limit}
use Rattle.batch_plans.specs.declared.replies.CallRefusal.{CallRefusal}
use Rattle.batch_plans.specs.declared.replies.CallRefusal.TheVariants as refusals
use Rattle.batch_plans.specs.declared.replies.ContextReply.{ContextReply}
use Rattle.batch_plans.specs.declared.replies.ContextReply.TheVariants as contexts
use Rattle.batch_plans.specs.declared.replies.ContextRefusal.TheVariants.{NoKey, NeedSecret, NoEnc, EncSize, PskPair, PskExtra, PskMissing}
use Rattle.batch_plans.specs.Lines.{exported_line, refused_line, added_line, retired_line}
use Rattle.context_books.specs.Live.{add_line, retire_line}
use Rattle.context_books.specs.Runs.{answer_line}
use Rattle.result_lines.specs.PrintedLive.{IsReply}
use Rattle.result_lines.proofs.PlainLines.{tested, answer_line_is, exported_line_is, refused_line_is}

-- a line that begins with another byte than `table`
other : (line : List ℕ) (first : ℕ) → get_or line 0 0 ≡ first → first ≢ 116 → line ≢ codes "table\n"
other line first is ne same = ne (sym is ∙ ap (λ (bytes : List ℕ). get_or bytes 0 0) same)

pub answer_reply : (answer : Answer) → IsReply (answer_line answer)
answer_reply (Sealed_at number ct) = record { one = answer_line_is (Sealed_at number ct); other = other (answer_line (Sealed_at number ct)) 115 refl (λ e. absurd (omega arith)) }
answer_reply (Opened_at number text) = record { one = answer_line_is (Opened_at number text); other = other (answer_line (Opened_at number text)) 111 refl (λ e. absurd (omega arith)) }
answer_reply (Failed_at number) = record { one = answer_line_is (Failed_at number); other = other (answer_line (Failed_at number)) 102 refl (λ e. absurd (omega arith)) }
answer_reply At_limit = record { one = answer_line_is At_limit; other = other (answer_line At_limit) 108 refl (λ e. absurd (omega arith)) }

pub exported_reply : (bytes : List ℕ) → IsReply (exported_line bytes)
exported_reply bytes = record { one = exported_line_is bytes; other = other (exported_line bytes) 101 refl (λ e. absurd (omega arith)) }

pub refused_reply : (refusal : CallRefusal) → IsReply (refused_line refusal)
refused_reply refusal = record { one = refused_line_is refusal; other = other (refused_line refusal) 114 refl (λ e. absurd (omega arith)) }

added_reply : IsReply added_line
added_reply = record {
  one = record { body = codes "added"; is = refl; one = tested (codes "added") refl };
  other = other added_line 97 refl (λ e. absurd (omega arith));
}

retired_reply : IsReply retired_line
retired_reply = record {
  one = record { body = codes "retired"; is = refl; one = tested (codes "retired") refl };
  other = other retired_line 114 refl (λ e. absurd (omega arith));
}

pub add_reply : (reply : Option ContextReply) → IsReply (add_line reply)
add_reply None = added_reply
add_reply (Some contexts.Shared) = added_reply
add_reply (Some (contexts.Sender enc)) = added_reply
add_reply (Some contexts.Recipient) = added_reply
add_reply (Some (contexts.Refused NoKey)) = added_reply
add_reply (Some (contexts.Refused NeedSecret)) = added_reply
add_reply (Some (contexts.Refused NoEnc)) = added_reply
add_reply (Some (contexts.Refused EncSize)) = added_reply
add_reply (Some (contexts.Refused PskPair)) = refused_reply refusals.PskPair
add_reply (Some (contexts.Refused PskExtra)) = refused_reply refusals.PskExtra
add_reply (Some (contexts.Refused PskMissing)) = refused_reply refusals.PskMissing

pub retire_reply : (live : Bool) → IsReply (retire_line live)
retire_reply true = retired_reply
retire_reply false = refused_reply refusals.NoContext
