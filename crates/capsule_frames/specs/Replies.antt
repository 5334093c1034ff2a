-- The reply to a batch of capsules: what one client and one gateway answer that do the lines one
-- after another, in the order of the text. It is a function of the plan.
use Rattle.std.specs.Prelude.{◌≡◌, ℕ, List, [], ◌∷◌, ◌++◌, length, Result, Ok, Err}
use Rattle.batch_plans.specs.declared.plan.Plan.{Plan}
use Rattle.batch_plans.specs.declared.replies.KeyReply.{KeyReply}
use Rattle.context_table.specs.SetUp.{IsKeySetUp}
use Rattle.capsule_frames.specs.declared.lines.CapsuleLine.{CapsuleLine}
use Rattle.capsule_frames.specs.declared.lines.CapsuleLine.TheVariants.{Ask, Answer, Take}
use Rattle.capsule_frames.specs.declared.lines.CapsulePlan.{CapsulePlan}
use Rattle.capsule_frames.specs.declared.replies.CapsuleRefusal.{CapsuleRefusal}
use Rattle.capsule_frames.specs.declared.replies.CapsuleReply.{CapsuleReply}
use Rattle.capsule_frames.specs.declared.replies.CapsuleReply.TheVariants.{Asked, Answered, Took, Refused}
use Rattle.capsule_frames.specs.Text.{capsules_text}
use Rattle.capsule_frames.specs.Results.{SentView, GivenView}
use Rattle.capsule_frames.specs.Lines.{sent, given, took}

-- ---- the reply to a line of each kind

abbrev pub asked_reply : Result SentView CapsuleRefusal → CapsuleReply
asked_reply (Ok sent) = Asked sent.request
asked_reply (Err refusal) = Refused refusal

abbrev pub answered_reply : Result GivenView CapsuleRefusal → CapsuleReply
answered_reply (Ok given) = Answered given.text given.response
answered_reply (Err refusal) = Refused refusal

abbrev pub took_reply : Result (List ℕ) CapsuleRefusal → CapsuleReply
took_reply (Ok text) = Took text
took_reply (Err refusal) = Refused refusal

-- ---- one line after another

-- what became of the asks and of the answers so far, each by its number
pub record Done : Type 0 where
  pub asks : List (Result SentView CapsuleRefusal)
  pub answers : List (Result GivenView CapsuleRefusal)

abbrev pub nothing_done : Done
nothing_done = record { asks = []; answers = [] }

-- the reply to a line, after these
abbrev pub reply_to : Plan → List KeyReply → Done → CapsuleLine → CapsuleReply
reply_to plan keys done (Ask key id kdf aead text) =
    asked_reply (sent plan keys (length done.asks) key id kdf aead text)
reply_to plan keys done (Answer key id request nonce text) =
    answered_reply (given plan keys done.asks key id request nonce text)
reply_to plan keys done (Take ask response) =
    took_reply (took plan done.asks done.answers ask response)

-- what is done with this line too
abbrev pub done_with : Plan → List KeyReply → Done → CapsuleLine → Done
done_with plan keys done (Ask key id kdf aead text) =
    let now = sent plan keys (length done.asks) key id kdf aead text in
    record done { asks = done.asks ++ now ∷ [] }
done_with plan keys done (Answer key id request nonce text) =
    let now = given plan keys done.asks key id request nonce text in
    record done { answers = done.answers ++ now ∷ [] }
done_with plan keys done (Take ask response) = done

abbrev pub replies_after : Plan → List KeyReply → Done → List CapsuleLine → List CapsuleReply
replies_after plan keys done [] = []
replies_after plan keys done (line ∷ lines) =
    reply_to plan keys done line ∷ replies_after plan keys (done_with plan keys done line) lines

-- the replies to all capsule lines, by the replies to the key lines
unfoldable pub due_replies : CapsulePlan → List KeyReply → List CapsuleReply
due_replies p keys = replies_after p.plan keys nothing_done p.lines

-- ---- the whole

-- the replies to the key lines and to the capsule lines. No plan has two lists of them, as the law
-- `one_reply` says
pub record AreReplies (p : CapsulePlan) (keys : List KeyReply) (replies : List CapsuleReply)
    : Type 0 where
  pub keys_are : IsKeySetUp p.plan keys
  pub replies_are : replies ≡ due_replies p keys

-- the text that is due
pub record IsCapsuleReply (p : CapsulePlan) (text : List ℕ) : Type 0 where
  pub keys : List KeyReply
  pub replies : List CapsuleReply
  pub are : AreReplies p keys replies
  pub text_is : text ≡ capsules_text keys replies
