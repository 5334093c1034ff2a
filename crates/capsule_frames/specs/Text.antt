-- The reply to a batch of capsules, a format of this program's own. Bytes are lower-case hex digits,
-- `-` for none.
use Rattle.std.specs.Prelude.{ℕ, List, [], ◌++◌, map, codes}
use Rattle.std.specs.List.{concat}
use Rattle.field_text.specs.Printing.{hex_text}
use Rattle.batch_plans.specs.declared.replies.KeyReply.{KeyReply}
use Rattle.batch_plans.specs.ReplyText.{setup_text}
use Rattle.capsule_frames.specs.declared.replies.CapsuleRefusal.{CapsuleRefusal}
use Rattle.capsule_frames.specs.declared.replies.CapsuleRefusal.TheVariants as refusals
use Rattle.capsule_frames.specs.declared.replies.CapsuleReply.{CapsuleReply}
use Rattle.capsule_frames.specs.declared.replies.CapsuleReply.TheVariants.{Asked, Answered, Took, Refused}

-- why a capsule line is refused
abbrev pub refusal_word : CapsuleRefusal → List ℕ
refusal_word refusals.NoKey = codes "nokey"
refusal_word refusals.NeedSecret = codes "needsecret"
refusal_word refusals.NoAsk = codes "noask"
refusal_word refusals.NoAnswer = codes "noanswer"
refusal_word refusals.Short = codes "short"
refusal_word refusals.Header = codes "header"
refusal_word refusals.NonceSize = codes "noncesize"
refusal_word refusals.Failed = codes "failed"

-- `asked REQ`, `answered TEXT RESP`, `took TEXT` or `refused WORD`
abbrev pub capsule_words : CapsuleReply → List ℕ
capsule_words (Asked request) = codes "asked " ++ hex_text request
capsule_words (Answered text response) =
    codes "answered " ++ hex_text text ++ codes " " ++ hex_text response
capsule_words (Took text) = codes "took " ++ hex_text text
capsule_words (Refused refusal) = codes "refused " ++ refusal_word refusal

-- the line of a reply
abbrev pub capsule_line : CapsuleReply → List ℕ
capsule_line reply = capsule_words reply ++ codes "\n"

-- the replies to capsule lines in the order of the batch, and `end`
abbrev pub replies_text : List CapsuleReply → List ℕ
replies_text replies = concat (map capsule_line replies) ++ codes "end\n"

-- the whole reply: the replies to keys, each numbered, and those to capsule lines
abbrev pub capsules_text : List KeyReply → List CapsuleReply → List ℕ
capsules_text keys replies =
    codes "hpkebatch 2\n" ++ (setup_text keys [] ++ replies_text replies)
