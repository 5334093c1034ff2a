-- A plan has one list of replies, and one text.
use Rattle.std.proofs.Common.{◌≡◌, List, sym, ap, ◌∙◌}
use Rattle.batch_plans.specs.declared.replies.KeyReply.{KeyReply}
use Rattle.context_table.specs.Laws.{OneKeySetUp}
use Rattle.capsule_frames.specs.declared.replies.CapsuleReply.{CapsuleReply}
use Rattle.capsule_frames.specs.Text.{capsules_text}
use Rattle.capsule_frames.specs.Replies.{due_replies}
use Rattle.capsule_frames.specs.Laws.{OneReply, OneText}

pub one_reply_lem : OneKeySetUp → OneReply
one_reply_lem one p keys keys' replies replies' a b =
    let same : keys ≡ keys' = one p.plan keys keys' a.keys_are b.keys_are in
    (same, a.replies_are ∙ ap (due_replies p) same ∙ sym b.replies_are)

pub one_text_lem : OneKeySetUp → OneText
one_text_lem one p text text' a b =
    let same = one_reply_lem one p a.keys b.keys a.replies b.replies a.are b.are in
    a.text_is
    ∙ ap (λ (ks : List KeyReply). capsules_text ks a.replies) same.0
    ∙ ap (λ (rs : List CapsuleReply). capsules_text b.keys rs) same.1
    ∙ sym b.text_is
