use Rattle.std.proofs.Common.{◌≡◌, ℕ, List, ◌++◌, map, codes, ap, sym, ◌∙◌, append_assoc, append-nil}
use Rattle.std.specs.List.{concat}
use Rattle.field_text.proofs.Held.{Puts-same}
use Rattle.batch_plans.specs.declared.replies.KeyReply.{KeyReply}
use Rattle.batch_plans.specs.Lines.{key_line}
use Rattle.batch_plans.specs.ReplyText.{numbered}
use Rattle.reply_frames.proofs.Chains.{◌⨾◌}
use Rattle.capsule_frames.specs.declared.replies.CapsuleReply.{CapsuleReply}
use Rattle.capsule_frames.specs.Text.{capsule_line, capsules_text}
use Rattle.capsule_frames.proofs.printing.put_capsules.Goals as goal

regroup : (a b c d : List ℕ) → ((a ++ b) ++ c) ++ d ≡ a ++ (b ++ (c ++ d))
regroup a b c d = simp append_assoc

-- the parts of a reply, one behind the other
parts : (keys : List KeyReply) (replies : List CapsuleReply)
    → ((codes "hpkebatch 2\n" ++ concat (numbered key_line 0 keys)) ++ concat (map capsule_line replies))
    ++ codes "end\n" ≡ capsules_text keys replies
parts keys replies =
    let lines = numbered key_line 0 keys in
    let calls = concat (map capsule_line replies) in
    regroup (codes "hpkebatch 2\n") (concat lines) calls (codes "end\n")
    ∙ ap (λ (lines : List (List ℕ)). codes "hpkebatch 2\n" ++ (concat lines ++ (calls ++ codes "end\n")))
    (sym (append-nil lines))

pub returns : goal.returns
returns g c =
    let keys = ap (λ (keys : List KeyReply). concat (numbered key_line 0 keys)) c.as_slice.ensures.items in
    Puts-same (parts c.args.keys.now c.args.replies.now)
    (c.put_text.ensures ⨾ Puts-same keys c.put_keys.ensures ⨾ c.put_lines.ensures ⨾ c.put_text-2.ensures)
