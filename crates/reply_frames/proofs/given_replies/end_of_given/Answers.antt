use Rattle.std.proofs.Common.{◌≡◌, ◌-◌, suc, sym, ◌∙◌, refl, arith}
use Rattle.reply_frames.proofs.GivenLines.{passed-blank, passed-given}
use Rattle.reply_frames.proofs.given_replies.end_of_given.Goals as goal
use Rattle.reply_frames.proofs.given_replies.end_of_given.Goals.{then-is_given, else-is_given}

pub replies-preserved : goal.replies-preserved
replies-preserved c =
    let lt = c.if-next-replies.true in
    let before = c.replies.invariant in
    elim c.if-is_given.branch [
      | then-is_given w ↦
          let more : c.replies.left ≡ suc (c.replies.left - 1) = omega (arith, c.replies-test.true) in
          rw w.left-is (passed-given _ _ _ _ _ _ _ lt refl (sym c.is_given.ensures ∙ w.if-is_given.true) more before)
      | else-is_given w ↦
          rw w.left-is (passed-blank _ _ _ _ _ _ lt refl (sym c.is_given.ensures ∙ w.if-is_given.false) before)
    ]
