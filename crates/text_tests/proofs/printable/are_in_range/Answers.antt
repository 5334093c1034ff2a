use Rattle.std.proofs.Common.{length, rules}
use Rattle.std.proofs.lemmas.List.{take_all}
use Rattle.std.proofs.lemmas.List.Elements.{All-more}
use Rattle.batch_plans.specs.declared.replies.Reply.TheVariants.{Blank}
use Rattle.batch_plans.specs.Replies.{IsInRange}
use Rattle.text_tests.proofs.printable.are_in_range.Goals as goal

pub replies-preserved : goal.replies-preserved
replies-preserved c =
    All-more (IsInRange (length c.args.pool.now)) c.args.replies.now c.replies.reply-index Blank
    c.replies-test.true c.replies.invariant (c.is_in_range.ensures (search rules))

pub returns : goal.returns
returns c =
    let all = take_all c.replies.reply-index c.args.replies.now c.replies-test.false in
    λ _. rw (← all) c.replies.invariant
