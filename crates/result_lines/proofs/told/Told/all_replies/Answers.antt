use Rattle.std.proofs.lemmas.Result.{err_from_is_err_and}
use Rattle.result_lines.proofs.Taking.{replies_go_on, replies_stop}
use Rattle.result_lines.proofs.told.Told.all_replies.Goals as goal

pub returns-in_err-reply : goal.returns-in_err-reply
returns-in_err-reply c =
    let p = err_from_is_err_and c.from_residual.result c.from_residual.ensures.1 in
    rw (p.1, p.2) (replies_stop c.in_err-reply.field-0.0 c.args.count c.replies._reply c.replies.self _ c.replies-test.true c.in_err-reply.ensures c.replies.invariant)

pub replies-preserved : goal.replies-preserved
replies-preserved c =
    replies_go_on c.args.count c.replies._reply c.replies.self c.reply.new.self _ c.replies-test.true c.in_ok-reply.ensures c.replies.invariant
