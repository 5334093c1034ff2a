use Rattle.std.proofs.Common.{sym}
use Rattle.request_frames.specs.Drafts.{plan_of}
use Rattle.request_frames.proofs.Firsts.{first_is}
use Rattle.request_frames.proofs.draft.BatchDraft.with_call.Goals as goal

pub returns-in-UnsealAll-clause-read : goal.returns-in-UnsealAll-clause-read
returns-in-UnsealAll-clause-read c =
    rw c.in-UnsealAll.is (rw (sym (first_is c.args.names (plan_of c.args.self.now) c.args.fields.now)) c.with_several.ensures.read)
