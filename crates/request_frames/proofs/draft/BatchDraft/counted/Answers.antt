use Rattle.request_frames.specs.Drafts.{plan_of}
use Rattle.request_frames.proofs.Lanes.{gives_counted}
use Rattle.request_frames.proofs.draft.BatchDraft.counted.Goals as goal

pub returns-clause-read : goal.returns-clause-read
returns-clause-read c = gives_counted (plan_of c.args.self.now) c.args.call _ c.push.result c.push.ensures.read
