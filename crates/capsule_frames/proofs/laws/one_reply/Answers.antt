use Rattle.capsule_frames.proofs.OneReply.{one_reply_lem, one_text_lem}
use Rattle.capsule_frames.proofs.laws.one_reply.Goals as goal

pub returns-clause-replies : goal.returns-clause-replies
returns-clause-replies c = one_reply_lem c.one_key_set_up.ensures

pub returns-clause-text : goal.returns-clause-text
returns-clause-text c = one_text_lem c.one_key_set_up.ensures
