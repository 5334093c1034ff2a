use Rattle.capsule_frames.proofs.asks.sent_by.Goals as goal

pub returns-in-Of761 : goal.returns-in-Of761
returns-in-Of761 g c = rw c.in-Of761.is c.sent_to.ensures

pub returns-in-Of857 : goal.returns-in-Of857
returns-in-Of857 g c = rw c.in-Of857.is c.sent_to-in-Of857.ensures
