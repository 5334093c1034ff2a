use Rattle.std.proofs.Common.{[]}
use Rattle.serving_tests.proofs.stamped_lists_tests.stamps_rise_over_two_lists.Goals as goal

pub draw_stamps-second-requires-clause-lane : goal.draw_stamps-second-requires-clause-lane
draw_stamps-second-requires-clause-lane g c = (c.draw_stamps-first.ensures.after [] tt).note

pub draw_stamps-third-requires-clause-lane : goal.draw_stamps-third-requires-clause-lane
draw_stamps-third-requires-clause-lane g c = (c.draw_stamps-second.ensures.after [] tt).note
