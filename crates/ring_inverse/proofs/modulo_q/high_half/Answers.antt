use Rattle.ring_inverse.proofs.HighHalves.{high_half_fits}
use Rattle.ring_inverse.proofs.modulo_q.high_half.Goals as goal

pub overflow_cast-result : goal.overflow_cast-result
overflow_cast-result c = high_half_fits _
