use Rattle.ring_inverse.proofs.HighHalves.{high_halves_fit}
use Rattle.ring_inverse.proofs.modulo_q.high_halves.Goals as goal

pub overflow_cast-result-3 : goal.overflow_cast-result-3
overflow_cast-result-3 c = high_halves_fit 16 _
