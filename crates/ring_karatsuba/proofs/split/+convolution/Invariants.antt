use Rattle.std.proofs.Common.{length}
use Rattle.ring_karatsuba.proofs.split.+convolution.Given as goal

abbrev pub decreases-convolution : goal.decreases-convolution
decreases-convolution l = length l.small.now
