use Rattle.std.proofs.Common.{◌≡◌, ◌<◌, ◌≤◌, ◌-◌, ◌*◌, ◌++◌, ℕ, List, [], length, take}
use Rattle.hkdf_labelled.specs.Hkdf.{output_block, output_blocks}
use Rattle.hkdf_labelled.specs.Macs.{IsKeyed}
use Rattle.hkdf_labelled.specs.Suites.{hash_size}
use Rattle.hkdf_labelled.proofs.hkdf.expand_parts.Given as goal

abbrev pub invariant-filling : goal.invariant-filling
invariant-filling l = record {
  done : (prk : List ℕ) → IsKeyed l.fn.keyed l.fn.kdf prk []
      → take l.filled l.out ≡ take l.filled (output_blocks l.fn.kdf prk (l.prefix ++ l.suite_id ++ l.label ++ l.info) l.counter);
  last : (prk : List ℕ) → IsKeyed l.fn.keyed l.fn.kdf prk []
      → l.previous ≡ output_block l.fn.kdf prk (l.prefix ++ l.suite_id ++ l.label ++ l.info) l.counter;
  within : l.filled ≤ length l.out;
  whole : l.filled ≡ l.counter * hash_size l.fn.kdf;
  few : l.counter < 255;
}

abbrev pub decreases-filling : goal.decreases-filling
decreases-filling l = length l.initial.out - l.filled
