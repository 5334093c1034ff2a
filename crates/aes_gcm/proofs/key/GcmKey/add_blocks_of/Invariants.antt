use Rattle.std.proofs.Common.{◌≡◌, ◌+◌, ◌*◌, ◌++◌, length, take, drop}
use Rattle.aes_gcm.specs.Gcm.{gctr_from, gctr}
use Rattle.aes_gcm.specs.Groups.{IsGroup}
use Rattle.aes_gcm.proofs.key.GcmKey.add_blocks_of.Given as goal

abbrev pub invariant-loop-k : goal.invariant-loop-k
invariant-loop-k l = record {
  size : length l.text ≡ length l.fn.text;
  last : IsGroup l.self l.nonce l.k l.group;
  sum : take (16 * l.k) l.text ++ gctr_from l.self l.nonce (l.k + 1) (drop (16 * l.k) l.text) ≡ gctr l.self l.nonce l.fn.text;
}
