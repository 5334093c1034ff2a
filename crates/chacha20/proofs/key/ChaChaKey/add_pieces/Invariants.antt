use Rattle.std.proofs.Common.{◌≡◌, ◌+◌, ◌-◌, ◌*◌, ◌++◌, length, take, drop}
use Rattle.chacha20.specs.Lanes.{encrypt_from, IsGroup}
use Rattle.chacha20.proofs.key.ChaChaKey.add_pieces.Given as goal

abbrev pub invariant-loop-k : goal.invariant-loop-k
invariant-loop-k l = record {
  size : length l.text ≡ length l.fn.text;
  last : IsGroup l.self l.nonce (l.i + l.k - 1) l.group;
  sum : take (16 * l.k) l.text ++ encrypt_from l.self l.nonce (l.i + l.k) (drop (16 * l.k) l.text) ≡ encrypt_from l.self l.nonce l.i l.fn.text;
}
