use Rattle.std.proofs.Common.{◌≡◌, ◌+◌, ◌++◌, length, take, drop}
use Rattle.byte_strings.specs.Bytes.{xor_bytes}
use Rattle.chacha20.proofs.adding.add_rest.Given as goal

abbrev pub invariant-loop-i : goal.invariant-loop-i
invariant-loop-i l = record {
  sum : take (l.at + l.i) l.text ≡ take l.at l.fn.text ++ xor_bytes (take l.i (drop l.at l.fn.text)) l.stream;
  left : drop (l.at + l.i) l.text ≡ drop (l.at + l.i) l.fn.text;
  size : length l.text ≡ length l.fn.text;
}
