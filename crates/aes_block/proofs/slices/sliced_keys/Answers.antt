use Rattle.std.proofs.Common.{◌/◌, bit_xor, replicate, ◌<◌, ◌^◌, ◌%◌, [], length, map, get_or, set, length-set, ap, ◌∙◌, arith}
use Rattle.std.proofs.lemmas.List.Edits.{fill_by_more}
use lib.Lanes.{zip2}
use Rattle.aes_block.specs.Cipher.{round_key}
use Rattle.aes_block.proofs.States.{key_lanes, key_register, keys_from, picked_lane}
use Rattle.aes_block.proofs.slices.sliced_keys.Goals as goal

pub loop-n-preserved : goal.loop-n-preserved
loop-n-preserved c =
    let n = c.loop-n.n in
    let keys = c.loop-n.keys in
    let within : n < length keys = omega arith in
    let is = c.spread.ensures ∙ ap (map (picked_lane (2 ^ (n % 8)) 255)) (c.known-key.ensures.same ∙ ap (λ x. zip2 bit_xor x (replicate 16 c.constant_of.result)) c.transposed-lanes.ensures
    ∙ ap (key_lanes (round_key c.args.w.now (n / 8))) c.constant_of.ensures) in
    record {
      size = length-set keys n c.spread.result ∙ c.loop-n.invariant.size;
      filled = λ m M. ap (λ x. get_or (set keys n x) m []) is ∙ fill_by_more (key_register c.args.w.now) keys n [] within c.loop-n.invariant.filled m M;
    }

pub returns : goal.returns
returns c =
    keys_from c.args.w.now c.loop-n.keys c.args.rounds c.requires.within (λ p. (c.type_inv.w p).fits)
    (λ m M. c.loop-n.invariant.filled m (omega arith))
