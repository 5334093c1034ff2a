use Rattle.std.proofs.Common.{◌≡◌, ◌-◌, ◌*◌, ◌∙◌, ap, sym, subst, arith}
use Rattle.byte_strings.specs.Bytes.{xor_bytes}
use Rattle.aes_block.specs.Cipher.{state_after, expanded_key, round_count, round_key, cipher_rounds, mix_columns, shift_rows, sub_bytes}
use Rattle.aes_block.specs.Sliced.{IsKeyOf, state_at, constant, constant_of}
use Rattle.aes_block.proofs.Expanding.{state_after-none, state_after-step}
use Rattle.aes_block.proofs.key.AesKey.encrypt_states.Goals as goal

pub add_key-state-requires-clause-key : goal.add_key-state-requires-clause-key
add_key-state-requires-clause-key c = (c.self.invariant.4 0 (omega arith) c.key_at.result c.key_at.ensures).registers

pub rounds-init : goal.rounds-init
rounds-init c = record {
  long = c.add_key-state.ensures.long;
  states = λ j J.
      let block = state_at c.args.start j in
      let w = expanded_key c.args.self.now in
      let same = c.self.invariant.2 ∙ ap expanded_key c.self.view_is in
      let is : IsKeyOf c.key_at.result 0 (round_key w 0) =
      subst (λ w. IsKeyOf c.key_at.result 0 (round_key w 0)) same (c.self.invariant.4 0 (omega arith) c.key_at.result c.key_at.ensures) in
      c.add_key-state.ensures.states (round_key w 0) is j J ∙ sym (state_after-none w block);
}

pub round-next-requires-clause-key : goal.round-next-requires-clause-key
round-next-requires-clause-key c = (c.self.invariant.4 c.rounds.i (omega arith) c.key_at-in-rounds.result c.key_at-in-rounds.ensures).registers

pub rounds-preserved : goal.rounds-preserved
rounds-preserved c = record {
  long = c.round-next.ensures.long;
  states = λ j J.
      let block = state_at c.args.start j in
      let w = expanded_key c.args.self.now in
      let n = c.rounds.i in
      let same = c.self.invariant.2 ∙ ap expanded_key c.self.view_is in
      let has : constant_of (8 * n) ≡ constant = omega arith in
      let is : IsKeyOf c.key_at-in-rounds.result constant (round_key w n) =
      subst (λ k. IsKeyOf c.key_at-in-rounds.result k (round_key w n)) has
      (subst (λ w. IsKeyOf c.key_at-in-rounds.result (constant_of (8 * n)) (round_key w n)) same (c.self.invariant.4 n (omega arith) c.key_at-in-rounds.result c.key_at-in-rounds.ensures)) in
      c.round-next.ensures.states (round_key w n) is j J
      ∙ ap (λ z. xor_bytes (mix_columns (shift_rows (sub_bytes z))) (round_key w n)) (c.rounds.invariant.states j J)
      ∙ sym (state_after-step w block n (omega arith));
}

pub last_round-requires-clause-key : goal.last_round-requires-clause-key
last_round-requires-clause-key c = (c.self.invariant.4 c.self.inside.rounds (omega arith) c.key_at-2.result c.key_at-2.ensures).registers

pub returns : goal.returns
unfolding cipher_rounds
returns c i I =
    let block = state_at c.args.start i in
    let w = expanded_key c.args.self.now in
    let nr = c.self.inside.rounds in
    let end : c.rounds.i ≡ nr = omega arith in
    let count : nr ≡ round_count c.args.self.now = c.self.invariant.3 ∙ ap round_count c.self.view_is in
    let same = c.self.invariant.2 ∙ ap expanded_key c.self.view_is in
    let has : constant_of (8 * nr) ≡ constant = omega arith in
    let is : IsKeyOf c.key_at-2.result constant (round_key w nr) =
    subst (λ k. IsKeyOf c.key_at-2.result k (round_key w nr)) has
    (subst (λ w. IsKeyOf c.key_at-2.result (constant_of (8 * nr)) (round_key w nr)) same (c.self.invariant.4 nr (omega arith) c.key_at-2.result c.key_at-2.ensures)) in
    c.unsliced.ensures i I ∙ c.last_round.ensures.states (round_key w nr) is i I
    ∙ ap (λ z. xor_bytes (shift_rows (sub_bytes z)) (round_key w nr)) (c.rounds.invariant.states i I)
    ∙ ap (λ n. xor_bytes (shift_rows (sub_bytes (state_after w block (n - 1)))) (round_key w nr)) end
    ∙ ap (λ n. cipher_rounds w n block) count
