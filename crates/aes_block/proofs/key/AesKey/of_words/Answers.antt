use Rattle.std.proofs.Common.{◌≡◌, ◌+◌, ◌-◌, ◌*◌, inl, inr, length, take, ap, sym, subst, ◌∙◌, arith}
use Rattle.aes_block.specs.Cipher.{expanded_key, round_count}
use Rattle.aes_block.specs.Sliced.{AreKeysOf}
use Rattle.aes_block.proofs.Expanding.{take-expanded_key}
use Rattle.aes_block.proofs.key.AesKey.of_words.Goals as goal

pub invariant_of-result : goal.invariant_of-result
invariant_of-result c =
    let key = c.args.key.now in
    let items = c.expanded-expanded.result.items in
    let words : 4 * (c.args.nk + 6 - 6) ≡ length key = omega arith in
    let front : take (4 * (c.args.nk + 6 - 6)) items ≡ key =
    ap (λ m. take m items) words ∙ ap (take (length key)) c.expanded-expanded.ensures.bytes ∙ take-expanded_key key in
    let rounds : c.args.nk + 6 ≡ round_count key = omega arith in (
      elim c.requires.size [ inl e ↦ inl (omega arith) | inr e ↦ inr (omega arith) ],
      omega arith,
      c.expanded-expanded.ensures.bytes ∙ ap expanded_key (sym front),
      rounds ∙ ap round_count (sym front),
      subst (λ w. AreKeysOf c.sliced_keys-sliced.result w (c.args.nk + 6)) c.as_slice.ensures.value c.sliced_keys-sliced.ensures,
    )

pub returns : goal.returns
returns c =
    let key = c.args.key.now in
    let words : 4 * (c.args.nk + 6 - 6) ≡ length key = omega arith in
    ap (λ m. take m c.expanded-expanded.result.items) words ∙ ap (take (length key)) c.expanded-expanded.ensures.bytes ∙ take-expanded_key key
