use Rattle.std.proofs.Common.{◌≡◌, ℕ, List, ◌<◌, ◌≤◌, ◌*◌, ◌+◌, ◌++◌, ◌∷◌, [], length, take, refl, sym, subst, ap, ◌∙◌, arith}
use Rattle.std.proofs.lemmas.List.{take_all}
use Rattle.hkdf_labelled.specs.Macs.{IsKeyed}
use Rattle.hkdf_labelled.specs.Suites.{hash_size}
use Rattle.hkdf_labelled.specs.Hmac.{hmac}
use Rattle.hkdf_labelled.specs.Hkdf.{output_block, output_blocks}
use Rattle.hkdf_labelled.proofs.Expanding.{output_block-more, take-more_blocks, expand_from_blocks, few_blocks}
use Rattle.hkdf_labelled.proofs.hkdf.expand_parts.Goals as goal

pub filling-init : goal.filling-init
unfolding output_block
filling-init c = record {
  done = λ prk keyed. refl;
  last = λ prk keyed. c.from_slice-previous.ensures;
  within = omega arith;
  whole = omega arith;
  few = omega arith;
}

pub filling-preserved : goal.filling-preserved
filling-preserved c =
    let kdf = c.args.kdf in
    let info = c.args.prefix.now ++ c.args.suite_id.now ++ c.args.label.now ++ c.args.info.now in
    let n = c.filling.counter in
    let whole = c.filling.invariant.whole in
    let copied_keyed : (prk : List ℕ) → IsKeyed c.args.keyed kdf prk [] → IsKeyed c.copy.result kdf prk [] =
    λ prk keyed. subst (λ mac. IsKeyed mac kdf prk []) (sym c.copy.ensures) keyed in
    let size : length c.next_block-previous.result ≡ hash_size kdf =
    c.next_block-previous.ensures.size kdf c.requires.keyed.0 (copied_keyed c.requires.keyed.0 c.requires.keyed.1) in
    let next : (prk : List ℕ) → IsKeyed c.args.keyed kdf prk [] → c.next_block-previous.result ≡ output_block kdf prk info (n + 1) =
    λ prk keyed.
    c.next_block-previous.ensures.value kdf prk (copied_keyed prk keyed)
    ∙ ap (λ previous. hmac kdf prk (previous ++ info ++ (n + 1) ∷ [])) (c.filling.invariant.last prk keyed)
    ∙ sym (output_block-more kdf prk info n) in
    let copied = c.copy_at-filled.result in
    let all : copied ≡ hash_size kdf = omega (arith, size, ap length c.as_slice.ensures, c.copy_at-filled.ensures.count) in
    let less : (n + 1) * hash_size kdf < 255 * hash_size kdf = omega arith in
    record {
      done = λ prk keyed.
          c.copy_at-filled.ensures.bytes
          ∙ ap (λ xs. xs ++ take copied c.as_slice.result.now) (c.filling.invariant.done prk keyed)
          ∙ ap (λ xs. take c.filling.filled (output_blocks kdf prk info n) ++ take copied xs) (c.as_slice.ensures ∙ next prk keyed)
          ∙ take-more_blocks kdf prk info n c.filling.filled copied whole;
      last = next;
      within = omega (arith, all);
      whole = omega (arith, all);
      few = few_blocks kdf (n + 1) less;
    }

pub returns : goal.returns
returns c = λ prk keyed.
    let kdf = c.args.kdf in
    let info = c.args.prefix.now ++ c.args.suite_id.now ++ c.args.label.now ++ c.args.info.now in
    let n = c.filling.counter in
    let filled = c.filling.filled in
    let len = length c.args.out.now in
    let size : length c.next_block-last.result ≡ hash_size kdf = c.next_block-last.ensures.size kdf prk keyed in
    let last : c.next_block-last.result ≡ output_block kdf prk info (n + 1) =
    c.next_block-last.ensures.value kdf prk keyed
    ∙ ap (λ previous. hmac kdf prk (previous ++ info ++ (n + 1) ∷ [])) (c.filling.invariant.last prk keyed)
    ∙ sym (output_block-more kdf prk info n) in
    let copied = c.copy_at.result in
    let full : filled + copied ≡ len = omega (arith, size, ap length c.as_slice-2.ensures, c.copy_at.ensures.count) in
    let all : length c.copy_at.new.out ≤ filled + copied = omega (arith, full) in
    let enough : len ≤ (n + 1) * hash_size kdf = omega arith in
    let few : n + 1 ≤ 255 = omega arith in
    sym (take_all (filled + copied) c.copy_at.new.out all)
    ∙ c.copy_at.ensures.bytes
    ∙ ap (λ xs. xs ++ take copied c.as_slice-2.result.now) (c.filling.invariant.done prk keyed)
    ∙ ap (λ xs. take filled (output_blocks kdf prk info n) ++ take copied xs) (c.as_slice-2.ensures ∙ last)
    ∙ take-more_blocks kdf prk info n filled copied c.filling.invariant.whole
    ∙ ap (λ m. take m (output_blocks kdf prk info (n + 1))) full
    ∙ expand_from_blocks kdf prk info len (n + 1) enough few
