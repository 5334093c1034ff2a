use Rattle.std.proofs.Common.{◌≡◌, ◌++◌, [], length, sym, subst, ap, ◌∙◌}
use Rattle.hkdf_labelled.specs.Hkdf.{expand}
use Rattle.hkdf_labelled.specs.Labels.{labeled_expand}
use Rattle.hkdf_labelled.specs.Macs.{IsKeyed}
use Rattle.hkdf_labelled.proofs.expanders.Expander.labeled_expand_into.Goals as goal

pub returns : goal.returns
returns c =
    let kdf = c.self.inside.kdf in
    let prk = c.self.inside.prk in
    let label = c.args.label.now in
    let info = c.args.info.now in
    let len = length c.args.out.now in
    let keyed = subst (λ mac. IsKeyed mac kdf prk []) (sym c.copy-keyed.ensures) c.self.invariant in
    let same_kdf : kdf ≡ c.args.suite.now.kdf = ap (λ e. e.kdf) c.self.view_is ∙ sym c.requires.kdf in
    c.expand_parts.ensures prk keyed
    ∙ (λ i. expand (same_kdf i) prk (c.expand_prefix-prefix.ensures i ++ c.suite_id.ensures i ++ label ++ info) len)
    ∙ ap (λ e. labeled_expand c.args.suite.now e.prk label info len) c.self.view_is
