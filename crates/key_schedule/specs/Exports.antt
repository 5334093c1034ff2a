-- Secrets that a context exports (RFC 9180, 5.3).
use Rattle.std.specs.Prelude.{ℕ, List, codes}
use Rattle.hkdf_labelled.specs.Labels.{labeled_expand}
use Rattle.hkdf_labelled.specs.declared.suites.Suite.{Suite}

-- Context.Export(exporter_context, L), with the context's exporter_secret, for L up to 255 Nh
abbrev pub exported : Suite → List ℕ → List ℕ → ℕ → List ℕ
exported suite exporter_secret exporter_context len =
    labeled_expand suite exporter_secret (codes "sec") exporter_context len
