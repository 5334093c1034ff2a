-- What both batches make up.
use Rattle.std.proofs.Common.{◌≡◌, ℕ, false, List, [], ◌∷◌, length, Option, Some, None, refl, sym, ap, subst, ◌∙◌}
use Rattle.std.specs.List.{concat, range_with_len}
use Rattle.std.proofs.lemmas.List.{length-map}
use Rattle.std.proofs.lemmas.List.FromFn.{length-range_with_len}
use Rattle.std.proofs.lemmas.List.Concat.{concat_is}
use Rattle.std.proofs.lemmas.List.Folds.{flat_map-map}
use Rattle.sha2.specs.Sha256.{sha256}
use Rattle.hpke_context.specs.Contexts.{ContextView}
use Rattle.batch_plans.specs.declared.replies.KeyReply.{KeyReply}
use Rattle.batch_plans.specs.declared.replies.KeyReply.TheVariants.{Generated, Secret, Peer, Refused}
use Rattle.context_table.proofs.OneSetUp.{one_set_up_lem}
use Rattle.demo_runs.specs.SetUp.{set_up_plan}
use Rattle.demo_runs.specs.declared.report_lines.DemoReport.{DemoReport}
use Rattle.demo_runs.specs.Demo.{sealed_at, all_sealed, all_opened, none_opened, IsReportOf, IsDemo}
use Rattle.demo_runs.specs.Batches.{ciphertexts, is_generated, HasCiphertexts, IsSealed}

-- no ciphertexts without a generated key
pub none_found : (messages : ℕ) (keys : List KeyReply) (standing : List (Option ContextView)) → is_generated keys ≡ false
    → HasCiphertexts messages keys standing None
none_found messages [] standing e = refl
none_found messages (Generated public secret ∷ []) standing e = absurd cc
none_found messages (Generated public secret ∷ key ∷ keys) standing e = refl
none_found messages (Secret public ∷ keys) standing e = refl
none_found messages (Peer ∷ keys) standing e = refl
none_found messages (Refused refusal ∷ keys) standing e = refl

abbrev reported : ℕ → ℕ → List ℕ → DemoReport
reported messages opened hash = record { messages = messages; opened = opened; hash = hash }

-- a report without ciphertexts
none_reported : (messages : ℕ) (keys : List KeyReply) (standing : List (Option ContextView)) (report : DemoReport)
    → HasCiphertexts messages keys standing None → report ≡ none_opened messages → IsReportOf messages keys standing report
none_reported messages [] standing report h e = e
none_reported messages (Generated public secret ∷ []) standing report h e = absurd (let f : None ≡ Some (ciphertexts h.0 messages) = h.2 in cc)
none_reported messages (Generated public secret ∷ key ∷ keys) standing report h e = e
none_reported messages (Secret public ∷ keys) standing report h e = e
none_reported messages (Peer ∷ keys) standing report h e = e
none_reported messages (Refused refusal ∷ keys) standing report h e = e

pub demo_none : (seed messages : ℕ) (hash : List ℕ) → IsSealed seed messages None → hash ≡ sha256 []
    → IsDemo seed messages (reported messages 0 hash)
demo_none seed messages hash s is = record {
  keys = s.keys;
  contexts = s.contexts;
  standing = s.standing;
  set_up = s.set_up;
  report_is = none_reported messages s.keys s.standing (reported messages 0 hash) s.found_is (ap (reported messages 0) is);
}

-- and one with them
some_reported : (messages : ℕ) (keys : List KeyReply) (standing : List (Option ContextView)) (cts : List (List ℕ)) (report : DemoReport)
    → HasCiphertexts messages keys standing (Some cts)
    → ((context : ContextView) → cts ≡ ciphertexts context messages → report ≡ all_opened context messages)
    → IsReportOf messages keys standing report
some_reported messages [] standing cts report h e = absurd (let f : Some cts ≡ None = h in cc)
some_reported messages (Generated public secret ∷ []) standing cts report h e =
    (h.0, h.1, e h.0 (let f : Some cts ≡ Some (ciphertexts h.0 messages) = h.2 in cc))
some_reported messages (Generated public secret ∷ key ∷ keys) standing cts report h e = absurd (let f : Some cts ≡ None = h in cc)
some_reported messages (Secret public ∷ keys) standing cts report h e = absurd (let f : Some cts ≡ None = h in cc)
some_reported messages (Peer ∷ keys) standing cts report h e = absurd (let f : Some cts ≡ None = h in cc)
some_reported messages (Refused refusal ∷ keys) standing cts report h e = absurd (let f : Some cts ≡ None = h in cc)

pub length-ciphertexts : (context : ContextView) (messages : ℕ) → length (ciphertexts context messages) ≡ messages
length-ciphertexts context messages =
    length-map (range_with_len 0 messages) (sealed_at context) ∙ length-range_with_len 0 messages

joined_are : (context : ContextView) (messages : ℕ) → concat (ciphertexts context messages) ≡ all_sealed context messages
joined_are context messages =
    concat_is (ciphertexts context messages) ∙ flat_map-map (λ (x : List ℕ). x) (sealed_at context) (range_with_len 0 messages)

pub demo_some : (seed messages opened : ℕ) (hash : List ℕ) (cts : List (List ℕ)) → IsSealed seed messages (Some cts) → opened ≡ length cts
    → hash ≡ sha256 (concat cts) → IsDemo seed messages (reported messages opened hash)
demo_some seed messages opened hash cts s count is = record {
  keys = s.keys;
  contexts = s.contexts;
  standing = s.standing;
  set_up = s.set_up;
  report_is = some_reported messages s.keys s.standing cts (reported messages opened hash) s.found_is
      (λ context are.
      (λ i. reported messages
      ((count ∙ ap (λ (xs : List (List ℕ)). length xs) are ∙ length-ciphertexts context messages) i)
      ((is ∙ ap (λ (xs : List (List ℕ)). sha256 (concat xs)) are ∙ ap sha256 (joined_are context messages)) i)));
}

-- as many as there were messages
count_found : (messages : ℕ) (keys : List KeyReply) (standing : List (Option ContextView)) (cts : List (List ℕ))
    → HasCiphertexts messages keys standing (Some cts) → length cts ≡ messages
count_found messages [] standing cts h = absurd (let f : Some cts ≡ None = h in cc)
count_found messages (Generated public secret ∷ []) standing cts h =
    let e : cts ≡ ciphertexts h.0 messages = (let f : Some cts ≡ Some (ciphertexts h.0 messages) = h.2 in cc) in
    ap (λ (xs : List (List ℕ)). length xs) e ∙ length-ciphertexts h.0 messages
count_found messages (Generated public secret ∷ key ∷ keys) standing cts h = absurd (let f : Some cts ≡ None = h in cc)
count_found messages (Secret public ∷ keys) standing cts h = absurd (let f : Some cts ≡ None = h in cc)
count_found messages (Peer ∷ keys) standing cts h = absurd (let f : Some cts ≡ None = h in cc)
count_found messages (Refused refusal ∷ keys) standing cts h = absurd (let f : Some cts ≡ None = h in cc)

pub sealed_count : (seed messages : ℕ) (cts : List (List ℕ)) → IsSealed seed messages (Some cts) → length cts ≡ messages
sealed_count seed messages cts s = count_found messages s.keys s.standing cts s.found_is

-- ---- one report

one_of : (messages : ℕ) (keys : List KeyReply) (standing : List (Option ContextView)) (a b : DemoReport)
    → IsReportOf messages keys standing a → IsReportOf messages keys standing b → a ≡ b
one_of messages [] standing a b first second = first ∙ sym second
one_of messages (Generated public secret ∷ []) standing a b first second =
    let same : Some first.0 ≡ Some second.0 = sym first.1 ∙ second.1 in
    let context : first.0 ≡ second.0 = cc in
    first.2 ∙ ap (λ (c : ContextView). all_opened c messages) context ∙ sym second.2
one_of messages (Generated public secret ∷ key ∷ keys) standing a b first second = first ∙ sym second
one_of messages (Secret public ∷ keys) standing a b first second = first ∙ sym second
one_of messages (Peer ∷ keys) standing a b first second = first ∙ sym second
one_of messages (Refused refusal ∷ keys) standing a b first second = first ∙ sym second

pub one_report_lem : (seed messages : ℕ) (a b : DemoReport) → IsDemo seed messages a → IsDemo seed messages b → a ≡ b
one_report_lem seed messages a b first second =
    let same = one_set_up_lem (set_up_plan seed) first.keys second.keys first.contexts second.contexts first.standing second.standing
    first.set_up second.set_up in
    one_of messages second.keys second.standing a b
    (subst (λ (ks : List KeyReply). IsReportOf messages ks second.standing a) same.0
    (subst (λ (ss : List (Option ContextView)). IsReportOf messages first.keys ss a) same.2 first.report_is))
    second.report_is
