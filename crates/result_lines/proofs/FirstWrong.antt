-- The verdict that is computed is the first thing that is wrong, and there is no other one.
use Rattle.std.proofs.Common.{◌≡◌, ◌↔◌, ℕ, Bool, true, false, List, length, Option, Some, None, Result, Ok, Err, refl, sym, ap, ◌∙◌, subst}
use Rattle.hpke_context.specs.Contexts.{ContextView}
use Rattle.batch_plans.specs.Within.{IsWithinLimits}
use Rattle.batch_plans.specs.declared.plan.Plan.{Plan}
use Rattle.batch_plans.specs.declared.replies.KeyReply.{KeyReply}
use Rattle.batch_plans.specs.declared.replies.ContextReply.{ContextReply}
use Rattle.batch_plans.specs.ReplyText.{has_stamps}
use Rattle.context_books.specs.Runs.{Run, LegalFor, asks_of}
use Rattle.result_lines.specs.declared.verdicts.Verdict.{Verdict}
use Rattle.result_lines.specs.declared.verdicts.Verdict.TheVariants as verdicts
use Rattle.result_lines.specs.Computed.{by_guess, by_reply, by_stamps, by_journal, verdict_on, by_form}
use Rattle.result_lines.specs.Guesses.{wrong_guesses}
use Rattle.result_lines.specs.Journals.{broken_journal, is_one_history}
use Rattle.result_lines.specs.Replies.{all_replies, wrong_reply}
use Rattle.result_lines.specs.Told.{ToldView, told_by}
use Rattle.result_lines.specs.Verdicts.{run_told, IsVerdictOn, IsVerdictBy}
use Rattle.result_lines.proofs.LegalJournals.{first_iff, are_journals, legal_one, passed_legal}
use Rattle.result_lines.proofs.Took.{told_took}

-- a test, where it decides
pub fails : (test : Bool) → (test ≡ true → ⊥) → test ≡ false
fails true not_true = absurd (not_true refl)
fails false not_true = refl

pub passes : (test : Bool) → test ≡ false → test ≡ true → ⊥
passes test is_false is = let clash : true ≡ false = sym is ∙ is_false in cc

module _ (plan : Plan) (contexts : List (Option ContextView)) (told : ToldView) (within : IsWithinLimits plan) (standing : length contexts ≡ length told.journals) where
  abbrev run : Run
  run = run_told plan contexts told

  abbrev stamps : Bool
  stamps = has_stamps plan.version

  abbrev journal : Option ℕ
  journal = broken_journal stamps (asks_of run) 0 told.journals

  abbrev one : Bool
  one = is_one_history stamps (asks_of run) told.journals

  abbrev reply : Option ℕ
  reply = wrong_reply told.replies (all_replies run)

  abbrev guess : Option ℕ
  guess = wrong_guesses run 0 told.lanes

  abbrev computed : Option ℕ → Bool → Option ℕ → Option ℕ → Verdict
  computed j b r g = by_journal j (by_stamps b (by_reply r (by_guess g)))

  abbrev AreLegal : Type 0
  AreLegal = LegalFor stamps (asks_of run) told.journals

  legal : journal ≡ None → one ≡ true → AreLegal
  legal none is = passed_legal plan contexts within stamps told.journals standing ((first_iff stamps (asks_of run) told.journals None).0 none) is

  none : AreLegal → journal ≡ None
  none t = (first_iff stamps (asks_of run) told.journals None).1 (are_journals stamps (asks_of run) told.journals t)

  history : AreLegal → one ≡ true
  history t = legal_one stamps (asks_of run) told.journals t

  found : (j : Option ℕ) (b : Bool) (r g : Option ℕ) → journal ≡ j → one ≡ b → reply ≡ r → guess ≡ g → IsVerdictOn run stamps told (computed j b r g)
  found (Some c) b r g first is replies guesses = (first_iff stamps (asks_of run) told.journals (Some c)).0 first
  found None false r g first is replies guesses = ((first_iff stamps (asks_of run) told.journals None).0 first, λ t. passes one is (history t))
  found None true (Some line) g first is replies guesses = (legal first is, replies)
  found None true None (Some line) first is replies guesses = (legal first is, replies, guesses)
  found None true None None first is replies guesses = (legal first is, replies, guesses)

  only : (verdict : Verdict) → IsVerdictOn run stamps told verdict → verdict ≡ computed journal one reply guess
  only (verdicts.Form line) none = absurd none
  only verdicts.Table none = absurd none
  only (verdicts.Journal c) first =
      sym (ap (λ (j : Option ℕ). computed j one reply guess) ((first_iff stamps (asks_of run) told.journals (Some c)).1 first))
  only verdicts.Stamps (are, not_one) =
      let first = (first_iff stamps (asks_of run) told.journals None).1 are in
      sym (λ i. computed (first i) (fails one (λ is. not_one (legal first is)) i) reply guess)
  only (verdicts.Reply line) (t, replies) = sym (λ i. computed (none t i) (history t i) (replies i) guess)
  only (verdicts.Guess line) (t, replies, guesses) = sym (λ i. computed (none t i) (history t i) (replies i) (guesses i))
  only verdicts.Legal (t, replies, guesses) = sym (λ i. computed (none t i) (history t i) (replies i) (guesses i))

  first_wrong_on : (verdict : Verdict) → IsVerdictOn run stamps told verdict ↔ (verdict ≡ verdict_on plan contexts told)
  first_wrong_on verdict =
      (only verdict, λ is. subst (IsVerdictOn run stamps told) (sym is) (found journal one reply guess refl refl refl refl))

pub first_wrong : (plan : Plan) (keys : List KeyReply) (replies : List ContextReply) (contexts : List (Option ContextView)) (text : List ℕ) (verdict : Verdict)
    → IsWithinLimits plan → length contexts ≡ length plan.contexts
    → IsVerdictBy plan contexts (told_by plan keys replies contexts text) verdict ↔ (verdict ≡ by_form plan contexts (told_by plan keys replies contexts text))
first_wrong plan keys replies contexts text verdict within standing = go (told_by plan keys replies contexts text) refl
  where
    go : (read : Result ToldView ℕ) → told_by plan keys replies contexts text ≡ read → IsVerdictBy plan contexts read verdict ↔ (verdict ≡ by_form plan contexts read)
    go (Err line) is = (λ e. e, λ e. e)
    go (Ok told) is = first_wrong_on plan contexts told within (standing ∙ sym (told_took plan keys replies contexts text told is).complete.size) verdict
