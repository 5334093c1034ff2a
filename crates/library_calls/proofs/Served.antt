-- What a whole call tells, by how it ended.
use Rattle.std.proofs.Common.{◌≡◌, ◌<◌, ◌≤◌, ◌∙◌, ℕ, List, length, take, drop, Option, Some, None, inl, inr, arith, refl, sym, subst}
use Rattle.std.specs.Prelude.{◌≢◌, ◌⊎◌, ◌↔◌}
use Rattle.std.proofs.lemmas.Bool.{cases_eq}
use Rattle.field_text.specs.declared.reasons.Reason.{Reason}
use Rattle.batch_plans.specs.ReplyText.{bad_text}
use Rattle.result_lines.specs.declared.verdicts.Verdict.{Verdict}
use Rattle.result_lines.specs.VerdictText.{verdict_text}
use Rattle.batch_words.specs.declared.commands.Command.{Command}
use Rattle.batch_serving.specs.declared.outcomes.Outcome.{Outcome}
use Rattle.batch_serving.specs.declared.outcomes.Outcome.TheVariants.{Done, BadBatch, Broken}
use Rattle.batch_serving.specs.Text.{IsBadFor, IsBrokenFor, MayEnd}
use Rattle.library_calls.proofs.Endings.{ends_bad, ends_broken}
use Rattle.library_calls.proofs.Exclusions.{broken_result, no_batch, spelled_by_no_batch, spelled_by_result}
use Rattle.library_calls.specs.Serving.{HasText, IsServed, MayAnswer, NeedsRoom, TellsBadFor, TellsBroken}

-- ---- a whole call

module _ (spelled : Option Command) (input old : List ℕ) (size_old : ℕ) where
  -- the words spell no command
  pub unspelled : spelled ≡ None → IsServed spelled input old old size_old size_old 2
  unspelled none = record {
    done = (λ e. cc);
    bad = (λ e. cc);
    broken = (λ e. cc);
    room = (λ e. cc);
    usage = (λ some. ((λ two. none), (λ is. refl)));
    no_batch = (λ five six. ((λ e. cc), (λ is. absurd (spelled_by_no_batch spelled input is none))));
    broken_result = (λ five six. ((λ e. cc), (λ has. absurd (spelled_by_result spelled input has none))));
    statuses = inr (inl refl);
    size = (λ has. absurd (omega (arith, has)));
    behind = refl;
    kept = (λ has. refl);
    told = (λ has e. refl);
  }

  others : (status : ℕ) → HasText status → (status ≢ 2) × (status ≢ 5)
  others status has = elim has [
    | inl e ↦ ((λ f. let g = sym e ∙ f in cc), (λ f. let g = sym e ∙ f in cc))
    | inr (inl e) ↦ ((λ f. let g = sym e ∙ f in cc), (λ f. let g = sym e ∙ f in cc))
    | inr (inr e) ↦ ((λ f. let g = sym e ∙ f in cc), (λ f. let g = sym e ∙ f in cc))
  ]

  with_text : (status : ℕ) → HasText status
      → (status ≡ 0) ⊎ (status ≡ 2) ⊎ (status ≡ 3) ⊎ (status ≡ 5) ⊎ (status ≡ 6) ⊎ (status ≡ 7)
  with_text status has = elim has [
    | inl e ↦ inl e
    | inr (inl e) ↦ inr (inr (inl e))
    | inr (inr e) ↦ inr (inr (inr (inr (inr e))))
  ]

  -- a text stands in the room
  fits : (status : ℕ) (new : List ℕ) (size : ℕ) → spelled ≢ None → HasText status
      → (status ≡ 0 → MayAnswer spelled input Done (take size new))
      → (status ≡ 3 → TellsBadFor spelled input (take size new))
      → (status ≡ 7 → TellsBroken spelled input (take size new))
      → size ≤ length new → drop size new ≡ drop size old → IsServed spelled input old new size_old size status
  fits status new size stands has done bad broken within behind =
      let usage : status ≢ 6 → ((status ≡ 2) ↔ (spelled ≡ None)) =
      (λ some. ((λ e. absurd ((others status has).0 e)), (λ e. absurd (stands e)))) in
      let statuses = with_text status has in
      record {
        done = done;
        bad = bad;
        broken = broken;
        room = (λ e. absurd ((others status has).1 e));
        usage = usage;
        no_batch = no_batch spelled input status (take size new) statuses done usage bad broken;
        broken_result = broken_result spelled input status (take size new) statuses done usage bad broken;
        statuses = statuses;
        size = (λ has. within);
        behind = behind;
        kept = (λ none. absurd (none has));
        told = (λ none. absurd (none has));
      }

  -- there is no room for a text
  no_room : (outcome : Outcome) (text : List ℕ) (size : ℕ) → spelled ≢ None
      → MayAnswer spelled input outcome text → size ≡ length text → length old < length text
      → IsServed spelled input old old size_old size 5
  unfolding NeedsRoom
  no_room outcome text size stands is same large = record {
    done = (λ e. cc);
    bad = (λ e. cc);
    broken = (λ e. cc);
    room = (λ e. (outcome, text, is, same, subst (λ n. length old < n) (sym same) large));
    usage = (λ some. ((λ e. cc), (λ e. absurd (stands e))));
    no_batch = (λ five six. absurd (five refl));
    broken_result = (λ five six. absurd (five refl));
    statuses = inr (inr (inr (inl refl)));
    size = (λ has. absurd (omega (arith, has)));
    behind = refl;
    kept = (λ none. refl);
    told = (λ none e. absurd (e refl));
  }

  -- what is put for a text that the command may write
  module _ (due : ℕ) (outcome : Outcome) (text new : List ℕ) (size status : ℕ) (stands : spelled ≢ None) (has : HasText due)
      (is : MayAnswer spelled input outcome text)
      (whole : status ≢ 5 → (status ≡ due) × (take size new ≡ text))
      (within : status ≢ 5 → size ≤ length new)
      (room : status ≡ 5 → (size ≡ length text) × (length old < length text) × (new ≡ old))
      (behind : drop size new ≡ drop size old) where
    put : (due ≡ 0 → MayAnswer spelled input Done text) → (due ≡ 3 → TellsBadFor spelled input text)
        → (due ≡ 7 → TellsBroken spelled input text) → IsServed spelled input old new size_old size status
    put done bad broken = elim (cases_eq status 5) [
      | inl five ↦
          let r = room five in
          subst (λ (now : List ℕ). IsServed spelled input old now size_old size status) (sym r.2)
          (subst (λ (n : ℕ). IsServed spelled input old old size_old size n) (sym five)
          (no_room outcome text size stands is r.0 r.1))
      | inr other ↦
          let w = whole other in
          subst (λ (n : ℕ). IsServed spelled input old new size_old size n) (sym w.0)
          (fits due new size stands has
          (λ e. subst (MayAnswer spelled input Done) (sym w.1) (done e))
          (λ e. subst (TellsBadFor spelled input) (sym w.1) (bad e))
          (λ e. subst (TellsBroken spelled input) (sym w.1) (broken e)) (within other) behind)
    ]

  -- ---- by what was written for the words

  module _ (text new : List ℕ) (size status : ℕ)
      (within : status ≢ 5 → size ≤ length new)
      (room : status ≡ 5 → (size ≡ length text) × (length old < length text) × (new ≡ old))
      (behind : drop size new ≡ drop size old) where
    stands : (command : Command) → spelled ≡ Some command → spelled ≢ None
    stands command is = λ none. let e = sym is ∙ none in cc

    pub put_done : (command : Command) (said : List ℕ) → spelled ≡ Some command → MayEnd command input Done said
        → text ≡ said → (status ≢ 5 → (status ≡ 0) × (take size new ≡ text))
        → IsServed spelled input old new size_old size status
    unfolding MayAnswer
    put_done command said is end same whole =
        let ends = subst (MayEnd command input Done) (sym same) end in
        put 0 Done text new size status (stands command is) (inl refl) (command, is, ends) whole within room behind
        (λ e. (command, is, ends)) (λ e. cc) (λ e. cc)

    pub put_bad : (command : Command) (line : ℕ) (reason : Reason) → spelled ≡ Some command
        → IsBadFor command input line reason → text ≡ bad_text (record { line = line; reason = reason })
        → (status ≢ 5 → (status ≡ 3) × (take size new ≡ text))
        → IsServed spelled input old new size_old size status
    unfolding MayAnswer TellsBadFor
    put_bad command line reason is bad same whole =
        put 3 (BadBatch line reason) text new size status (stands command is) (inr (inl refl))
        (command, is, subst (MayEnd command input (BadBatch line reason)) (sym same) (ends_bad line reason command input bad))
        whole within room behind (λ e. cc) (λ e. (command, is, line, reason, bad, same)) (λ e. cc)

    pub put_broken : (command : Command) (verdict : Verdict) → spelled ≡ Some command → IsBrokenFor command input verdict
        → text ≡ verdict_text verdict → (status ≢ 5 → (status ≡ 7) × (take size new ≡ text))
        → IsServed spelled input old new size_old size status
    unfolding MayAnswer TellsBroken
    put_broken command verdict is broken same whole =
        put 7 (Broken verdict) text new size status (stands command is) (inr (inr refl))
        (command, is, subst (MayEnd command input (Broken verdict)) (sym same) (ends_broken command input verdict broken))
        whole within room behind (λ e. cc) (λ e. cc) (λ e. (command, is, verdict, broken, same))
