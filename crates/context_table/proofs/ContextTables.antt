-- The table of contexts as it grows.
use Rattle.std.proofs.Common.{◌≡◌, ◌<◌, ◌+◌, ℕ, List, [], ◌∷◌, ◌++◌, length, take, get_or, Option, Some, None, Result, sym, ap, subst, ◌∙◌, inl, inr, arith, length-append}
use Rattle.std.specs.Prelude.{slice_get}
use Rattle.std.proofs.lemmas.Bool.{cases_order}
use Rattle.std.proofs.lemmas.List.{take-append-le}
use Rattle.std.proofs.lemmas.Option.{slice_get-get_or}
use Rattle.std.proofs.Math.Seq.{take-append_seam}
use Rattle.hpke_context.specs.Contexts.{ContextView}
use Rattle.batch_plans.specs.declared.plan.Plan.{Plan}
use Rattle.batch_plans.specs.declared.plan.ContextLine.{ContextLine}
use Rattle.batch_plans.specs.declared.replies.KeyReply.{KeyReply}
use Rattle.batch_plans.specs.declared.replies.ContextReply.{ContextReply}
use Rattle.batch_plans.specs.declared.replies.ContextRefusal.{ContextRefusal}
use Rattle.context_table.specs.declared.contexts.Standing.{Standing}
use Rattle.context_table.specs.Contexts.{outcome, reply_of, slot_of, IsOutcome, AreOutcomes}
use Rattle.context_table.proofs.Lists.{slice_get-append_low, slice_get-append_end, slice_get-append_past, same_some}

-- the first i lines are answered, and their contexts stand in their slots
pub record ContextsSoFar (plan : Plan) (keys : List KeyReply) (i : ℕ) (replies : List ContextReply)
    (slots : List (Option ContextView)) : Type 0 where
  pub reply_count : length replies ≡ i
  pub slot_count : length slots ≡ i
  pub outcomes : AreOutcomes plan keys replies slots

-- the next line
pub record IsNextContext (plan : Plan) (keys : List KeyReply) (replies : List ContextReply) (i : ℕ)
    (line : ContextLine) (became : Result Standing ContextRefusal) (reply : ContextReply)
    (slot : Option ContextView) : Type 0 where
  pub line_is : slice_get plan.contexts i ≡ Some line
  pub became_is : became ≡ outcome plan keys replies i line
  pub reply_is : reply ≡ reply_of became
  pub slot_is : slot ≡ slot_of became

outcomes_more : (plan : Plan) (keys : List KeyReply) (i : ℕ) (line : ContextLine)
    (became : Result Standing ContextRefusal) (reply : ContextReply) (slot : Option ContextView)
    (replies : List ContextReply) (slots : List (Option ContextView))
    → IsNextContext plan keys replies i line became reply slot
    → ContextsSoFar plan keys i replies slots
    → AreOutcomes plan keys (replies ++ reply ∷ []) (slots ++ slot ∷ [])
outcomes_more plan keys i line became reply slot replies slots next before = record {
  each = λ c l r s el er es.
      let count = before.reply_count in
      let slot_count = before.slot_count in
      let longer = replies ++ reply ∷ [] in
      elim (cases_order c i) [
        | inl same ↦ (
            let line_same : l ≡ line =
            same_some (sym el ∙ ap (slice_get plan.contexts) same ∙ next.line_is) in
            let reply_same : r ≡ reply =
            same_some (sym er ∙ slice_get-append_end replies reply c (same ∙ sym count)) in
            let slot_same : s ≡ slot =
            same_some (sym es ∙ slice_get-append_end slots slot c (same ∙ sym slot_count)) in
            let earlier : take c longer ≡ replies = ap (λ n. take n longer) (same ∙ sym count)
            ∙ take-append_seam replies (reply ∷ []) in
            let now : became ≡ outcome plan keys (take c longer) c l =
            next.became_is
            ∙ ap (λ (rs : List ContextReply). outcome plan keys rs i line) (sym earlier)
            ∙ ap (λ n. outcome plan keys (take c longer) n line) (sym same)
            ∙ ap (outcome plan keys (take c longer) c) (sym line_same) in
            record {
              reply_is = reply_same ∙ next.reply_is ∙ ap reply_of now;
              slot_is = slot_same ∙ next.slot_is ∙ ap slot_of now;
            })
        | inr (inl low) ↦ (
            let earlier : take c longer ≡ take c replies =
            take-append-le c replies (reply ∷ []) (omega arith) in
            let was = before.outcomes.each c l r s el
            (sym (slice_get-append_low replies (reply ∷ []) c (omega arith)) ∙ er)
            (sym (slice_get-append_low slots (slot ∷ []) c (omega arith)) ∙ es) in
            let P : List ContextReply → Type 0 = λ rs. IsOutcome (outcome plan keys rs c l) r s in
            subst P (sym earlier) was)
        | inr (inr high) ↦ absurd
            (let e : None ≡ Some r = sym (slice_get-append_past replies reply c (omega arith))
            ∙ er in cc)
      ];
}

pub contexts_more : (plan : Plan) (keys : List KeyReply) (i : ℕ) (line : ContextLine)
    (became : Result Standing ContextRefusal) (reply : ContextReply) (slot : Option ContextView)
    (replies : List ContextReply) (slots : List (Option ContextView))
    → IsNextContext plan keys replies i line became reply slot
    → ContextsSoFar plan keys i replies slots
    → ContextsSoFar plan keys (i + 1) (replies ++ reply ∷ []) (slots ++ slot ∷ [])
contexts_more plan keys i line became reply slot replies slots next before = record {
  reply_count = omega (arith, length-append replies (reply ∷ []), before.reply_count);
  slot_count = omega (arith, length-append slots (slot ∷ []), before.slot_count);
  outcomes = outcomes_more plan keys i line became reply slot replies slots next before;
}

-- the same from what the loop did
pub contexts_by : (plan : Plan) (keys : List KeyReply) (i : ℕ) (lines : List ContextLine)
    (d : ContextLine) (earlier : List ContextReply) (became : Result Standing ContextRefusal)
    (reply : ContextReply) (slot : Option ContextView) (replies replies' : List ContextReply)
    (slots slots' : List (Option ContextView))
    → lines ≡ plan.contexts → i < length lines → earlier ≡ replies
    → became ≡ outcome plan keys earlier (length earlier) (get_or lines i d)
    → reply ≡ reply_of became → slot ≡ slot_of became
    → replies' ≡ replies ++ reply ∷ [] → slots' ≡ slots ++ slot ∷ []
    → ContextsSoFar plan keys i replies slots → ContextsSoFar plan keys (i + 1) replies' slots'
contexts_by plan keys i lines d earlier became reply slot replies replies' slots slots' named within
    same made reply_is slot_is pushed put before =
    let line = get_or lines i d in
    let next : IsNextContext plan keys replies i line became reply slot = record {
      line_is = ap (λ (ls : List ContextLine). slice_get ls i) (sym named)
          ∙ slice_get-get_or lines i d within;
      became_is = made
          ∙ ap (λ (rs : List ContextReply). outcome plan keys rs (length rs) line) same
          ∙ ap (λ n. outcome plan keys replies n line) before.reply_count;
      reply_is = reply_is;
      slot_is = slot_is;
    } in
    let P : List ContextReply → Type 0 = λ rs. ContextsSoFar plan keys (i + 1) rs slots' in
    let Q : List (Option ContextView) → Type 0 =
    λ ss. ContextsSoFar plan keys (i + 1) (replies ++ reply ∷ []) ss in
    subst P (sym pushed) (subst Q (sym put) (contexts_more plan keys i line became reply slot
    replies slots next before))
