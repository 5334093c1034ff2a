-- The table of keys as it grows.
use Rattle.std.proofs.Common.{◌≡◌, ◌<◌, ◌+◌, ℕ, List, [], ◌∷◌, ◌++◌, length, get_or, Option, Some, None, refl, sym, ap, subst, ◌∙◌, inl, inr, arith, length-append}
use Rattle.std.specs.Prelude.{slice_get}
use Rattle.std.proofs.lemmas.Bool.{cases_order}
use Rattle.std.proofs.lemmas.Option.{slice_get-get_or}
use Rattle.batch_plans.specs.declared.plan.Plan.{Plan}
use Rattle.batch_plans.specs.declared.plan.KeyLine.{KeyLine}
use Rattle.batch_plans.specs.declared.replies.KeyReply.{KeyReply}
use Rattle.context_table.specs.declared.keys.Key.{Key}
use Rattle.batch_plans.specs.KeyLines.{source_of}
use Rattle.context_table.specs.Keys.{IsKeyReply, AreKeyReplies, kem_of, given_bytes, key_by, key_in}
use Rattle.context_table.specs.Slots.{held_view, held_in, HoldKeys}
use Rattle.context_table.proofs.Lists.{slice_get-append_low, slice_get-append_end, slice_get-append_past, same_some}

-- the first i lines are answered, and their keys are held
pub record KeysSoFar (plan : Plan) (i : ℕ) (replies : List KeyReply)
    (slots : List (Option Key)) : Type 0 where
  pub reply_count : length replies ≡ i
  pub slot_count : length slots ≡ i
  pub answered : AreKeyReplies plan replies
  pub held : HoldKeys plan replies slots

no_reply : (pool : List ℕ) (line : Option KeyLine) → key_in pool line None ≡ None
no_reply pool None = refl
no_reply pool (Some line) = refl

-- the next line
pub record IsNextKey (plan : Plan) (i : ℕ) (line : KeyLine) (reply : KeyReply)
    (slot : Option Key) : Type 0 where
  pub line_is : slice_get plan.keys i ≡ Some line
  pub reply_is : IsKeyReply plan i line reply
  pub slot_is : held_view slot ≡ key_by (kem_of line) (given_bytes plan.pool (source_of line)) reply

answered_more : (plan : Plan) (i : ℕ) (line : KeyLine) (reply : KeyReply) (slot : Option Key)
    (replies : List KeyReply)
    → IsNextKey plan i line reply slot → length replies ≡ i → AreKeyReplies plan replies
    → AreKeyReplies plan (replies ++ reply ∷ [])
answered_more plan i line reply slot replies next count before = record {
  each = λ k l r el er. elim (cases_order k i) [
    | inl same ↦ (
        let line_same : line ≡ l =
        same_some (sym next.line_is ∙ ap (slice_get plan.keys) (sym same) ∙ el) in
        let reply_same : reply ≡ r =
        same_some (sym (slice_get-append_end replies reply k (same ∙ sym count)) ∙ er) in
        let P : ℕ → Type 0 = λ n. IsKeyReply plan n l r in
        let Q : KeyReply → Type 0 = λ q. IsKeyReply plan i l q in
        let R : KeyLine → Type 0 = λ m. IsKeyReply plan i m reply in
        subst P (sym same) (subst Q reply_same (subst R line_same next.reply_is)))
    | inr (inl low) ↦ before.each k l r el
        (sym (slice_get-append_low replies (reply ∷ []) k (omega arith)) ∙ er)
    | inr (inr high) ↦ absurd
        (let e : None ≡ Some r = sym (slice_get-append_past replies reply k (omega arith))
        ∙ er in cc)
  ];
}

held_more : (plan : Plan) (i : ℕ) (line : KeyLine) (reply : KeyReply) (slot : Option Key)
    (replies : List KeyReply) (slots : List (Option Key))
    → IsNextKey plan i line reply slot → length replies ≡ i → length slots ≡ i
    → HoldKeys plan replies slots
    → HoldKeys plan (replies ++ reply ∷ []) (slots ++ slot ∷ [])
held_more plan i line reply slot replies slots next count slot_count before k =
    elim (cases_order k i) [
      | inl same ↦
          ap held_in (slice_get-append_end slots slot k (same ∙ sym slot_count))
          ∙ next.slot_is
          ∙ sym (ap (λ o. key_in plan.pool o (Some reply))
          (ap (slice_get plan.keys) same ∙ next.line_is))
          ∙ sym (ap (key_in plan.pool (slice_get plan.keys k))
          (slice_get-append_end replies reply k (same ∙ sym count)))
      | inr (inl low) ↦
          ap held_in (slice_get-append_low slots (slot ∷ []) k (omega arith))
          ∙ before k
          ∙ sym (ap (key_in plan.pool (slice_get plan.keys k))
          (slice_get-append_low replies (reply ∷ []) k (omega arith)))
      | inr (inr high) ↦
          ap held_in (slice_get-append_past slots slot k (omega arith))
          ∙ sym (no_reply plan.pool (slice_get plan.keys k))
          ∙ sym (ap (key_in plan.pool (slice_get plan.keys k))
          (slice_get-append_past replies reply k (omega arith)))
    ]

pub keys_more : (plan : Plan) (i : ℕ) (line : KeyLine) (reply : KeyReply) (slot : Option Key)
    (replies : List KeyReply) (slots : List (Option Key))
    → IsNextKey plan i line reply slot → KeysSoFar plan i replies slots
    → KeysSoFar plan (i + 1) (replies ++ reply ∷ []) (slots ++ slot ∷ [])
keys_more plan i line reply slot replies slots next before = record {
  reply_count = omega (arith, length-append replies (reply ∷ []), before.reply_count);
  slot_count = omega (arith, length-append slots (slot ∷ []), before.slot_count);
  answered = answered_more plan i line reply slot replies next before.reply_count before.answered;
  held = held_more plan i line reply slot replies slots next before.reply_count before.slot_count
      before.held;
}

-- the same from what the loop did
pub keys_by : (plan : Plan) (i : ℕ) (lines : List KeyLine) (d : KeyLine) (reply : KeyReply)
    (slot : Option Key) (replies replies' : List KeyReply) (slots slots' : List (Option Key))
    → lines ≡ plan.keys → i < length lines → IsKeyReply plan i (get_or lines i d) reply
    → held_view slot ≡ key_by (kem_of (get_or lines i d))
    (given_bytes plan.pool (source_of (get_or lines i d))) reply
    → replies' ≡ replies ++ reply ∷ [] → slots' ≡ slots ++ slot ∷ []
    → KeysSoFar plan i replies slots → KeysSoFar plan (i + 1) replies' slots'
keys_by plan i lines d reply slot replies replies' slots slots' named within is held pushed put
    before =
    let next : IsNextKey plan i (get_or lines i d) reply slot = record {
      line_is = ap (λ (ls : List KeyLine). slice_get ls i) (sym named)
          ∙ slice_get-get_or lines i d within;
      reply_is = is;
      slot_is = held;
    } in
    let P : List KeyReply → Type 0 = λ rs. KeysSoFar plan (i + 1) rs slots' in
    let Q : List (Option Key) → Type 0 = λ ss. KeysSoFar plan (i + 1) (replies ++ reply ∷ []) ss in
    subst P (sym pushed) (subst Q (sym put) (keys_more plan i (get_or lines i d) reply slot replies
    slots next before))
