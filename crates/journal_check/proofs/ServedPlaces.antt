-- What the places ask that a legal journal holds.
use Rattle.std.proofs.Common.{◌≡◌, ℕ, zero, suc, List, [], ◌∷◌, map, Option, Some, None, refl, sym, ap, ◌∙◌, inl, inr, IsTrue}
use Rattle.std.specs.Prelude.{slice_get, slice_index_or}
use Rattle.std.specs.Option.{option_map}
use Rattle.std.proofs.lemmas.Option.{slice_get-map}
use Rattle.hkdf_labelled.specs.declared.suites.Aead.{Aead}
use Rattle.hkdf_labelled.specs.declared.suites.Aead.TheVariants.{Aes128, Aes256, ExportOnly}
use Rattle.key_schedule.specs.declared.modes.Role.{Role}
use Rattle.key_schedule.specs.declared.modes.Role.TheVariants.{Sender, Recipient}
use Rattle.call_places.specs.declared.entries.Place.{Place}
use Rattle.call_places.specs.declared.spans.Item.{Item as Spans}
use Rattle.call_places.specs.Messages.{sealed_messages}
use Rattle.hpke_context.specs.Answers.{Item}
use Rattle.hpke_context.specs.Contexts.{ContextView}
use Rattle.hkdf_labelled.specs.Suites.{encrypts}
use Rattle.hpke_context.specs.Calls.{CanOpen}
use Rattle.context_books.specs.Batches.{Ask, unseal, with_context, item_in, item_in_call, item_of, items_of, item_or_none, IsServed}
use Rattle.context_books.specs.Lists.{In}
use Rattle.batch_plans.specs.declared.plan.Plan.{Plan}
use Rattle.batch_plans.specs.declared.plan.CallLine.{CallLine}
use Rattle.batch_plans.specs.declared.plan.CallLine.TheVariants as calls
use Rattle.batch_plans.specs.declared.replies.CallRefusal.{CallRefusal}
use Rattle.batch_plans.specs.Calls.{seal_refusal, open_refusal}
use Rattle.batch_plans.specs.Limits.{items_from}
use Rattle.context_books.specs.Standing.{standing_at, refusal_on, call_refusal}
use Rattle.context_books.specs.Asks.{asked_by, ask_unless, ask_of, batch_of}
use Rattle.journal_check.specs.declared.items.Asked.{Asked}
use Rattle.journal_check.specs.declared.items.Asked.TheVariants.{Seal, Open}
use Rattle.journal_check.specs.Runs.{asked_in_call, asked_at, item_view, asked_and, items_at, CanDo}
use Rattle.journal_check.proofs.Asking.{asks_of_lane}

-- ---- what a context can do that refuses nothing

no_refusal : (why : CallRefusal) → Some why ≡ None → ⊥
no_refusal why e = cc

seal_free : (r : Role) (x : Aead) → seal_refusal r x ≡ None → (r ≡ Sender) × IsTrue (encrypts x)
seal_free Sender Aes128 e = (refl, refl)
seal_free Sender Aes256 e = (refl, refl)
seal_free Sender ExportOnly e = absurd (no_refusal _ e)
seal_free Recipient x e = absurd (no_refusal _ e)

open_free : (r : Role) (x : Aead) → open_refusal r x ≡ None → (r ≡ Recipient) × IsTrue (encrypts x)
open_free Recipient Aes128 e = (refl, refl)
open_free Recipient Aes256 e = (refl, refl)
open_free Recipient ExportOnly e = absurd (no_refusal _ e)
open_free Sender x e = absurd (no_refusal _ e)

-- ---- the item of a call

no_item : (x : ℕ × Item) → None ≡ Some x → ⊥
no_item x e = cc

same_item : (a b : ℕ × Item) → Some a ≡ Some b → a ≡ b
same_item a b e = cc

-- the items that an opening names
opened_at : (pool : List ℕ) (spans : List Spans) (i c d : ℕ) (x : Item) → with_context c (slice_get (map unseal (sealed_messages pool spans)) i) ≡ Some (d, x)
    → (a : Asked) × (slice_get (map (λ (item : Spans). Open item) spans) i ≡ Some a) × (item_view pool a ≡ x) × (c ≡ d) × ((context : ContextView) → CanOpen context → CanDo context a)
opened_at pool [] i c d x is = absurd (no_item (d, x) is)
opened_at pool (item ∷ spans) zero c d x is =
    let pair = same_item (c, item_view pool (Open item)) (d, x) is in
    (Open item, refl, ap (λ (p : ℕ × Item). p.1) pair, ap (λ (p : ℕ × Item). p.0) pair, λ context can. can)
opened_at pool (item ∷ spans) (suc i) c d x is = opened_at pool spans i c d x is

-- a place asks this, of a context that can do it
abbrev pub Asks : Plan → List (Option ContextView) → Option CallLine → ℕ → ℕ → Item → Type 0
Asks plan contexts call i c x =
    (a : Asked) × (asked_in_call plan.items call i ≡ Some a) × (item_view plan.pool a ≡ x) × ((context : ContextView) → standing_at contexts c ≡ Some context → CanDo context a)

module _ (plan : Plan) (contexts : List (Option ContextView)) where
  by_call : (call : CallLine) (i c : ℕ) (x : Item) → call_refusal contexts call ≡ None → item_in (asked_by plan call) i ≡ Some (c, x) → Asks plan contexts (Some call) i c x
  by_call (calls.Seal context item) zero c x free is =
      let pair = same_item (context, item_view plan.pool (Seal item)) (c, x) is in (
        Seal item,
        refl,
        ap (λ (p : ℕ × Item). p.1) pair,
        λ view stands. seal_free view.role view.suite.aead
            (sym (ap (λ (o : Option ContextView). refusal_on o (calls.Seal context item)) (ap (standing_at contexts) (ap (λ (p : ℕ × Item). p.0) pair) ∙ stands)) ∙ free),
      )
  by_call (calls.Seal context item) (suc i) c x free is = absurd (no_item (c, x) is)
  by_call (calls.Unseal context item) zero c x free is =
      let pair = same_item (context, item_view plan.pool (Open item)) (c, x) is in (
        Open item,
        refl,
        ap (λ (p : ℕ × Item). p.1) pair,
        λ view stands. open_free view.role view.suite.aead
            (sym (ap (λ (o : Option ContextView). refusal_on o (calls.Unseal context item)) (ap (standing_at contexts) (ap (λ (p : ℕ × Item). p.0) pair) ∙ stands)) ∙ free),
      )
  by_call (calls.Unseal context item) (suc i) c x free is = absurd (no_item (c, x) is)
  by_call (calls.UnsealAll context first count) i c x free is =
      let t = opened_at plan.pool (items_from plan.items first count) i context c x is in (
        t.0,
        t.1,
        t.2,
        λ view stands. t.4 view (open_free view.role view.suite.aead
            (sym (ap (λ (o : Option ContextView). refusal_on o (calls.UnsealAll context first count)) (ap (standing_at contexts) t.3 ∙ stands)) ∙ free)),
      )
  by_call (calls.Export context exporter size) i c x free is = absurd (no_item (c, x) is)
  by_call (calls.Add name) i c x free is = absurd (no_item (c, x) is)
  by_call (calls.Retire name) i c x free is = absurd (no_item (c, x) is)

  unless_call : (call : CallLine) (refusal : Option CallRefusal) (i c : ℕ) (x : Item) → call_refusal contexts call ≡ refusal → item_in (ask_unless refusal (asked_by plan call)) i ≡ Some (c, x)
      → Asks plan contexts (Some call) i c x
  unless_call call None i c x free is = by_call call i c x free is
  unless_call call (Some refusal) i c x free is = absurd (no_item (c, x) is)

  for_call : (call : Option CallLine) (i c : ℕ) (x : Item) → item_in_call (option_map (ask_of plan contexts) call) i ≡ Some (c, x) → Asks plan contexts call i c x
  for_call None i c x is = absurd (no_item (c, x) is)
  for_call (Some call) i c x is = unless_call call (call_refusal contexts call) i c x refl is

  -- ---- the item of a place

  pub asked_served : (p : Place) (c : ℕ) (x : Item) → item_of (batch_of plan contexts) p ≡ Some (c, x)
      → (a : Asked) × (asked_at plan p ≡ Some a) × (item_view plan.pool a ≡ x) × ((context : ContextView) → standing_at contexts c ≡ Some context → CanDo context a)
  asked_served p c x is =
      let lines = slice_index_or plan.lanes p.lane [] in
      for_call (slice_get lines p.call) p.item c x
      (ap (λ (o : Option Ask). item_in_call o p.item)
      (sym (slice_get-map (ask_of plan contexts) lines p.call) ∙ ap (λ (asks : List Ask). slice_get asks p.call) (sym (asks_of_lane plan contexts p.lane)))
      ∙ is)

  -- the items of places that are all served
  pub items_same : (c : ℕ) (ps : List Place) → ((p : Place) → In p ps → IsServed (batch_of plan contexts) c p) → items_at plan ps ≡ items_of (batch_of plan contexts) ps
  items_same c [] served = refl
  items_same c (p ∷ ps) served =
      let here = served p (inl refl) in
      let a = asked_served p c here.0 here.1 in
      let later = items_same c ps (λ q i. served q (inr i)) in
      ap (λ (o : Option Asked). asked_and plan.pool o (items_at plan ps)) a.1
      ∙ ap (λ (x : Item). x ∷ items_at plan ps) a.2
      ∙ ap (λ (xs : List Item). here.0 ∷ xs) later
      ∙ ap (λ (o : Option (ℕ × Item)). item_or_none o (items_of (batch_of plan contexts) ps)) (sym here.1)
