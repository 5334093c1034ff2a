-- Where no context counts as added, the room for a plan is that for its calls as they stand.
use Rattle.std.proofs.Common.{◌≡◌, ◌+◌, ◌-◌, ◌≤◌, ℕ, Bool, true, false, List, [], ◌∷◌, length, map, replicate, Option, Some, None, sym, refl, ap, ◌∙◌, arith, if◌then◌else◌, ◌⊎◌, inl, inr}
use Rattle.std.specs.Prelude.{nat_lt, sum_by}
use Rattle.std.specs.List.{range_with_len}
use Rattle.std.proofs.lemmas.Bool.{ltb-false}
use Rattle.std.proofs.lemmas.List.{get_or_past}
use Rattle.std.proofs.lemmas.List.Sums.{sum_by-cons}
use Rattle.hpke_context.specs.Contexts.{ContextView}
use Rattle.batch_plans.specs.declared.plan.Plan.{Plan}
use Rattle.batch_plans.specs.declared.plan.CallLine.{CallLine}
use Rattle.batch_plans.specs.declared.plan.CallLine.TheVariants as calls
use Rattle.batch_plans.specs.declared.replies.KeyReply.{KeyReply}
use Rattle.batch_plans.specs.declared.replies.ContextReply.{ContextReply}
use Rattle.batch_plans.specs.declared.replies.CallRefusal.TheVariants.{NoContext}
use Rattle.batch_plans.specs.declared.replies.Reply.TheVariants.{Blank}
use Rattle.batch_plans.specs.Calls.{context_of, items_of, refusal}
use Rattle.batch_plans.specs.Limits.{first_name}
use Rattle.batch_plans.specs.Within.{IsWithinLimits}
use Rattle.batch_plans.specs.Names.{line_count, position, at_position, all_live}
use Rattle.batch_plans.specs.Room.{if_served, items_at, items_on, served_room, served_batches, served_or, call_room, call_replies, call_batches, blank_batch, blank_mark, lane_room, journal_room, room_for}
use Rattle.context_books.specs.Standing.{refusal_on}
use Rattle.context_books.specs.ContextLines.{export_limits, AreOfLines}
use Rattle.context_books.proofs.Refusals.{refusal_agrees}

module _ (plan : Plan) (contexts : List (Option ContextView)) (within : IsWithinLimits plan)
    (none : plan.added ≡ 0) (standing : AreOfLines plan.contexts contexts) where
  abbrev limits : List ℕ
  limits = export_limits contexts

  abbrev at : CallLine → CallLine
  at = at_position plan

  -- a number that is another's place is no context's, nor is the place
  abbrev IsSame : ℕ → ℕ → Type 0
  IsSame p number = (p ≡ number) ⊎ ((length contexts ≤ p) × (length contexts ≤ number))

  placed : (number : ℕ) → IsSame (position plan number) number
  placed number = step (nat_lt number (line_count plan)) (nat_lt number first_name) refl
    where
      step : (a b : Bool) → nat_lt number first_name ≡ b
          → IsSame (if a then number else if b then number + plan.added
          else line_count plan + (number - first_name)) number
      step true b is = inl refl
      step false true is = inl (omega arith)
      step false false is =
          let high = ltb-false number first_name is in
          let few = within.contexts in
          let count = standing.count in
          inr (omega arith, omega arith)

  far : (call : CallLine) → length contexts ≤ context_of call
      → refusal plan.contexts limits call ≡ Some NoContext
  far call high = refusal_agrees plan.contexts contexts call standing
      ∙ ap (λ o. refusal_on o call) (get_or_past contexts (context_of call) None high)

  -- two calls need the same room
  record NeedTheSame (c d : CallLine) : Type 0 where
    room : call_room plan limits c ≡ call_room plan limits d
    replies : call_replies plan limits c ≡ call_replies plan limits d
    batches : call_batches plan limits c ≡ call_batches plan limits d
    items : (n : ℕ) → items_on plan.contexts limits n c ≡ items_on plan.contexts limits n d

  same_call : (c d : CallLine) → c ≡ d → NeedTheSame c d
  same_call c d e = record {
    room = ap (call_room plan limits) e;
    replies = ap (call_replies plan limits) e;
    batches = ap (call_batches plan limits) e;
    items = λ n. ap (items_on plan.contexts limits n) e;
  }

  both_far : (c d : CallLine) → refusal plan.contexts limits c ≡ Some NoContext
      → refusal plan.contexts limits d ≡ Some NoContext
      → ((n : ℕ) → items_on plan.contexts limits n c ≡ items_on plan.contexts limits n d)
      → NeedTheSame c d
  both_far c d e f items = record {
    room = ap (λ o. served_or o (served_room plan.items c) 0) e
        ∙ sym (ap (λ o. served_or o (served_room plan.items d) 0) f);
    replies = ap (λ o. served_or o (items_of c) 1) e ∙ sym (ap (λ o. served_or o (items_of d) 1) f);
    batches = ap (λ o. served_or o (served_batches c) 0) e
        ∙ sym (ap (λ o. served_or o (served_batches d) 0) f);
    items = items;
  }

  -- a call on a context, by its number
  of_number : (mk : ℕ → CallLine) → ((k : ℕ) → context_of (mk k) ≡ k)
      → ((k n : ℕ) → refusal plan.contexts limits (mk k) ≡ Some NoContext
      → items_on plan.contexts limits n (mk k) ≡ 0)
      → (number : ℕ) → NeedTheSame (mk (position plan number)) (mk number)
  of_number mk is items number = elim (placed number) [
    | inl same ↦ same_call (mk (position plan number)) (mk number) (ap mk same)
    | inr high ↦ (
        let p = position plan number in
        let first = far (mk p) (let e = is p in let h = high.0 in omega arith) in
        let second = far (mk number) (let e = is number in let h = high.1 in omega arith) in
        both_far (mk p) (mk number) first second
        (λ n. items p n first ∙ sym (items number n second)))
  ]

  needs : (call : CallLine) → NeedTheSame (at call) call
  needs (calls.Seal context item) = of_number (λ k. calls.Seal k item) (λ k. refl)
      (λ k n e. ap (λ o. items_at (if_served o k) n 1) e) context
  needs (calls.Unseal context item) = of_number (λ k. calls.Unseal k item) (λ k. refl)
      (λ k n e. ap (λ o. items_at (if_served o k) n 1) e) context
  needs (calls.UnsealAll context first count) =
      of_number (λ k. calls.UnsealAll k first count) (λ k. refl)
      (λ k n e. ap (λ o. items_at (if_served o k) n count) e) context
  needs (calls.Export context exporter size) =
      of_number (λ k. calls.Export k exporter size) (λ k. refl) (λ k n e. refl) context
  needs (calls.Add name) = same_call (calls.Add name) (calls.Add name) refl
  needs (calls.Retire name) = same_call (calls.Retire name) (calls.Retire name) refl

  -- ---- sums over calls

  sums : (f : CallLine → ℕ) → ((call : CallLine) → f (at call) ≡ f call) → (cs : List CallLine)
      → sum_by f (map at cs) ≡ sum_by f cs
  sums f same [] = refl
  sums f same (call ∷ cs) =
      sum_by-cons f (at call) (map at cs) ∙ (λ i. same call i + sums f same cs i)
      ∙ sym (sum_by-cons f call cs)

  all_sums : (f : CallLine → ℕ) → ((call : CallLine) → f (at call) ≡ f call)
      → (lanes : List (List CallLine))
      → sum_by (λ cs. sum_by f cs) (map (map at) lanes) ≡ sum_by (λ cs. sum_by f cs) lanes
  all_sums f same [] = refl
  all_sums f same (cs ∷ lanes) =
      sum_by-cons (λ cs. sum_by f cs) (map at cs) (map (map at) lanes)
      ∙ (λ i. sums f same cs i + all_sums f same lanes i)
      ∙ sym (sum_by-cons (λ cs. sum_by f cs) cs lanes)

  lane_same : (cs : List CallLine) → lane_room plan limits (map at cs) ≡ lane_room plan limits cs
  lane_same cs = (λ i. record {
    pool = replicate (sums (call_room plan limits) (λ c. (needs c).room) cs i) 0;
    replies = replicate (sums (call_replies plan limits) (λ c. (needs c).replies) cs i) Blank;
    batches = replicate (sums (call_batches plan limits) (λ c. (needs c).batches) cs i) blank_batch;
  })

  lanes_same : (lanes : List (List CallLine))
      → map (lane_room plan limits) (map (map at) lanes) ≡ map (lane_room plan limits) lanes
  lanes_same [] = refl
  lanes_same (cs ∷ lanes) = (λ i. lane_same cs i ∷ lanes_same lanes i)

  journal_same : (n : ℕ) → journal_room plan.contexts limits (map (map at) plan.lanes) n
      ≡ journal_room plan.contexts limits plan.lanes n
  journal_same n = ap (λ k. replicate k blank_mark)
      (all_sums (items_on plan.contexts limits n) (λ c. (needs c).items n) plan.lanes)

  pub room_same : (keys : List KeyReply) (adds : List ContextReply)
      → room_for (all_live plan) keys adds limits ≡ room_for plan keys adds limits
  room_same keys adds = (λ i. record {
    keys = keys;
    contexts = adds;
    lanes = lanes_same plan.lanes i;
    journals = map (λ n. journal_same n i) (range_with_len 0 (length plan.contexts));
    notes = [];
  })
