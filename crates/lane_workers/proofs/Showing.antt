-- From what each lane tells, over contexts that are closed, to a run: its journals and guesses, and
-- the lines of its calls.
use Rattle.std.proofs.Common.{◌≡◌, ℕ, zero, suc, ◌+◌, ◌<◌, ◌≤◌, List, [], ◌∷◌, ◌++◌, length, map, Option, Some, None, sym, refl, ap, ◌∙◌, subst, arith}
use Rattle.std.specs.Prelude.{slice_get, slice_index_or}
use Rattle.std.specs.List.{range_with_len}
use Rattle.std.proofs.lemmas.List.{length-map}
use Rattle.call_places.specs.declared.entries.Place.{Place}
use Rattle.call_places.specs.declared.entries.Entry.{Entry}
use Rattle.call_places.specs.Entries.{mark_of}
use Rattle.call_places.specs.Messages.{sealed_messages}
use Rattle.hpke_context.specs.Answers.{Item}
use Rattle.hpke_context.specs.Contexts.{ContextView}
use Rattle.context_books.specs.Batches.{Batch, Ask, block, place, unseal, items_in, context_in, item_of, lane_of}
use Rattle.context_books.specs.Guesses.{AllGuessed, guess_at, missed_in}
use Rattle.context_books.specs.Histories.{LegalMarks, marks_at, places}
use Rattle.context_books.specs.Legal.{Legal, OpensOn, reply_of}
use Rattle.context_books.proofs.Members.{got}
use Rattle.context_books.proofs.Runs.{item_here}
use Rattle.lane_workers.proofs.Shown as shown
use Rattle.lane_workers.proofs.Shown.{places-marks}
use Rattle.lane_workers.specs.Showing.{Showing, LaneShows, OpeningsShow, StampsInOrder, LaneIsShown, Closes, journal}
use Rattle.batch_plans.specs.declared.plan.Plan.{Plan}
use Rattle.batch_plans.specs.declared.plan.CallLine.{CallLine}
use Rattle.batch_plans.specs.declared.plan.CallLine.TheVariants as calls
use Rattle.batch_plans.specs.declared.replies.CallRefusal.{CallRefusal}
use Rattle.batch_plans.specs.Limits.{items_from}
use Rattle.batch_plans.specs.Lines.{batch_line}
use Rattle.batch_plans.specs.ReplyText.{numbered}
use Rattle.context_books.specs.Standing.{call_refusal}
use Rattle.context_books.specs.Asks.{ask_of, ask_unless, asked_by, batch_of, cipher_at}
use Rattle.context_books.specs.Runs.{Run, journal_of, guesses_of, answer_line, answer_line_of, place_line, lines_unless, served_lines, call_lines}
use Rattle.batch_plans.specs.declared.replies.CallRefusal.TheVariants.{NoContext}
use Rattle.context_books.proofs.Refusals.{added_refused, retired_refused}
use Rattle.context_books.proofs.Done.{ask_at, length-messages}
use Rattle.lane_workers.specs.Served.{Told, told_served, told_lines}
use Rattle.context_books.specs.LaneCalls.{lane_calls}

no_refusal : (why : CallRefusal) → Some why ≡ None → ⊥
no_refusal why e = cc

pub numbered_same : {X Y : Type 0} (f g : ℕ → X → Y) (start : ℕ) (xs : List X)
    → ((k : ℕ) (x : X) → slice_get xs k ≡ Some x → f (start + k) x ≡ g (start + k) x)
    → numbered f start xs ≡ numbered g start xs
numbered_same f g start [] same = refl
numbered_same {X = X} {Y = Y} f g start (x ∷ xs) same =
    let none : start + 0 ≡ start = omega arith in
    let first : f start x ≡ g start x = subst (λ n. f n x ≡ g n x) none (same 0 x refl) in
    let rest = numbered_same f g (start + 1) xs
    (λ k y at. let next : start + suc k ≡ start + 1 + k = omega arith in
    subst (λ n. f n y ≡ g n y) next (same (suc k) y at)) in
    (λ i. first i ∷ rest i)

-- an opening names items that are there
abbrev pub HasItems : ℕ → CallLine → Type 0
HasItems items (calls.UnsealAll context first count) = first + count ≤ items
HasItems items call = Unit {0}

-- what a lane tells, and shows of each context
pub record LaneTells (plan : Plan) (contexts : List (Option ContextView)) (lane : ℕ) (told : Told)
    (seen : ℕ → List Entry) : Type 0 where
  pub shows : (context : ℕ) → LaneShows (batch_of plan contexts) context (cipher_at contexts context)
      lane told.replies (seen context)
  pub openings : OpeningsShow (batch_of plan contexts) (cipher_at contexts) lane seen told.guesses
      told.misses
  pub in_order : StampsInOrder lane seen

module _ (plan : Plan) (contexts : List (Option ContextView))
    (told : ℕ → Told) (seen : ℕ → ℕ → List Entry) (books : List (List Entry)) where
  abbrev batch : Batch
  batch = batch_of plan contexts

  -- what all lanes show
  abbrev pub showing : Showing
  showing =
      record {
        seen = seen;
        books = books;
        replies = λ p. (told p.lane).replies p;
        guesses = λ lane. (told lane).guesses;
        misses = λ lane. (told lane).misses;
      }

  -- ---- the run that they make

  -- the journals with their stamps, and each lane's guesses
  abbrev pub run_of : Run
  run_of =
      record {
        plan = plan;
        contexts = contexts;
        journals = map (map mark_of) books;
        guesses = map (λ lane. (told lane).guesses) (range_with_len 0 (length plan.lanes));
      }

  pub guesses_are : (lane : ℕ) → lane < length plan.lanes
      → guesses_of run_of lane ≡ (told lane).guesses
  guesses_are lane low = from (length plan.lanes) 0 lane low
      ∙ ap (λ l. (told l).guesses) (let e : 0 + lane ≡ lane = omega arith in e)
    where
      from : (n start l : ℕ) → l < n
          → slice_index_or (map (λ i. (told i).guesses) (range_with_len start n)) l []
          ≡ (told (start + l)).guesses
      from zero start l low = absurd (omega arith)
      from (suc n) start zero low = ap (λ i. (told i).guesses)
          (let e : start ≡ start + 0 = omega arith in e)
      from (suc n) start (suc l) low = from n (start + 1) l (omega arith)
          ∙ ap (λ i. (told i).guesses)
          (let e : start + 1 + l ≡ start + suc l = omega arith in e)

  module _ (tells : (lane : ℕ) → LaneTells plan contexts lane (told lane) (seen lane))
      (closes : (context : ℕ) → Closes (length plan.lanes) (λ lane. seen lane context)
      (slice_index_or books context [])) where
    pub lanes : (lane : ℕ) → lane < length batch
        → LaneIsShown batch (cipher_at contexts) showing lane
    lanes lane low =
        let t = tells lane in
        record {
          each = λ context. let s = t.shows context in record {
            places = s.places;
            answered = λ i e at mine. let r = s.answered i e at mine in record {
              item = r.item;
              of_place = r.of_place;
              step = r.step;
              reply = ap (λ j. (told j).replies e.place) mine ∙ r.reply;
            };
          };
          openings = t.openings;
          in_order = t.in_order;
        }

    pub all_lanes : length batch ≡ length plan.lanes
    all_lanes = length-map plan.lanes (map (ask_of plan contexts))

    pub closed : (context : ℕ) → Closes (length batch) (λ lane. seen lane context)
        (slice_index_or books context [])
    closed context = subst (λ n. Closes n (λ lane. seen lane context)
        (slice_index_or books context [])) (sym all_lanes) (closes context)

    journal_is : (context : ℕ) → journal_of run_of context ≡ journal showing context
    journal_is context =
        ap places (shown.journal_is batch (cipher_at contexts) showing lanes closed context)
        ∙ places-marks (slice_index_or books context [])

    pub journal_legal : (context : ℕ) → Legal batch context (journal_of run_of context)
    journal_legal context = subst (Legal batch context) (sym (journal_is context))
        (shown.legal_journal batch (cipher_at contexts) showing lanes closed context)

    pub marks_are_legal : (context : ℕ) → LegalMarks batch context (marks_at run_of.journals context)
    marks_are_legal = shown.marks_legal batch (cipher_at contexts) showing lanes closed

    pub guessed_so : (lane : ℕ) → lane < length plan.lanes → AllGuessed batch (cipher_at contexts)
        (journal_of run_of) lane (guesses_of run_of lane)
    guessed_so lane low =
        subst (λ (js : ℕ → List Place). AllGuessed batch (cipher_at contexts) js lane
        (guesses_of run_of lane)) (λ i context. sym (journal_is context) i)
        (subst (AllGuessed batch (cipher_at contexts) (journal showing) lane)
        (sym (guesses_are lane low))
        (shown.guessed batch (cipher_at contexts) showing lanes closed lane
        (subst (λ n. lane < n) (sym all_lanes) low)))

    -- ---- the lines of a call

    module _ (lane : ℕ) (low : lane < length plan.lanes) (k : ℕ) (call : CallLine)
        (at : slice_get (lane_calls plan lane) k ≡ Some call)
        (named : HasItems (length plan.items) call) where
      abbrev asks : List Ask
      asks = lane_of batch lane

      abbrev a : Ask
      a = ask_of plan contexts call

      asked_here : slice_get asks k ≡ Some a
      asked_here = ask_at run_of lane k call at

      -- an item that is served has the reply that the lane told
      told_is_due : (c i : ℕ) (x : Item) → c ≡ context_in a → slice_get (items_in a) i ≡ Some x
          → answer_line ((told lane).replies (place lane k i))
          ≡ place_line run_of c (place lane k i)
      told_is_due c i x is there =
          let p = place lane k i in
          let at_place : item_of batch p ≡ Some (context_in a, x) =
          item_here batch lane k i a x asked_here there in
          let legal = shown.legal_journal batch (cipher_at contexts) showing lanes closed c in
          let stands = (legal.served p).1
          (x, subst (λ j. item_of batch p ≡ Some (j, x)) (sym is) at_place) in
          sym (ap (λ js. answer_line_of (reply_of batch (cipher_at contexts c) js p)) (journal_is c)
          ∙ ap answer_line_of
          (shown.replies_are batch (cipher_at contexts) showing lanes closed c p stands))

      block_lines : (f g : Place → List ℕ) (n i : ℕ)
          → ((j : ℕ) → i ≤ j → j < i + n → f (place lane k j) ≡ g (place lane k j))
          → map f (block lane k i n) ≡ map g (block lane k i n)
      block_lines f g zero i same = refl
      block_lines f g (suc n) i same =
          let first = same i (omega arith) (omega arith) in
          let rest = block_lines f g n (i + 1) (λ j up down. same j (omega arith) (omega arith)) in
          (λ h. first h ∷ rest h)

      lines_here : (refusal : Option CallRefusal) → call_refusal contexts call ≡ refusal
          → (x : CallLine) → call ≡ x → told_lines plan contexts (told lane) lane k x
          ≡ call_lines run_of lane k x
      lines_here (Some why) refused x is =
          let r : call_refusal contexts x ≡ Some why =
          ap (call_refusal contexts) (sym is) ∙ refused in
          ap (λ o. lines_unless o (told_served plan contexts (told lane) lane k x)) r
          ∙ sym (ap (λ o. lines_unless o (served_lines run_of lane k x)) r)
      lines_here None free (calls.Export context exporter size) is = refl
      lines_here None free (calls.Add name) is = absurd (no_refusal NoContext
          (sym (added_refused contexts name) ∙ ap (call_refusal contexts) (sym is) ∙ free))
      lines_here None free (calls.Retire name) is = absurd (no_refusal NoContext
          (sym (retired_refused contexts name) ∙ ap (call_refusal contexts) (sym is) ∙ free))
      lines_here None free (calls.Seal context item) is =
          let x = calls.Seal context item in
          let r : call_refusal contexts x ≡ None = ap (call_refusal contexts) (sym is) ∙ free in
          let a_is : a ≡ asked_by plan x =
          ap (λ o. ask_unless o (asked_by plan call)) free ∙ ap (asked_by plan) is in
          ap (λ o. lines_unless o (told_served plan contexts (told lane) lane k x)) r
          ∙ ap (λ line. line ∷ []) (told_is_due context 0 _ (sym (ap context_in a_is))
          (ap (λ b. slice_get (items_in b) 0) a_is))
          ∙ sym (ap (λ o. lines_unless o (served_lines run_of lane k x)) r)
      lines_here None free (calls.Unseal context item) is =
          let x = calls.Unseal context item in
          let r : call_refusal contexts x ≡ None = ap (call_refusal contexts) (sym is) ∙ free in
          let a_is : a ≡ asked_by plan x =
          ap (λ o. ask_unless o (asked_by plan call)) free ∙ ap (asked_by plan) is in
          ap (λ o. lines_unless o (told_served plan contexts (told lane) lane k x)) r
          ∙ ap (λ line. line ∷ []) (told_is_due context 0 _ (sym (ap context_in a_is))
          (ap (λ b. slice_get (items_in b) 0) a_is))
          ∙ sym (ap (λ o. lines_unless o (served_lines run_of lane k x)) r)
      lines_here None free (calls.UnsealAll context first many) is =
          let x = calls.UnsealAll context first many in
          let r : call_refusal contexts x ≡ None = ap (call_refusal contexts) (sym is) ∙ free in
          let a_is : a ≡ asked_by plan x =
          ap (λ o. ask_unless o (asked_by plan call)) free ∙ ap (asked_by plan) is in
          let fit = subst (HasItems (length plan.items)) is named in
          let size : length (items_in a) ≡ many = ap (λ b. length (items_in b)) a_is
          ∙ length-messages plan.items plan.pool first many fit in
          let replies = block_lines (λ p. answer_line ((told lane).replies p))
          (place_line run_of context) many 0 (λ j up down.
          let item = got (items_in a) j (omega arith) in
          told_is_due context j item.0 (sym (ap context_in a_is)) item.1) in
          let opens : OpensOn batch context lane k many = (
            sealed_messages plan.pool (items_from plan.items first many),
            asked_here ∙ ap Some a_is,
            sym (length-map (sealed_messages plan.pool (items_from plan.items first many)) unseal)
                ∙ length-messages plan.items plan.pool first many fit,
          ) in
          let guess : guess_at asks (told lane).guesses k
          ≡ guess_at asks (guesses_of run_of lane) k =
          ap (λ gs. guess_at asks gs k) (sym (guesses_are lane low)) in
          let misses : guess_at asks (told lane).misses k
          ≡ missed_in batch (cipher_at contexts context)
          (journal_of run_of context) lane k many (guess_at asks (guesses_of run_of lane) k) =
          sym (shown.missed_is batch (cipher_at contexts) showing lanes closed lane
          (subst (λ n. lane < n) (sym all_lanes) low) context k many opens)
          ∙ (λ h. missed_in batch (cipher_at contexts context)
          (sym (journal_is context) h) lane k many (guess h)) in
          ap (λ o. lines_unless o (told_served plan contexts (told lane) lane k x)) r
          ∙ (λ h. replies h ++ batch_line (guess h) (misses h) ∷ [])
          ∙ sym (ap (λ o. lines_unless o (served_lines run_of lane k x)) r)

      pub told_is_called : told_lines plan contexts (told lane) lane k call
          ≡ call_lines run_of lane k call
      told_is_called = lines_here (call_refusal contexts call) refl call refl
