-- What one more call adds to what a lane shows.
use Rattle.std.proofs.Common.{◌≡◌, ◌≢◌, ℕ, zero, suc, ◌+◌, ◌<◌, ◌==◌, inl, inr, Bool, true, false, cond, List, [], ◌∷◌, ◌++◌, length, map, take, Option, Some, None, sym, refl, ap, ◌∙◌, subst, arith, eq-eqb, ne_eqb}
use Rattle.std.specs.Prelude.{slice_get, slice_index, flat_map}
use Rattle.std.proofs.lemmas.List.Concat.{flat_map-append}
use Rattle.call_places.specs.declared.entries.Entry.{Entry}
use Rattle.call_places.specs.Messages.{SealedMessage}
use Rattle.call_places.specs.Entries.{own, seq_of}
use Rattle.hpke_context.specs.Answers.{Answer, Cipher, run}
use Rattle.hpke_context.specs.Contexts.{ContextView}
use Rattle.context_books.specs.Batches.{Ask, ToOpenAll, Batch, block, asked, on, unseal, items_in, context_in}
use Rattle.context_books.specs.Guesses.{guess_at, guess_count}
use Rattle.context_books.specs.Entries.{entries_from, steps_from}
use Rattle.context_books.specs.Histories.{entry_places}
use Rattle.context_books.proofs.Lists.{append-nil, on-spots, is_cases}
use Rattle.context_books.proofs.OneLane.{taken_more, few_taken}
use Rattle.context_books.specs.Lists.{EachFrom}
use Rattle.lane_workers.specs.Showing.{AnsweredAt, OpeningShows}
use Rattle.lane_workers.specs.OnTheWay.{AllReplied, LaneIs}
use Rattle.lane_workers.proofs.ShowingEntries.{block_places}
use Rattle.lane_workers.proofs.ShowingCalls.{lane_waits, lane_calls, opening_stays, call_answered}
use Rattle.lane_workers.proofs.Stamping.{added_to}
use Rattle.batch_plans.specs.declared.plan.Plan.{Plan}
use Rattle.batch_plans.specs.declared.plan.CallLine.{CallLine}
use Rattle.batch_plans.specs.Progress.{Progress}
use Rattle.batch_plans.specs.ReplyText.{numbered}
use Rattle.context_books.specs.Asks.{ask_of, batch_of, cipher_at}
use Rattle.context_books.proofs.Done.{ask_at}
use Rattle.context_books.specs.Answered.{HasAnswered}
use Rattle.lane_workers.specs.Served.{Told, told_lines}
use Rattle.context_books.specs.LaneCalls as lanes
use Rattle.lane_workers.specs.Lanes.{asks_of, told_done, Tells, Says}

-- ---- lists that grow at their end

get_front : {X : Type 0} (xs ys : List X) (i : ℕ) (x : X) → slice_get xs i ≡ Some x
    → slice_get (xs ++ ys) i ≡ Some x
get_front [] ys i x e = absurd (let f : None ≡ Some x = e in cc)
get_front (y ∷ xs) ys zero x e = e
get_front (y ∷ xs) ys (suc i) x e = get_front xs ys i x e

pub get_last : {X : Type 0} (xs : List X) (x : X) → slice_get (xs ++ x ∷ []) (length xs) ≡ Some x
get_last [] x = refl
get_last (y ∷ xs) x = get_last xs x

pub tells_less : (lane : ℕ) (given : List (List Answer)) (guesses misses gs ms : List ℕ)
    (answers : List Answer) (told : Told)
    → Tells lane (given ++ answers ∷ []) (guesses ++ gs) (misses ++ ms) told
    → Tells lane given guesses misses told
tells_less lane given guesses misses gs ms answers told t = record {
  replies = λ call xs e. t.replies call xs (get_front given (answers ∷ []) call xs e);
  guesses = λ i g e. t.guesses i g (get_front guesses gs i g e);
  misses = λ i m e. t.misses i m (get_front misses ms i m e);
}

numbered-append : {X Y : Type 0} (f : ℕ → X → Y) (start : ℕ) (xs ys : List X)
    → numbered f start (xs ++ ys) ≡ numbered f start xs ++ numbered f (start + length xs) ys
numbered-append f start [] ys =
    ap (λ n. numbered f n ys) (let e : start ≡ start + 0 = omega arith in e)
numbered-append f start (x ∷ xs) ys =
    ap (λ l. f start x ∷ l) (numbered-append f (start + 1) xs ys
    ∙ ap (λ n. numbered f (start + 1) xs ++ numbered f n ys)
    (let e : start + 1 + length xs ≡ start + suc (length xs) = omega arith in e))

-- ---- the asks of a lane

module _ (plan : Plan) (contexts : List (Option ContextView)) (lane k : ℕ) (call : CallLine)
    (at : slice_get (lanes.lane_calls plan lane) k ≡ Some call) where
  abbrev batch : Batch
  batch = batch_of plan contexts

  abbrev asks : List Ask
  asks = asks_of plan contexts lane

  abbrev a : Ask
  a = ask_of plan contexts call

  abbrev n : ℕ
  n = context_in a

  abbrev c : Cipher
  c = cipher_at contexts n

  pub ask_here : slice_get asks k ≡ Some a
  ask_here = ask_at (record { plan = plan; contexts = contexts; journals = []; guesses = [] }) lane k
      call at

  -- the lines of the first calls, and of one more
  pub told_more : (told : Told) → told_done plan contexts told lane (k + 1)
      ≡ told_done plan contexts told lane k ++ told_lines plan contexts told lane k call
  told_more told =
      let front = take k (lanes.lane_calls plan lane) in
      let f = told_lines plan contexts told lane in
      let few : 0 + length front ≡ k =
      (let e = few_taken (lanes.lane_calls plan lane) k call at in omega arith) in
      ap (λ cs. flat_map (λ (lines : List (List ℕ)). lines) (numbered f 0 cs))
      (taken_more (lanes.lane_calls plan lane) k call at)
      ∙ ap (flat_map (λ lines. lines)) (numbered-append f 0 front (call ∷ [])
      ∙ ap (λ i. numbered f 0 front ++ f i call ∷ []) few)
      ∙ flat_map-append (λ (lines : List (List ℕ)). lines) (numbered f 0 front) (f k call ∷ [])
      ∙ ap (λ l. told_done plan contexts told lane k ++ l) (append-nil (f k call))

  -- ---- the entries that the call adds, in each context

  module _ (told : Told) (seen others : ℕ → List Entry) (first due : ℕ)
      (none : (d : ℕ) → own lane (others d) ≡ []) (due_is : due ≡ seq_of (seen n ++ others n))
      (replied : AllReplied told.replies (block lane k 0 (length (items_in a)))
      (run c due (items_in a))) where
    abbrev added : ℕ → List Entry
    added d = added_to lane a k first (steps_from c due (items_in a)) d

    abbrev whole : List Entry
    whole = entries_from lane k 0 first (steps_from c due (items_in a))

    added_places : (d : ℕ) → entry_places (added d) ≡ on d (asked lane (length (take k asks)) a)
    added_places d =
        step (n == d)
        ∙ sym (on-spots d n (block lane k 0 (length (items_in a))))
        ∙ ap (λ i. on d (asked lane i a)) (sym (few_taken asks k a ask_here))
      where
        step : (b : Bool) → entry_places (cond b whole [])
            ≡ cond b (block lane k 0 (length (items_in a))) []
        step true = block_places c due lane k first (items_in a)
        step false = refl

    added_answered : (d : ℕ) → EachFrom (AnsweredAt batch d (cipher_at contexts d) told.replies)
        (seq_of (seen d ++ others d)) (added d)
    added_answered d = elim (is_cases n d) [
      | inl same ↦ subst (λ i. EachFrom (AnsweredAt batch i (cipher_at contexts i) told.replies)
          (seq_of (seen i ++ others i)) (added i)) same
          (subst (λ b. EachFrom (AnsweredAt batch n c told.replies) (seq_of (seen n ++ others n))
          (cond b whole [])) (sym (eq-eqb n n refl))
          (subst (λ i. EachFrom (AnsweredAt batch n c told.replies) i whole) due_is
          (call_answered batch c told.replies due lane k first a ask_here replied)))
      | inr apart ↦ subst (λ b. EachFrom (AnsweredAt batch d (cipher_at contexts d) told.replies)
          (seq_of (seen d ++ others d)) (cond b whole [])) (sym (ne_eqb n d apart)) tt
    ]

    pub shows_more : (d : ℕ)
        → LaneIs batch d (cipher_at contexts d) lane told.replies (take k asks) (seen d)
        → LaneIs batch d (cipher_at contexts d) lane told.replies (take (k + 1) asks)
        ((seen d ++ others d) ++ added d)
    shows_more d t =
        subst (λ done. LaneIs batch d (cipher_at contexts d) lane told.replies done
        ((seen d ++ others d) ++ added d)) (sym (taken_more asks k a ask_here))
        (lane_calls batch d (cipher_at contexts d) lane told.replies (take k asks)
        (seen d ++ others d) (added d) a
        (lane_waits batch d (cipher_at contexts d) lane told.replies (take k asks) (seen d) (others d)
        (none d) t) (added_places d) (added_answered d))

    -- and its lines are behind those before
    pub says_more : (old new : Progress) (new_seen : ℕ → List Entry)
        → ((d : ℕ) → new_seen d ≡ (seen d ++ others d) ++ added d)
        → Says plan contexts lane k seen old told
        → ((messages : List SealedMessage) → a ≡ ToOpenAll n messages
        → OpeningShows c ((seen n ++ others n) ++ added n) lane k (map unseal messages)
        (guess_at asks told.guesses k) (guess_at asks told.misses k))
        → HasAnswered (take k (lanes.lane_calls plan lane) ++ call ∷ [])
        (told_done plan contexts told lane k ++ told_lines plan contexts told lane k call) new
        → Says plan contexts lane (k + 1) new_seen new told
    says_more old new new_seen seen_is t opens answered = record {
      shows = λ d. subst (LaneIs batch d (cipher_at contexts d) lane told.replies
          (take (k + 1) asks)) (sym (seen_is d)) (shows_more d (t.shows d));
      openings = λ d i messages low is. elim (is_cases i k) [
        | inl same ↦ (let a_is : Some a ≡ Some (ToOpenAll d messages) =
            sym ask_here ∙ ap (slice_get asks) (sym same) ∙ is in
            let ask_is : a ≡ ToOpenAll d messages = one_ask a (ToOpenAll d messages) a_is in
            let there : n ≡ d = ap context_in ask_is in
            subst (λ j. OpeningShows (cipher_at contexts d) (new_seen d) lane j (map unseal messages)
            (guess_at asks told.guesses j) (guess_at asks told.misses j)) (sym same)
            (subst (λ j. OpeningShows (cipher_at contexts j) (new_seen j) lane k (map unseal messages)
            (guess_at asks told.guesses k) (guess_at asks told.misses k)) there
            (subst (λ es. OpeningShows c es lane k (map unseal messages)
            (guess_at asks told.guesses k) (guess_at asks told.misses k)) (sym (seen_is n))
            (opens messages (ask_is ∙ ap (λ j. ToOpenAll j messages) (sym there))))))
        | inr apart ↦ (let earlier : i < k = below i k low apart in
            subst (λ es. OpeningShows (cipher_at contexts d) es lane i (map unseal messages)
            (guess_at asks told.guesses i) (guess_at asks told.misses i)) (sym (seen_is d))
            (opening_stays (cipher_at contexts d) (seen d ++ others d) (added d) lane i
            (map unseal messages) (guess_at asks told.guesses i) (guess_at asks told.misses i)
            (opening_stays (cipher_at contexts d) (seen d) (others d) lane i
            (map unseal messages) (guess_at asks told.guesses i) (guess_at asks told.misses i)
            (t.openings d i messages earlier is))))
      ];
      answered = subst (λ lines. HasAnswered (take (k + 1) (lanes.lane_calls plan lane)) lines new)
          (sym (told_more told))
          (subst (λ cs. HasAnswered cs
          (told_done plan contexts told lane k ++ told_lines plan contexts told lane k call) new)
          (sym (taken_more (lanes.lane_calls plan lane) k call at)) answered);
    }
      where
        one_ask : (x y : Ask) → Some x ≡ Some y → x ≡ y
        one_ask x y e = cc

        below : (i k : ℕ) → i < k + 1 → i ≢ k → i < k
        below i k low apart = omega arith

  -- ---- guesses

  -- the guess of a call that keeps one
  pub guess_now : (gs all : List ℕ) (g : ℕ) → length gs ≡ guess_count (take k asks)
      → ((i x : ℕ) → slice_get (gs ++ g ∷ []) i ≡ Some x → slice_index all i ≡ x)
      → guess_at asks all k ≡ g
  guess_now gs all g count t = ap (slice_index all) (sym count) ∙ t (length gs) g (get_last gs g)
