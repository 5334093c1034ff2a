-- A lane on its way: what one more call adds to what the lane shows of a context.
use Rattle.std.proofs.Common.{◌≡◌, ℕ, zero, suc, ◌+◌, ◌==◌, Bool, true, false, cond, List, [], ◌∷◌, ◌++◌, length, sym, refl, ap, ◌∙◌, subst, arith, append_assoc, eq-eqb, Some, drop}
use Rattle.std.specs.Prelude.{slice_get}
use Rattle.call_places.specs.declared.entries.Place.{Place}
use Rattle.call_places.specs.declared.entries.Entry.{Entry}
use Rattle.call_places.specs.Entries.{seq_of, own}
use Rattle.hpke_context.specs.Answers.{Item, Cipher, Answer, answer, next, run}
use Rattle.context_books.specs.Batches.{Batch, Ask, items_in, context_in, block, place, asked, on, lane_of}
use Rattle.context_books.specs.Merging.{all_asked}
use Rattle.context_books.specs.Guesses.{missed}
use Rattle.context_books.specs.Entries.{step_for, number_after, numbers_from, steps_from, entries_from}
use Rattle.context_books.specs.Histories.{entry_places}
use Rattle.context_books.proofs.Lists.{on-append, on-spots, all_asked-append, append-nil}
use Rattle.context_books.proofs.Runs.{drop_step, item_here}
use Rattle.context_books.proofs.EntryNumbers.{from_each, entry_places-append, number_next, last_number, last_is}
use Rattle.context_books.specs.Lists.{EachFrom}
use Rattle.lane_workers.specs.Showing.{AnsweredAt, LaneShows, OpeningShows}
use Rattle.lane_workers.proofs.ShowingEntries.{own-append, each_longer}
use Rattle.lane_workers.specs.OnTheWay.{OfLane, AllReplied, LaneIs}

each_append : (P : ℕ → Entry → Type 0) (n : ℕ) (xs ys : List Entry) → EachFrom P n xs → EachFrom P (last_number n xs) ys → EachFrom P n (xs ++ ys)
each_append P n [] ys a b = b
each_append P n (e ∷ xs) ys a b = (a.0, each_append P (number_after n e.step) xs ys a.1 b)

of_lane : (P : ℕ → Entry → Type 0) (l n : ℕ) (es : List Entry) → EachFrom P n es → EachFrom (OfLane l P) n es
of_lane P l n [] t = tt
of_lane P l n (e ∷ es) t = (λ _. t.0, of_lane P l (number_after n e.step) es t.1)

pub own_of_block : (lane call i n : ℕ) (es : List Entry) → entry_places es ≡ block lane call i n → own lane es ≡ es
own_of_block lane call i zero [] e = refl
own_of_block lane call i zero (x ∷ es) e = absurd (let f : x.place ∷ entry_places es ≡ [] = e in cc)
own_of_block lane call i (suc n) [] e = absurd (let f : [] ≡ place lane call i ∷ block lane call (i + 1) n = e in cc)
own_of_block lane call i (suc n) (x ∷ es) e =
    let f : x.place ∷ entry_places es ≡ place lane call i ∷ block lane call (i + 1) n = e in
    let first : x.place ≡ place lane call i = cc in
    let rest : entry_places es ≡ block lane call (i + 1) n = cc in
    ap (λ b. cond b (x ∷ own lane es) (own lane es)) (eq-eqb x.place.lane lane (ap (λ (p : Place). p.lane) first)) ∙ ap (λ l. x ∷ l) (own_of_block lane call (i + 1) n es rest)

own_of_call : (context lane call : ℕ) (a : Ask) (es : List Entry) → entry_places es ≡ on context (asked lane call a) → own lane es ≡ es
own_of_call context lane call a es e = step (context_in a == context) (e ∙ on-spots context (context_in a) (block lane call 0 (length (items_in a))))
  where
    step : (b : Bool) → entry_places es ≡ cond b (block lane call 0 (length (items_in a))) [] → own lane es ≡ es
    step true f = own_of_block lane call 0 (length (items_in a)) es f
    step false f = own_of_block lane call 0 0 es f

-- ---- the steps of serving

pub lane_fresh : (batch : Batch) (context : ℕ) (c : Cipher) (lane : ℕ) (replies : Place → Answer) → LaneIs batch context c lane replies [] []
lane_fresh batch context c lane replies = record { places = refl; answered = tt }

-- entries of others change nothing
pub lane_waits : (batch : Batch) (context : ℕ) (c : Cipher) (lane : ℕ) (replies : Place → Answer) (done : List Ask) (seen others : List Entry) → own lane others ≡ []
    → LaneIs batch context c lane replies done seen → LaneIs batch context c lane replies done (seen ++ others)
lane_waits batch context c lane replies done seen others none t = record {
  places = ap entry_places (own-append lane seen others ∙ ap (λ m. own lane seen ++ m) none ∙ append-nil (own lane seen)) ∙ t.places;
  answered = each_longer (AnsweredAt batch context c replies) lane 0 seen others none t.answered;
}

-- one more call adds its block to its own context, and nothing to another one
pub lane_calls : (batch : Batch) (context : ℕ) (c : Cipher) (lane : ℕ) (replies : Place → Answer) (done : List Ask) (seen added : List Entry) (a : Ask)
    → LaneIs batch context c lane replies done seen → entry_places added ≡ on context (asked lane (length done) a) → EachFrom (AnsweredAt batch context c replies) (seq_of seen) added
    → LaneIs batch context c lane replies (done ++ a ∷ []) (seen ++ added)
lane_calls batch context c lane replies done seen added a t is answered =
    let call : 0 + length done ≡ length done = omega arith in
    let at : last_number 0 seen ≡ seq_of seen = last_is 0 seen ∙ (let z : 0 + seq_of seen ≡ seq_of seen = omega arith in z) in
    record {
      places = ap entry_places (own-append lane seen added ∙ ap (λ m. own lane seen ++ m) (own_of_call context lane (length done) a added is)) ∙ entry_places-append (own lane seen) added
          ∙ (λ i. t.places i ++ (is ∙ ap (λ k. on context (asked lane k a)) (sym call) ∙ ap (on context) (sym (append-nil (asked lane (0 + length done) a)))) i)
          ∙ sym (ap (on context) (all_asked-append lane 0 done (a ∷ [])) ∙ on-append context (all_asked lane 0 done) (all_asked lane (0 + length done) (a ∷ [])));
      answered = each_append (OfLane lane (AnsweredAt batch context c replies)) 0 seen added t.answered
          (subst (λ n. EachFrom (OfLane lane (AnsweredAt batch context c replies)) n added) (sym at) (of_lane (AnsweredAt batch context c replies) lane (seq_of seen) added answered));
    }

-- once all calls are made
pub lane_shows : (batch : Batch) (context : ℕ) (c : Cipher) (lane : ℕ) (replies : Place → Answer) (seen : List Entry) → LaneIs batch context c lane replies (lane_of batch lane) seen
    → LaneShows batch context c lane replies seen
lane_shows batch context c lane replies seen t =
    record { places = t.places; answered = from_each (OfLane lane (AnsweredAt batch context c replies)) seen t.answered }

-- ---- an opening of several messages

-- it was guessed after what was seen then, and it added its block after others' entries
pub opening_shows : (c : Cipher) (peeked others : List Entry) (lane call first_stamp : ℕ) (items : List Item) → own lane others ≡ []
    → OpeningShows c ((peeked ++ others) ++ entries_from lane call 0 first_stamp (steps_from c (seq_of (peeked ++ others)) items)) lane call items
    (seq_of peeked) (missed (seq_of peeked) 0 (numbers_from c (seq_of (peeked ++ others)) items))
opening_shows c peeked others lane call first_stamp items none =
    let added = entries_from lane call 0 first_stamp (steps_from c (seq_of (peeked ++ others)) items) in
    record {
      front = peeked;
      others = others;
      after = [];
      due = seq_of (peeked ++ others);
      first_stamp = first_stamp;
      stands = append_assoc peeked others added ∙ ap (λ m. peeked ++ (others ++ m)) (sym (append-nil added));
      of_others = none;
      due_is = refl;
      guessed = refl;
      missed = refl;
    }

-- later entries change nothing
pub opening_stays : (c : Cipher) (seen later : List Entry) (lane call : ℕ) (items : List Item) (guess misses : ℕ) → OpeningShows c seen lane call items guess misses → OpeningShows c (seen ++ later) lane call items guess misses
opening_stays c seen later lane call items guess misses t =
    let added = entries_from lane call 0 t.first_stamp (steps_from c t.due items) in
    record {
      front = t.front;
      others = t.others;
      after = t.after ++ later;
      due = t.due;
      first_stamp = t.first_stamp;
      stands = ap (λ m. m ++ later) t.stands ∙ append_assoc t.front (t.others ++ (added ++ t.after)) later
          ∙ ap (λ m. t.front ++ m) (append_assoc t.others (added ++ t.after) later ∙ ap (λ m. t.others ++ m) (append_assoc added t.after later));
      of_others = t.of_others;
      due_is = t.due_is;
      guessed = t.guessed;
      missed = t.missed;
    }

-- ---- what the steps of the sequential context give

answered_from : (batch : Batch) (c : Cipher) (replies : Place → Answer) (n lane call i stamp : ℕ) (a : Ask) (xs : List Item) → slice_get (lane_of batch lane) call ≡ Some a → drop i (items_in a) ≡ xs
    → AllReplied replies (block lane call i (length xs)) (run c n xs) → EachFrom (AnsweredAt batch (context_in a) c replies) n (entries_from lane call i stamp (steps_from c n xs))
answered_from batch c replies n lane call i stamp a [] e d r = tt
answered_from batch c replies n lane call i stamp a (x ∷ xs) e d r =
    let t = drop_step (items_in a) xs i x d in
    let rest = answered_from batch c replies (next n (answer c n x)) lane call (i + 1) (stamp + 1) a xs e t.1 r.1 in (
      record { item = x; of_place = item_here batch lane call i a x e t.0; step = refl; reply = r.0 },
      subst (λ k. EachFrom (AnsweredAt batch (context_in a) c replies) k (entries_from lane call (i + 1) (stamp + 1) (steps_from c (next n (answer c n x)) xs)))
          (sym (number_next c n x (step_for x (answer c n x)) refl)) rest,
    )

-- the entries of a call with the sequential context's steps, where its replies are the answers
pub call_answered : (batch : Batch) (c : Cipher) (replies : Place → Answer) (n lane call stamp : ℕ) (a : Ask) → slice_get (lane_of batch lane) call ≡ Some a
    → AllReplied replies (block lane call 0 (length (items_in a))) (run c n (items_in a)) → EachFrom (AnsweredAt batch (context_in a) c replies) n (entries_from lane call 0 stamp (steps_from c n (items_in a)))
call_answered batch c replies n lane call stamp a e r = answered_from batch c replies n lane call 0 stamp a (items_in a) e refl r
