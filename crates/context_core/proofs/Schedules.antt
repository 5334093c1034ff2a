-- Every list of events ends in legal journals, one legal history, and guesses that may have been made.
use Rattle.std.proofs.Common.{◌≡◌, ℕ, zero, suc, ◌+◌, ◌<◌, List, [], ◌∷◌, ◌++◌, length, take, map, sym, refl, ap, ◌∙◌, subst, arith, append_assoc, length-append, Some, inl, inr}
use Rattle.std.specs.Prelude.{slice_get, slice_index}
use Rattle.std.proofs.lemmas.Bool.{cases_lt}
use Rattle.std.proofs.lemmas.List.{get_or_past, get_or-append-add, length-map}
use Rattle.std.proofs.lemmas.List.Sums.{sum_by-cons}
use Rattle.std.proofs.lemmas.Option.{slice_get_within}
use Rattle.call_places.specs.declared.entries.Place.{Place}
use Rattle.hpke_context.specs.Answers.{Cipher, run}
use Rattle.call_places.specs.Messages.{SealedMessage}
use Rattle.context_books.specs.Batches.{Batch, Ask, Nothing, ToSeal, ToOpen, ToOpenAll, Spot, spots, block, unseal, asked, on, lane_of, items_of, IsServed}
use Rattle.context_books.specs.Merging.{all_asked, own_spots, IsHistory}
use Rattle.context_books.specs.Legal.{OpensOn, Legal, replies, due_after}
use Rattle.context_books.specs.Guesses as guesses
use Rattle.context_books.specs.Guesses.{AllGuessed, guess_of, guess_count, guess_at}
use Rattle.context_books.specs.Histories.{LegalHistory, journals_of}
use Rattle.context_books.proofs.Lists.{own_places-on, on-append, on-spots_same, append-nil}
use Rattle.context_books.proofs.Members.{contains_in, in_contains, got}
use Rattle.context_books.proofs.OneLane.{no_ask}
use Rattle.context_books.proofs.Runs.{call_replies}
use Rattle.context_books.proofs.HistoryJournals.{on_in, parts_legal, legal_history}
use Rattle.context_core.specs.Core as core
use Rattle.context_core.specs.Core.{Task, Lane, Core, journal, start, to_the_ends}
use Rattle.context_core.specs.Openings.{OpensInTurn}
use Rattle.context_core.proofs.ScheduleSteps.{StandsIn, AllStand, LaneHolds, Holds, all_happen_keeps, start_holds}
use Rattle.context_core.specs.CoreStages.{Stage, Fresh, HasGuess, HasTests, HasPlaces, tasks_at, placed}
use Rattle.context_core.proofs.ScheduleEnds.{all_end, left_of}

as_many : (b : Ask) (x y : ℕ) → length (guess_of b x) ≡ length (guess_of b y)
as_many Nothing x y = refl
as_many (ToSeal d aad text) x y = refl
as_many (ToOpen d aad ct) x y = refl
as_many (ToOpenAll d ms) x y = refl

-- ---- a call that stands, by its index

module _ (batch : Batch) (ciphers : ℕ → Cipher) (h : List Spot) (l : ℕ) where
  stands_at : (call : ℕ) (asks : List Ask) (gs : List ℕ) → AllStand batch ciphers h l call asks gs → (i c : ℕ) (ms : List SealedMessage) → slice_get asks i ≡ Some (ToOpenAll c ms)
      → StandsIn batch ciphers h l (call + i) (ToOpenAll c ms) (guess_at asks gs i)
  stands_at call [] gs t i c ms e = absurd (no_ask _ e)
  stands_at call (a ∷ asks) gs t zero c ms e =
      let is : a ≡ ToOpenAll c ms = (let f : Some a ≡ Some (ToOpenAll c ms) = e in cc) in
      let first : gs ≡ t.0 ∷ t.1 = t.2 ∙ ap (λ b. guess_of b t.0 ++ t.1) is in
      subst (λ k. StandsIn batch ciphers h l k (ToOpenAll c ms) (guess_at (a ∷ asks) gs 0)) (let s : call ≡ call + 0 = omega arith in s)
      (subst (StandsIn batch ciphers h l call (ToOpenAll c ms)) (sym (ap (λ m. slice_index m 0) first)) (subst (λ b. StandsIn batch ciphers h l call b t.0) is t.3))
  stands_at call (a ∷ asks) gs t (suc i) c ms e =
      let rest = stands_at (call + 1) asks t.1 t.4 i c ms e in
      let count : guess_count (take (suc i) (a ∷ asks)) ≡ length (guess_of a t.0) + guess_count (take i asks) = sum_by-cons (λ b. length (guess_of b 0)) a (take i asks) ∙ ap (λ n. n + guess_count (take i asks)) (as_many a 0 t.0) in
      let same : guess_at (a ∷ asks) gs (suc i) ≡ guess_at asks t.1 i =
      ap (slice_index gs) count ∙ ap (λ m. slice_index m (length (guess_of a t.0) + guess_count (take i asks))) t.2 ∙ get_or-append-add (guess_of a t.0) t.1 (guess_count (take i asks)) 0 in
      subst (λ k. StandsIn batch ciphers h l k (ToOpenAll c ms) (guess_at (a ∷ asks) gs (suc i))) (let s : call + 1 + i ≡ call + suc i = omega arith in s)
      (subst (StandsIn batch ciphers h l (call + 1 + i) (ToOpenAll c ms)) (sym same) rest)

  all_counted : (call : ℕ) (asks : List Ask) (gs : List ℕ) → AllStand batch ciphers h l call asks gs → length gs ≡ guess_count asks
  all_counted call [] gs t = ap length t
  all_counted call (a ∷ asks) gs t =
      ap length t.2 ∙ length-append (guess_of a t.0) t.1 ∙ (λ i. as_many a t.0 0 i + all_counted (call + 1) asks t.1 t.4 i) ∙ sym (sum_by-cons (λ b. length (guess_of b 0)) a asks)

  -- in the journal of its context
  guessed : (call c : ℕ) (ms : List SealedMessage) (g : ℕ) → StandsIn batch ciphers h l call (ToOpenAll c ms) g → guesses.Guessed batch (ciphers c) (on c h) l call (length ms) g
  guessed call c ms g t =
      let count : length (map unseal ms) ≡ length ms = length-map ms unseal in
      let here : on c (asked l call (ToOpenAll c ms)) ≡ block l call 0 (length ms) = on-spots_same c (block l call 0 (length (map unseal ms))) ∙ ap (block l call 0) count in
      record {
        front = on c t.front;
        others = on c t.others;
        after = on c t.after;
        stands = ap (on c) t.stands ∙ on-append c t.front (t.others ++ (asked l call (ToOpenAll c ms) ++ t.after))
            ∙ ap (λ m. on c t.front ++ m) (on-append c t.others (asked l call (ToOpenAll c ms) ++ t.after)
            ∙ ap (λ m. on c t.others ++ m) (on-append c (asked l call (ToOpenAll c ms)) t.after ∙ ap (λ m. m ++ on c t.after) here));
        of_others = own_places-on l c t.others ∙ ap (on c) t.of_others;
        number = t.number;
      }

-- ---- a lane at its end

-- what a lane at its end shows
pub record IsEnded (batch : Batch) (ciphers : ℕ → Cipher) (h : List Spot) (l : ℕ) (gs : List ℕ) : Type 0 where
  pub places : own_spots l h ≡ all_asked l 0 (lane_of batch l)
  pub stand : AllStand batch ciphers h l 0 (lane_of batch l) gs

nothing_left : (stage : Stage) (call : ℕ) (rest : List Ask) → tasks_at stage call rest ≡ [] → rest ≡ []
nothing_left stage call [] e = refl
nothing_left Fresh call (Nothing ∷ rest) e = absurd (let f : Rattle.std.proofs.Common.◌∷◌ _ _ ≡ [] = e in cc)
nothing_left Fresh call (ToSeal c aad text ∷ rest) e = absurd (let f : Rattle.std.proofs.Common.◌∷◌ _ _ ≡ [] = e in cc)
nothing_left Fresh call (ToOpen c aad ct ∷ rest) e = absurd (let f : Rattle.std.proofs.Common.◌∷◌ _ _ ≡ [] = e in cc)
nothing_left Fresh call (ToOpenAll c ms ∷ rest) e = absurd (let f : Rattle.std.proofs.Common.◌∷◌ _ _ ≡ [] = e in cc)
nothing_left HasGuess call (a ∷ rest) e = absurd (let f : Rattle.std.proofs.Common.◌∷◌ _ _ ≡ [] = e in cc)
nothing_left HasTests call (a ∷ rest) e = absurd (let f : Rattle.std.proofs.Common.◌∷◌ _ _ ≡ [] = e in cc)
nothing_left HasPlaces call (a ∷ rest) e = absurd (let f : Rattle.std.proofs.Common.◌∷◌ _ _ ≡ [] = e in cc)

none_of : (ts : List Task) → length ts ≡ 0 → ts ≡ []
none_of [] e = refl
none_of (t ∷ ts) e = absurd (omega arith)

ended : (batch : Batch) (ciphers : ℕ → Cipher) (h : List Spot) (l : ℕ) (s : Lane) → LaneHolds batch ciphers h l s → length s.to_come ≡ 0 → IsEnded batch ciphers h l s.guesses
ended batch ciphers h l s t e =
    let none : t.rest ≡ [] = nothing_left t.stage (length t.done) t.rest (sym t.at ∙ none_of s.to_come e) in
    let all : lane_of batch l ≡ t.done = t.all ∙ ap (λ r. t.done ++ r) none ∙ append-nil t.done in
    record {
      places = t.places ∙ ap (λ r. all_asked l 0 t.done ++ placed t.stage l (length t.done) r) none ∙ append-nil (all_asked l 0 t.done) ∙ ap (all_asked l 0) (sym all);
      stand = subst (λ d. AllStand batch ciphers h l 0 d s.guesses) (sym all) t.stand;
    }

-- ---- the whole core

module _ (batch : Batch) (ciphers : ℕ → Cipher) (schedule : List ℕ) where
  abbrev last : Core
  last = core.core batch ciphers schedule

  pub holds : Holds batch ciphers last
  holds = all_happen_keeps batch ciphers (start batch) (schedule ++ to_the_ends 0 batch) (start_holds batch ciphers)

  lane_ends : (l : ℕ) (s : Lane) → slice_get last.lanes l ≡ Some s → IsEnded batch ciphers last.history l s.guesses
  lane_ends l s e =
      let within : l < length last.lanes = slice_get_within last.lanes l s e in
      let count = holds.count in
      ended batch ciphers last.history l s (holds.each l s e) (sym (ap left_of e) ∙ all_end batch ciphers schedule l (omega arith))

  lane_there : (l : ℕ) → l < length batch → (s : Lane) × (slice_get last.lanes l ≡ Some s)
  lane_there l low = got last.lanes l (let c = holds.count in omega arith)

  own_in_history : (l : ℕ) → own_spots l last.history ≡ all_asked l 0 (lane_of batch l)
  own_in_history l = elim (cases_lt l (length batch)) [
    | inl low ↦ (let s = lane_there l low in (lane_ends l s.0 s.1).places)
    | inr high ↦ holds.others l high ∙ sym (ap (all_asked l 0) (get_or_past batch l [] high))
  ]

  -- where an opening of several messages stands
  opening_at : (c l call n : ℕ) → OpensOn batch c l call n → (front after : List Spot) × (last.history ≡ front ++ (spots c (block l call 0 n) ++ after))
  opening_at c l call n o = elim (cases_lt l (length batch)) [
    | inl low ↦ (let s = lane_there l low in
        let t = stands_at batch ciphers last.history l 0 (lane_of batch l) s.0.guesses (lane_ends l s.0 s.1).stand call c o.0 o.1 in
        let is : asked l (0 + call) (ToOpenAll c o.0) ≡ spots c (block l call 0 n) = (λ i. spots c (block l ((let z : 0 + call ≡ call = omega arith in z) i) 0 ((length-map o.0 unseal ∙ o.2) i))) in (
          t.front ++ t.others,
          t.after,
          t.stands ∙ sym (append_assoc t.front t.others (asked l (0 + call) (ToOpenAll c o.0) ++ t.after)) ∙ ap (λ m. (t.front ++ t.others) ++ (m ++ t.after)) is,
        ))
    | inr high ↦ absurd (no_ask (ToOpenAll c o.0) (sym (ap (λ (asks : List Ask). slice_get asks call) (get_or_past batch l [] high)) ∙ o.1))
  ]

  pub journals_legal : (c : ℕ) → Legal batch c (journal last c)
  journals_legal = parts_legal batch last.history own_in_history opening_at

  pub openings_in_turn : (c l call : ℕ) (messages : List SealedMessage) → slice_get (lane_of batch l) call ≡ Some (ToOpenAll c messages)
      → OpensInTurn batch (ciphers c) (journal last c) l call messages
  openings_in_turn c l call messages is =
      let size : length (map unseal messages) ≡ length messages = length-map messages unseal in
      let t = (journals_legal c).together l call (length messages) (messages, is, refl) in
      let stands = t.2 ∙ ap (λ n. t.0 ++ (block l call 0 n ++ t.1)) (sym size) in
      record {
        front = t.0;
        after = t.1;
        stands = t.2;
        answers = call_replies batch (ciphers c) (journal last c) l call (ToOpenAll c messages) t.0 t.1 is stands
            ∙ ap (λ n. replies batch (ciphers c) t.0 ++ (run (ciphers c) (due_after batch (ciphers c) t.0) (map unseal messages)
            ++ run (ciphers c) (due_after batch (ciphers c) (t.0 ++ block l call 0 n)) (items_of batch t.1))) size;
      }

  pub all_ended : (l : ℕ) (s : Lane) → slice_get last.lanes l ≡ Some s → s.to_come ≡ []
  all_ended l s e =
      let within : l < length last.lanes = slice_get_within last.lanes l s e in
      let count = holds.count in
      none_of s.to_come (sym (ap left_of e) ∙ all_end batch ciphers schedule l (omega arith))

  pub lane_count : length last.lanes ≡ length batch
  lane_count = holds.count

  pub all_guessed : (l : ℕ) (s : Lane) → slice_get last.lanes l ≡ Some s → AllGuessed batch ciphers (journal last) l s.guesses
  all_guessed l s e =
      let t = lane_ends l s e in
      record {
        count = all_counted batch ciphers last.history l 0 (lane_of batch l) s.guesses t.stand;
        each = λ c call n o.
            subst (λ m. guesses.Guessed batch (ciphers c) (on c last.history) l call m (guess_at (lane_of batch l) s.guesses call)) o.2
            (subst (λ k. guesses.Guessed batch (ciphers c) (on c last.history) l k (length o.0) (guess_at (lane_of batch l) s.guesses call)) (let z : 0 + call ≡ call = omega arith in z)
            (guessed batch ciphers last.history l (0 + call) c o.0 (guess_at (lane_of batch l) s.guesses call)
            (stands_at batch ciphers last.history l 0 (lane_of batch l) s.guesses t.stand call c o.0 o.1)));
      }

  pub one_history : (contexts : ℕ) → ((c : ℕ) (p : Place) → IsServed batch c p → c < contexts) → IsHistory batch contexts last.history
  one_history contexts few = record {
    within = λ s has. few s.context s.place (((journals_legal s.context).served s.place).0 (contains_in (on s.context last.history) s.place (on_in last.history s (in_contains last.history s has))));
    lanes = own_in_history;
    together = opening_at;
  }

  pub legal_together : (contexts : ℕ) → ((c : ℕ) (p : Place) → IsServed batch c p → c < contexts) → LegalHistory batch (journals_of contexts last.history)
  legal_together contexts few = legal_history batch contexts last.history (one_history contexts few)
